-- The input's own levels are a choice in the band, so the band is never empty; and the whole count of a choice in the band of half-width w differs from the input's by
-- at most w + 1. Assumes nothing.
use mathlib.Core.Path.{◌≡◌, sym, ap, ◌∙◌, subst, subst⁻¹}
use mathlib.Core.List.Memᴰ.{head as here}
use mathlib.Core.List.{List, [], ◌∷◌, ◌++◌, Memᴰ as Mem}
use Prim.Native.Nat.{ℕ, zero, suc, ◌+◌, ◌-◌, ◌*◌, ◌≤◌, ◌<◌}
use native.Mathlib.Nat.{not-suc-le-zero, add-zero, zero-add, add-suc}
use native.Mathlib.Omega.{arith}
use lib.Dec.{T, leb, le→leb, ltb}
use lib.IntN.{ℤ, pos}
use lib.ListN.{length, get_or}
use lib.Ieee.Fits.{and_i}
use Rattle.block.specs.Block.{Block, covered, input_at, nonzeros_among, input_remaining, ideal, candidates_at, input_from}
use Rattle.block.specs.Band.{input_after, position_at, positions_from, past_window, tail_of, problem_of}
use Rattle.block_checks.specs.Passed.{Passed}
use Rattle.candidates.proofs.Laws.{candidates-listed}
use Rattle.least_cost.specs.Position.{nz, within}
use Rattle.least_cost.specs.Choice.{Choice, done, takes, remaining, in_band}
use Rattle.least_cost.specs.Search.{count_of, Banded}
use Rattle.least_cost.proofs.Trial.{nz-le}
use Rattle.prices.specs.Book.{Book}
use Rattle.prices.specs.Checks.{book_refusal}
use Rattle.weights.specs.declared.Window.{Window}
use Rattle.problem.specs.Tokens.{past_length, nonzeros_of}
use Rattle.problem.proofs.Tokens.{past-nonzeros, joined}
use Rattle.problem.proofs.Problem.{first-near}

first-mem : (q : ℤ) (xs : List ℤ) → get_or xs 0 (pos 0) ≡ q → 1 ≤ length xs → Mem q xs
first-mem q [] e h = absurd (not-suc-le-zero h)
first-mem q (x ∷ xs) e h = here (sym e)

-- two stretches of the input
stretches : (b : Block) (k n m : ℕ) → input_from b k n ++ input_from b (k + n) m ≡ input_from b k (n + m)
unfolding input_from
stretches b k zero m = ap (λ (i : ℕ). input_from b i m) (add-zero k) ∙ ap (input_from b k) (sym (zero-add m))
stretches b k (suc n) m =
    let e : k + suc n ≡ suc k + n = omega arith in
    let d : suc n + m ≡ suc (n + m) = omega arith in
    subst⁻¹ (λ (j : ℕ). input_at b k ∷ (input_from b (suc k) n ++ input_from b j m) ≡ input_from b k (suc n + m)) e
    (subst⁻¹ (λ (j : ℕ). input_at b k ∷ (input_from b (suc k) n ++ input_from b (suc k + n) m) ≡ input_from b k j) d (ap (λ (qs : List ℤ). input_at b k ∷ qs) (stretches b (suc k) n m)))

-- the input's count from scan position k on, window and tail
module _ (v : Window) (b : Block) (fits : covered b + v.length ≤ 64 * covered b) where
  pub input-count : (k n : ℕ) → k + n ≡ covered b + v.length → remaining (past_window v b) (input_from b k n) ≡ input_remaining b k
  unfolding past_window input_remaining past_length
  input-count k n e =
      let c : ℕ = covered b in
      let p : ℕ = 64 * c - (c + v.length) in
      let long : n + p ≡ 64 * c - k = omega arith in
      ap (λ (s : ℕ). remaining s (input_from b k n)) (sym (past-nonzeros b (c + v.length) p))
      ∙ joined (input_from b k n) (input_from b (c + v.length) p)
      ∙ ap (λ (j : ℕ). nonzeros_of (input_from b k n ++ input_from b j p)) (sym e)
      ∙ ap nonzeros_of (stretches b k n p)
      ∙ past-nonzeros b k (n + p)
      ∙ ap (nonzeros_among b.scan b.levels k) long

module _ (w : ℕ) (v : Window) (book : Book) (b : Block) (P : Passed v b) where
  input-listed : (i : ℕ) → i < v.length → Mem (input_at b (covered b + i)) (candidates_at v b i)
  unfolding candidates_at
  input-listed i h =
      let fits = P.window.fits in
      let l = candidates-listed (ideal b i) (input_at b (covered b + i)) (ltb i v.restoring) (P.ideals i h) (P.current (covered b + i) (omega arith) (omega arith)) in
      first-mem (input_at b (covered b + i)) _ l.first l.some

  input-choice : (n i : ℕ) → i + n ≡ v.length → Choice (positions_from w v book b i n) (input_from b (covered b + i) n)
  unfolding positions_from position_at input_from
  input-choice zero i e = done
  input-choice (suc n) i e =
      takes (input-listed i (omega arith))
      (subst (λ (k : ℕ). Choice (positions_from w v book b (suc i) n) (input_from b k n)) (add-suc (covered b) i) (input-choice n (suc i) (omega arith)))

  within-input : (i r : ℕ) → r ≡ input_after b i → T (within (position_at w v book b i) r)
  unfolding within position_at
  within-input i r e = and_i (leb (input_after b i - w) r) (leb r (input_after b i + w)) (le→leb (input_after b i - w) r (omega arith)) (le→leb r (input_after b i + w) (omega arith))

  input-in-band : (n i : ℕ) → i + n ≡ v.length → T (in_band (past_window v b) (positions_from w v book b i n) (input_from b (covered b + i) n))
  unfolding in_band positions_from input_from input_after
  input-in-band zero i e = tt
  input-in-band (suc n) i e =
      let next : suc (covered b + i) + n ≡ covered b + v.length = omega arith in
      let here-after : suc (covered b + i) ≡ covered b + i + 1 = omega arith in
      and_i (within (position_at w v book b i) (remaining (past_window v b) (input_from b (suc (covered b + i)) n))) (in_band (past_window v b) (positions_from w v book b (suc i) n) (input_from b (suc (covered b + i)) n))
      (within-input i _ (input-count v b P.window.fits (suc (covered b + i)) n next ∙ ap (input_remaining b) here-after))
      (subst (λ (k : ℕ). T (in_band (past_window v b) (positions_from w v book b (suc i) n) (input_from b k n))) (add-suc (covered b) i) (input-in-band n (suc i) (omega arith)))

  -- the input's levels in the window are a choice in the band
  pub input-banded : Banded (problem_of w v book b) (input_from b (covered b) v.length)
  unfolding problem_of tail_of
  input-banded =
      record {
        choice = subst (λ (k : ℕ). Choice (positions_from w v book b 0 v.length) (input_from b k v.length)) (add-zero (covered b)) (input-choice v.length 0 (omega arith));
        band = subst (λ (k : ℕ). T (in_band (past_window v b) (positions_from w v book b 0 v.length) (input_from b k v.length))) (add-zero (covered b)) (input-in-band v.length 0 (omega arith));
      }

  input-whole : input_remaining b (covered b) ≡ nz (input_at b (covered b)) + input_after b 0
  unfolding input_remaining input_after input_at nonzeros_among
  input-whole =
      let some = P.some in
      let c : ℕ = covered b in
      let long : 64 * c - c ≡ suc (64 * c - (c + 0 + 1)) = omega arith in
      let after : suc c ≡ c + 0 + 1 = omega arith in
      subst⁻¹ (λ (j : ℕ). nonzeros_among b.scan b.levels c j ≡ nz (input_at b c) + nonzeros_among b.scan b.levels (c + 0 + 1) (64 * c - (c + 0 + 1))) long
      (ap (λ (k : ℕ). nz (input_at b c) + nonzeros_among b.scan b.levels k (64 * c - (c + 0 + 1))) after)

  -- the band binds the counts later than a position only
  pub count-near :
      book_refusal book ≡ 0 → (cs : List ℤ) → Banded (problem_of w v book b) cs
      → (input_remaining b (covered b) ≤ count_of (problem_of w v book b) cs + (w + 1)) × (count_of (problem_of w v book b) cs ≤ input_remaining b (covered b) + (w + 1))
  unfolding problem_of count_of tail_of
  count-near ok cs B =
      let near = first-near book ok v b P w v.length cs P.window.some B.band in
      let whole = input-whole in
      let z = nz-le (input_at b (covered b)) in
      (omega (arith, near.0), omega (arith, near.1))
