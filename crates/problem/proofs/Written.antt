-- Levels of a block that are listed at each window position, and the input's elsewhere, are a choice; so are those of a choice that is written through the scan. Assumes nothing.
use mathlib.Core.Path.{◌≡◌, refl, sym, ap, ◌∙◌, subst, subst⁻¹}
use mathlib.Core.List.Memᴰ.{cast}
use mathlib.Core.List.{List, [], ◌∷◌, Memᴰ as Mem}
use Prim.Native.Nat.{ℕ, zero, suc, ◌+◌, ◌-◌, ◌*◌, ◌≤◌, ◌<◌}
use native.Mathlib.Omega.{arith}
use native.Mathlib.Nat.{not-suc-le-zero, add-zero, zero-add}
use lib.IntN.{ℤ, pos}
use lib.ListN.{length, get_or}
use Rattle.block.specs.Band.{position_at, positions_from, past_window}
use Rattle.block.specs.Block.{Block, with_levels, covered, input_at, input_from, input_remaining, nonzeros_among, candidates_at}
use Rattle.block.specs.Choice.{window_levels, IsChoice}
use Rattle.block_checks.specs.Passed.{Passed}
use Rattle.least_cost.specs.Choice.{Choice, done, takes, remaining}
use Rattle.least_cost.specs.Position.{nz}
use Rattle.prices.specs.Book.{Book}
use Rattle.scan.specs.Scan.{level_at, put}
use Rattle.scan.proofs.Through.{put-off, put-at}
use Rattle.weights.specs.declared.Window.{Window}
use Rattle.problem.proofs.Input.{input-count}

among_same : (scan : List ℕ) (x y : List ℤ) (k n : ℕ) → ((m : ℕ) → k ≤ m → m < k + n → level_at scan x m ≡ level_at scan y m) → nonzeros_among scan x k n ≡ nonzeros_among scan y k n
unfolding nonzeros_among
among_same scan x y k zero e = refl
among_same scan x y k (suc n) e =
    let one = e k (omega arith) (omega arith) in
    let rest = among_same scan x y (suc k) n (λ m l h. e m (omega arith) (omega arith)) in
    cc

-- ---- levels that stand in a block
module _ (w : ℕ) (v : Window) (book : Book) (b : Block) (x : List ℤ) where
  choice-from : (n i : ℕ) → ((j : ℕ) → i ≤ j → j < i + n → Mem (input_at (with_levels b x) (covered b + j)) (candidates_at v b j))
      → Choice (positions_from w v book b i n) (input_from (with_levels b x) (covered b + i) n)
  unfolding positions_from position_at input_from
  choice-from zero i m = done
  choice-from (suc n) i m =
      let next : covered b + suc i ≡ suc (covered b + i) = omega arith in
      let rest = rw next at (choice-from n (suc i) (λ j l h. m j (omega arith) (omega arith))) in
      takes (m i (omega arith) (omega arith)) rest

  module _ (P : Passed v b)
      (off : (k : ℕ) → k < 64 * covered b → ((i : ℕ) → i < v.length → k ≡ covered b + i → ⊥) → input_at (with_levels b x) k ≡ input_at b k)
      (listed : (i : ℕ) → i < v.length → Mem (input_at (with_levels b x) (covered b + i)) (candidates_at v b i)) where
    past : past_window v (with_levels b x) ≡ past_window v b
    unfolding past_window input_remaining covered input_at
    past =
        among_same b.scan x b.levels (covered b + v.length) (64 * covered b - (covered b + v.length))
        (λ m l h. off m (omega (arith, P.window.fits)) (λ i k e. omega arith))

    counted : remaining (past_window v (with_levels b x)) (input_from (with_levels b x) (covered b) v.length) ≡ input_remaining (with_levels b x) (covered b)
    unfolding covered
    counted = input-count v (with_levels b x) P.window.fits (covered b) v.length refl

    pub is-choice : IsChoice w v book b x
    unfolding window_levels
    is-choice =
        record {
          listed = rw add-zero at (choice-from v.length 0 (λ j l h. listed j (omega arith)));
          before = λ k h. off k (omega (arith, P.window.fits)) (λ i l e. omega arith);
          after = λ k l h. off k h (λ i m e. omega arith);
          count = ap (λ (s : ℕ). remaining s (input_from (with_levels b x) (covered b) v.length)) (sym past) ∙ counted;
        }

-- ---- levels that are written through the scan
-- a choice has as many levels as there are positions, each listed
choice-at : (w : ℕ) (v : Window) (book : Book) (b : Block) (n i : ℕ) (cs : List ℤ) → Choice (positions_from w v book b i n) cs → (j : ℕ) → j < n → Mem (get_or cs j (pos 0)) (candidates_at v b (i + j))
unfolding positions_from position_at
choice-at w v book b zero i cs k j h = absurd (not-suc-le-zero h)
choice-at w v book b (suc n) i (c ∷ cs) (takes m k) zero h = rw add-zero m
choice-at w v book b (suc n) i (c ∷ cs) (takes m k) (suc j) h =
    let next : suc i + j ≡ i + suc j = omega arith in
    rw next at (choice-at w v book b n (suc i) cs k j (omega arith))
choice-at w v book b (suc n) i [] k j h = elim k [ ]

read_back : (b : Block) (n k : ℕ) (cs : List ℤ) → length cs ≡ n → ((j : ℕ) → j < n → input_at b (k + j) ≡ get_or cs j (pos 0)) → input_from b k n ≡ cs
unfolding input_from
read_back b zero k [] e f = refl
read_back b zero k (c ∷ cs) e f = absurd (omega arith)
read_back b (suc n) k [] e f = absurd (omega arith)
read_back b (suc n) k (c ∷ cs) e f =
    let here = rw add-zero at (f 0 (omega arith)) in
    let rest = read_back b n (suc k) cs (omega arith) (λ j h. ap (input_at b) (omega arith) ∙ f (suc j) (omega arith)) in
    cc

choice-length : (w : ℕ) (v : Window) (book : Book) (b : Block) (n i : ℕ) (cs : List ℤ) → Choice (positions_from w v book b i n) cs → length cs ≡ n
unfolding positions_from
choice-length w v book b zero i [] done = refl
choice-length w v book b (suc n) i (c ∷ cs) (takes m k) = ap suc (choice-length w v book b n (suc i) cs k)
choice-length w v book b zero i (c ∷ cs) x'' = elim x'' [ ]
choice-length w v book b (suc n) i [] x3 = elim x3 [ ]

module _ (w : ℕ) (v : Window) (book : Book) (b : Block) (P : Passed v b) (cs : List ℤ) (C : Choice (positions_from w v book b 0 v.length) cs) where
  written_at : (i : ℕ) → i < v.length → input_at (with_levels b (put b.scan cs (covered b) v.length b.levels)) (covered b + i) ≡ get_or cs i (pos 0)
  unfolding input_at
  written_at i h = put-at P.scanned cs (covered b) b.levels P.levels_long v.length i P.window.fits h

  pub put-window : window_levels v b (put b.scan cs (covered b) v.length b.levels) ≡ cs
  unfolding window_levels
  put-window = read_back (with_levels b (put b.scan cs (covered b) v.length b.levels)) v.length (covered b) cs (choice-length w v book b v.length 0 cs C) written_at

  put-elsewhere : (k : ℕ) → k < 64 * covered b → ((i : ℕ) → i < v.length → k ≡ covered b + i → ⊥)
      → input_at (with_levels b (put b.scan cs (covered b) v.length b.levels)) k ≡ input_at b k
  unfolding input_at
  put-elsewhere k h apart = put-off P.scanned cs (covered b) b.levels v.length k P.window.fits h apart

  pub put-choice : IsChoice w v book b (put b.scan cs (covered b) v.length b.levels)
  put-choice =
      is-choice w v book b (put b.scan cs (covered b) v.length b.levels) P put-elsewhere
      (λ i h. cast (written_at i h) (rw zero-add at (choice-at w v book b v.length 0 cs C i h)))
