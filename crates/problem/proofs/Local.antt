-- What a block's positions, tail and count can cost: each local cost is +infinity or at most 2 ^ 45, and infinite exactly where its token's price is. Assumes nothing.
use mathlib.Core.Path.{◌≡◌, ◌∙◌, subst⁻¹}
use mathlib.Core.Bool.{Bool, true, false, cond, ◌&&◌, ◌||◌}
use mathlib.Core.Logic.{◌⊎◌, inl, inr}
use mathlib.Core.List.Memᴰ.{cases_cons}
use mathlib.Core.List.Memᴰ.{not-nil}
use mathlib.Core.List.{List, [], ◌∷◌, Memᴰ as Mem}
use Prim.Native.Nat.{ℕ, ◌+◌, ◌*◌, ◌^◌, ◌≤◌, ◌<◌, min}
use native.Mathlib.Nat.{le_trans, min-le_left, min-le_right}
use native.Mathlib.Omega.{arith}
use lib.Dec.{T, eqb, ltb, le→leb, leb→le, lit<, lit≤}
use lib.IntN.{ℤ, nat_abs}
use lib.Ieee.{Float, binary32, add, mul}
use lib.Ieee.Fits.{and_l, and_r}
use lib.Ieee.Scale.{finite}
use lib.Ieee.Positive.{positive}
use Rattle.bias.specs.Level.{is_level, biased}
use Rattle.bias.proofs.Bounds.{level-bounded}
use Rattle.block.specs.Block.{Block, covered, input_at, ideal, candidates_at}
use Rattle.block.specs.Cost.{distortion_of, distortion, rate, token_price, local_cost, count_cost}
use Rattle.block_checks.specs.Passed.{Passed}
use Rattle.candidates.specs.Candidates.{is_current, candidates_of}
use Rattle.candidates.proofs.Laws.{every, candidates-listed, within}
use Rattle.costs.specs.Cost.{cost, bounded, capped}
use Rattle.costs.proofs.Order.{same_test}
use Rattle.costs.proofs.Sum.{finite-terms}
use Rattle.costs.proofs.Bound.{bounded-finite, bounded-more, capped-cost, capped-more, add-capped, add-finite}
use Rattle.least_cost.specs.Position.{nz}
use Rattle.packing.specs.Signed.{pack_signed}
use Rattle.packing.proofs.Signed.{packed-small}
use Rattle.prices.specs.Book.{Book, price}
use Rattle.prices.specs.Checks.{book_refusal}
use Rattle.weights.specs.Settings.{restore_rate, weight_at}
use Rattle.weights.specs.Window.{base_len}
use Rattle.weights.specs.declared.Window.{Window}
use Rattle.weights.proofs.Laws.{weight-positive, weight-bounded, lambda-positive, lambda-bounded, restore-positive, restore-bounded}
use Rattle.problem.proofs.Terms.{ideal-bounded, distortion-bounded, distortion-capped, price-capped, charge-capped, charge-finite}

every-mem : (p : ℤ → Bool) (xs : List ℤ) → T (every p xs) → (q : ℤ) → Mem q xs → T (p q)
unfolding every
every-mem p [] t q m = absurd (not-nil m)
every-mem p (x ∷ xs) t q m = go (cases_cons m) (every-mem p xs (and_r (p x) (every p xs) t) q)
  where
    go : (q ≡ x) ⊎ Mem q xs → (Mem q xs → T (p q)) → T (p q)
    go (inl e) f = subst⁻¹ (λ (z : ℤ). T (p z)) e (and_l (p x) (every p xs) t)
    go (inr i) f = f i

small-base : (c : ℕ) → base_len c ≤ 1024
small-base c = le_trans (min-le_left (min (24 * c) 64) (63 * c)) (le_trans (min-le_right (24 * c) 64) (lit≤ tt))

pub current-level : (q : ℤ) → T (is_current q) → T (is_level q)
current-level q h = le→leb (nat_abs q) 32768 (le_trans (leb→le (nat_abs q) 32767 h) (lit≤ tt))

pub packed-value : (q : ℤ) → T (is_level q) → pack_signed q ≤ 131071
packed-value q h = le_trans (packed-small q (leb→le (nat_abs q) 32768 h)) (lit≤ tt)

-- a sum of two such terms
two-capped : (x y : Float) → T (capped binary32 1 193 x) → T (capped binary32 1 193 y) → T (capped binary32 1 194 (add binary32 x y))
two-capped x y h k =
    capped-more binary32 2 193 1 194 (add binary32 x y) (lit≤ {m = 2 * 2 ^ 193} {n = 1 * 2 ^ 194} tt)
    (add-capped binary32 1 1 193 x y (lit< {m = 2} {n = 2 ^ 24} tt) (lit< {m = 2 * 2 ^ 193} {n = 2 ^ 277} tt) h k)

two-finite : (x y : Float) → T (capped binary32 1 193 x) → T (capped binary32 1 193 y) → T (finite x) → finite (add binary32 x y) ≡ finite y
two-finite x y h k f =
    same_test (finite (add binary32 x y)) (finite y)
    (λ t. (finite-terms binary32 x y (capped-cost binary32 1 193 x h) (capped-cost binary32 1 193 y k) t).1)
    (add-finite binary32 1 1 193 x y (lit< {m = 2} {n = 2 ^ 24} tt) (lit< {m = 2 * 2 ^ 193} {n = 2 ^ 277} tt) h k f)

doubled : (x : Float) → T (capped binary32 1 193 x) → T (capped binary32 1 194 x)
doubled x h = capped-more binary32 1 193 1 194 x (lit≤ {m = 1 * 2 ^ 193} {n = 1 * 2 ^ 194} tt) h

module _ (book : Book) (ok : book_refusal book ≡ 0) (v : Window) (b : Block) (P : Passed v b) where
  -- ---- tokens
  pub token-capped : (remaining k prev : ℕ) (q : ℤ) → T (is_level q) → T (capped binary32 1041 149 (token_price book b remaining k prev q))
  unfolding token_price
  token-capped remaining k prev q h = price-capped book ok _ (pack_signed q) (packed-value q h)

  lambda-rate : T (bounded binary32 1 179 b.settings.lambda)
  lambda-rate = bounded-more binary32 1 169 1 179 b.settings.lambda (lit≤ {m = 1 * 2 ^ 169} {n = 1 * 2 ^ 179} tt) (lambda-bounded b.settings P.settings)

  rates : (i : ℕ) (q : ℤ) → T (positive (rate b i q)) × T (bounded binary32 1 179 (rate b i q))
  unfolding rate
  rates i q = go (eqb (nz (input_at b (covered b + i))) 0 && eqb (nz q) 1)
    where
      go : (t : Bool) → T (positive (cond t (restore_rate b.settings) b.settings.lambda)) × T (bounded binary32 1 179 (cond t (restore_rate b.settings) b.settings.lambda))
      go true = (restore-positive b.settings P.settings, restore-bounded b.settings P.settings)
      go false = (lambda-positive b.settings P.settings, lambda-rate)

  -- ---- a position of the window
  module _ (i : ℕ) (low : i < v.length) where
    pub candidates-level : (q : ℤ) → Mem q (candidates_at v b i) → T (is_level q)
    unfolding candidates_at
    candidates-level q m =
        let w = P.window.fits in
        let current = P.current (covered b + i) (omega arith) (omega arith) in
        every-mem within (candidates_of (ideal b i) (input_at b (covered b + i)) (ltb i v.restoring))
        (candidates-listed (ideal b i) (input_at b (covered b + i)) (ltb i v.restoring) (P.ideals i low) current).inside q m

    module _ (q : ℤ) (h : T (is_level q)) where
      weight : Float
      weight = weight_at b.settings b.shape.channel (base_len (covered b)) i

      distorted : T (capped binary32 1 193 (distortion b i q)) × T (finite (distortion b i q))
      unfolding distortion weight
      distorted =
          let p = weight-positive b.settings P.settings b.shape.channel (base_len (covered b)) i (small-base (covered b)) in
          let w = weight-bounded b.settings P.settings b.shape.channel (base_len (covered b)) i (small-base (covered b)) in
          let x = ideal-bounded (ideal b i) (P.ideals i low) in
          let y = level-bounded b.bias q P.bias h in (
            distortion-capped weight (ideal b i) (biased b.bias q) p w x y,
            bounded-finite binary32 1 193 (distortion_of weight (ideal b i) (biased b.bias q)) (distortion-bounded weight (ideal b i) (biased b.bias q) p w x y),
          )

      charged : (remaining prev : ℕ) → T (capped binary32 1 193 (mul binary32 (rate b i q) (token_price book b remaining (covered b + i) prev q)))
      charged remaining prev = let r = rates i q in charge-capped (rate b i q) _ r.0 r.1 (token-capped remaining (covered b + i) prev q h)

      -- +infinity or at most 2 ^ 45
      pub local-capped : (remaining prev : ℕ) → T (capped binary32 1 194 (local_cost book b i remaining prev q))
      unfolding local_cost
      local-capped remaining prev = go (eqb remaining 0)
        where
          go : (t : Bool) → T (capped binary32 1 194 (cond t (distortion b i q) (add binary32 (distortion b i q) (mul binary32 (rate b i q) (token_price book b remaining (covered b + i) prev q)))))
          go true = doubled (distortion b i q) distorted.0
          go false = two-capped (distortion b i q) _ distorted.0 (charged remaining prev)

      -- finite where nothing remains, else exactly where the token's price is
      pub local-finite : (remaining prev : ℕ) → finite (local_cost book b i remaining prev q) ≡ (eqb remaining 0 || finite (token_price book b remaining (covered b + i) prev q))
      unfolding local_cost
      local-finite remaining prev = go (eqb remaining 0)
        where
          is : (x : Float) → T (finite x) → finite x ≡ true
          is x f = same_test (finite x) true (λ t. tt) (λ t. f)

          go : (t : Bool) → finite (cond t (distortion b i q) (add binary32 (distortion b i q) (mul binary32 (rate b i q) (token_price book b remaining (covered b + i) prev q)))) ≡ (t || finite (token_price book b remaining (covered b + i) prev q))
          go true = is (distortion b i q) distorted.1
          go false =
              let r = rates i q in
              two-finite (distortion b i q) _ distorted.0 (charged remaining prev) distorted.1
              ∙ charge-finite (rate b i q) _ r.0 r.1 (token-capped remaining (covered b + i) prev q h)

  -- ---- lambda times a price: a token of the tail, and the count
  pub lambda-capped : (bits : Float) → T (capped binary32 1041 149 bits) → T (capped binary32 1 194 (mul binary32 b.settings.lambda bits))
  lambda-capped bits h = doubled _ (charge-capped b.settings.lambda bits (lambda-positive b.settings P.settings) lambda-rate h)

  pub lambda-finite : (bits : Float) → T (capped binary32 1041 149 bits) → finite (mul binary32 b.settings.lambda bits) ≡ finite bits
  lambda-finite bits h = charge-finite b.settings.lambda bits (lambda-positive b.settings P.settings) lambda-rate h

  pub count-capped : (count : ℕ) → count ≤ 131071 → T (capped binary32 1 194 (count_cost book b count))
  unfolding count_cost
  count-capped count h = lambda-capped _ (price-capped book ok _ count h)
