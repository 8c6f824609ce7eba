-- The local cost by a place's record is the block's. Assumes nothing.
use mathlib.Core.Path.{◌≡◌, refl, sym, ap, ◌∙◌}
use mathlib.Core.Logic.{◌⊎◌, ⊎_elim, inl, inr}
use mathlib.Core.Bool.{Bool, true, false, cond, ◌&&◌}
use Prim.Native.Nat.{ℕ, zero, suc, ◌+◌, ◌≤◌}
use native.Mathlib.Omega.{arith}
use native.Mathlib.Nat.{add-zero, not-suc-le-zero, le_of_suc-le-suc, add_assoc}
use lib.Dec.{eqb}
use lib.IntN.{ℤ, pos, negsuc}
use lib.Ieee.{Float, add, mul, binary32}
use borrow.Author.Tests.{ne_eqb}
use Rattle.ac_context.specs.Contexts.{fine_zero_density_contexts_offset, zero_density_context}
use Rattle.ac_context.proofs.Bounds.{next-context}
use Rattle.block.specs.Block.{Block, covered, context_of, input_at}
use Rattle.block.specs.Cost.{distortion, rate, token_price, local_cost}
use Rattle.least_cost.specs.Position.{nz}
use Rattle.packing.specs.Signed.{pack_signed}
use Rattle.prices.specs.Book.{Book, price}
use Rattle.weights.specs.Settings.{restore_rate}
use Rattle.steps.specs.Place.{distortion_at, rate_at, context_at, rated_in, local_in, local_at, nonzero_rate, place_of}

offset-some : (n : ℕ) → fine_zero_density_contexts_offset n ≡ 0 → ⊥
unfolding fine_zero_density_contexts_offset
offset-some n e = absurd (omega arith)

prev-added : (c r k p : ℕ) → p ≤ 1 → zero_density_context c r k 0 + p ≡ zero_density_context c r k p
prev-added c r k zero h = add-zero (zero_density_context c r k 0)
prev-added c r k (suc zero) h = sym (next-context c r k)
prev-added c r k (suc (suc p)) h = absurd (not-suc-le-zero (le_of_suc-le-suc h))

nz-two : (q : ℤ) → (nz q ≡ 0) ⊎ (nz q ≡ 1)
unfolding nz
nz-two (pos zero) = inl refl
nz-two (pos (suc n)) = inr refl
nz-two (negsuc n) = inr refl

pub rate-same : (b : Block) (log2 i : ℕ) (q : ℤ) → rate_at (place_of b log2 i) q ≡ rate b i q
unfolding rate_at place_of nonzero_rate rate
rate-same b log2 i q = ⊎_elim none some (nz-two q)
  where
    none : nz q ≡ 0 → cond (eqb (nz q) 0) b.settings.lambda (cond (eqb (nz (input_at b (covered b + i))) 0) (restore_rate b.settings) b.settings.lambda) ≡ cond (eqb (nz (input_at b (covered b + i))) 0 && eqb (nz q) 1) (restore_rate b.settings) b.settings.lambda
    none e = rw e (go (eqb (nz (input_at b (covered b + i))) 0))
      where
        go : (t : Bool) → b.settings.lambda ≡ cond (t && false) (restore_rate b.settings) b.settings.lambda
        go true = refl
        go false = refl

    some : nz q ≡ 1 → cond (eqb (nz q) 0) b.settings.lambda (cond (eqb (nz (input_at b (covered b + i))) 0) (restore_rate b.settings) b.settings.lambda) ≡ cond (eqb (nz (input_at b (covered b + i))) 0 && eqb (nz q) 1) (restore_rate b.settings) b.settings.lambda
    some e = rw e (go (eqb (nz (input_at b (covered b + i))) 0))
      where
        go : (t : Bool) → cond t (restore_rate b.settings) b.settings.lambda ≡ cond (t && true) (restore_rate b.settings) b.settings.lambda
        go true = refl
        go false = refl

pub local-is : (book : Book) (b : Block) (log2 i r p : ℕ) (q : ℤ) → p ≤ 1 → local_at book (place_of b log2 i) r p q ≡ local_cost book b i r p q
unfolding local_at local_in rated_in context_at distortion_at place_of local_cost distortion token_price
local-is book b log2 i r p q h = go (eqb r 0)
  where
    d : Float
    d = distortion b i q

    o : ℕ
    o = fine_zero_density_contexts_offset (context_of b)

    z : ℕ → ℕ
    z prev = zero_density_context (covered b) r (covered b + i) prev

    there : (o + z 0 ≡ 0) → ⊥
    there e = offset-some (context_of b) (omega arith)

    go : (t : Bool) → cond (eqb (cond t 0 (o + z 0)) 0) d (add binary32 d (mul binary32 (rate_at (place_of b log2 i) q) (price book (cond t 0 (o + z 0) + p) (pack_signed q))))
        ≡ cond t d (add binary32 d (mul binary32 (rate b i q) (price book (o + z p) (pack_signed q))))
    go true = refl
    go false =
        rw (ne_eqb (o + z 0) 0 there)
        (ap (λ (n : ℕ). add binary32 d (mul binary32 (rate_at (place_of b log2 i) q) (price book n (pack_signed q)))) (add_assoc o (z 0) p ∙ ap (λ (n : ℕ). o + n) (prev-added (covered b) r (covered b + i) p h))
        ∙ ap (λ (y : Float). add binary32 d (mul binary32 y (price book (o + z p) (pack_signed q)))) (rate-same b log2 i q))
