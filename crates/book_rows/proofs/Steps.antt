-- What the comparison of ready prices rests on.
use Prim.Native.Nat.{ℕ, ◌+◌, ◌*◌, ◌<◌, ◌≤◌}
use mathlib.Core.Path.{◌≡◌, refl, sym, ap, ◌∙◌, subst, subst⁻¹, subst₂}
use mathlib.Core.Bool.{Bool, true, false, not, false≢true}
use native.Mathlib.Omega.{arith}
use native.Mathlib.Nat.{mul-pos, mul-one, zero-mul}
use lib.Dec.{T, eqb, eqb→eq, ltb→lt}
use lib.IntN.{pos}
use lib.Ieee.{Float, nan, inf, fin, up, down, add, of_int, lt, eq, is_nan, ne, fits, to_bits, binary32}
use lib.Ieee.Bits.{is_true}
use lib.Ieee.Fits.{and_l, and_r, down_pos}
use lib.Ieee.Compare.{nan_differs}
use borrow.Author.Tests.{eq-eqb, ne_eqb}
use mathlib.Core.List.{List}
use Rattle.costs.specs.Cost.{cost}
use Rattle.costs.proofs.Order.{same_test, eq→le, le→eq, le_refl, le_antisymm}
use Rattle.prices.specs.Book.{Book, cluster_price, cluster_symbol}
use Rattle.prices.proofs.Costs.{cluster-cost, symbol-priced, sum-above}
use Rattle.book_rows.specs.Row.{Row, above}
use Rattle.prices.specs.Checks.{symbol_price, same_bits}
use Rattle.prices.proofs.Passed.{Sound, same_float}

pub no_nan : (x : Float) → ne x x ≡ false → T (not (is_nan x))
unfolding is_nan
no_nan nan e = absurd (false≢true (sym e ∙ nan_differs))
no_nan (inf s) e = tt
no_nan (fin s m d) e = tt

is-nan : (x : Float) → is_nan x ≡ true → x ≡ nan
unfolding is_nan
is-nan nan e = refl
is-nan (inf s) e = absurd (false≢true e)
is-nan (fin s m d) e = absurd (false≢true e)

pub cost-no-nan : (x : Float) → T (cost x) → T (not (is_nan x))
unfolding is_nan cost
cost-no-nan nan h = h
cost-no-nan (inf s) h = tt
cost-no-nan (fin s m e) h = tt

-- a NaN has not the bits of a cost
pub nan-bits : (x y : Float) → is_nan x ≡ true → T (cost y) → T (fits binary32 x) → T (fits binary32 y) → same_bits x y ≡ false
unfolding cost
nan-bits x y e h fx fy = go (same_bits x y) refl
  where
    go : (b : Bool) → same_bits x y ≡ b → b ≡ false
    go true d = absurd (subst (λ (z : Float). T (cost z)) (sym (same_float fx fy d) ∙ is-nan x e) h)
    go false d = refl

pub same_bits_lem : (x y : Float) → to_bits binary32 x ≡ to_bits binary32 y → same_bits x y ≡ true
unfolding same_bits
same_bits_lem x y e = eq-eqb _ _ e

pub other-bits : (x y : Float) → (to_bits binary32 x ≡ to_bits binary32 y → ⊥) → same_bits x y ≡ false
unfolding same_bits
other-bits x y e = ne_eqb _ _ e

-- every price of a cluster is a cost
pub row-cost : {configs : List ℕ} {symbols ready : List Float} {k : ℕ} → Row configs symbols ready k → (v : ℕ) → v ≤ 131071 → T (cost (cluster_price configs symbols k v))
row-cost {configs} {symbols} {ready} {k} r v h =
    cluster-cost configs symbols k v h (symbol-priced symbols k (cluster_symbol configs k v) r.prices)

pub sound-row : (b : Book) → Sound b → (k : ℕ) → k < b.clusters → Row b.configs b.symbols b.ready k
sound-row b p k h =
    record {
      configured = omega (arith, p.configs_long);
      priced = omega (arith, p.symbols_long);
      kept = omega (arith, p.ready_long);
      valid = p.valid k h;
      prices = λ i q. p.priced (128 * k + i) (omega arith);
    }

-- ---- a price above 0: floats that equal it have its bits

above-cost : (y : Float) → T (above y) → T (cost y)
unfolding above lt cost
above-cost nan h = h
above-cost (inf true) h = h
above-cost (inf false) h = tt
above-cost (fin true n d) h = h
above-cost (fin false n d) h = tt

-- a symbol price plus at least one extra bit
pub price-above : (x : Float) (n : ℕ) → symbol_price x ≡ true → 0 < n → T (above (add binary32 x (of_int binary32 (pos n))))
unfolding above
price-above x n h some = sum-above n some x h

-- what equals it has a clear sign
equal-cost : (x y : Float) → T (above y) → T (eq x y) → T (cost x)
unfolding above lt eq cost
equal-cost nan y h e = e
equal-cost (inf true) nan h e = e
equal-cost (inf true) (inf true) h e = h
equal-cost (inf true) (inf false) h e = e
equal-cost (inf true) (fin t n d) h e = e
equal-cost (inf false) y h e = tt
equal-cost (fin true m k) nan h e = e
equal-cost (fin true m k) (inf t) h e = e
equal-cost (fin true m k) (fin true n d) h e = h
equal-cost (fin true m k) (fin false n d) h e =
    let a = m * up k * down d in
    let b = n * up d * down k in
    let same : a ≡ b = eqb→eq a b (and_l (eqb a b) (eqb a 0) e) in
    let none : a ≡ 0 = eqb→eq a 0 (and_r (eqb a b) (eqb a 0) e) in
    let some : 0 < n * up d = subst₂ ◌<◌ (zero-mul (down d)) (mul-one (n * up d)) (ltb→lt (0 * down d) (n * up d * 1) h) in
    let positive : 0 < b = mul-pos some (down_pos k) in
    absurd (omega arith)
equal-cost (fin false m k) y h e = tt

pub equal-bits : (x y : Float) → T (above y) → T (fits binary32 x) → T (fits binary32 y) → eq x y ≡ same_bits x y
equal-bits x y h fx fy =
    same_test (eq x y) (same_bits x y)
    (λ e.
    let cx = equal-cost x y h e in
    let cy = above-cost y h in
    let both = eq→le x y cx cy e in
    subst T (sym (same_bits_lem x y (ap (to_bits binary32) (le_antisymm binary32 x y cx cy fx fy both.0 both.1)))) tt)
    (λ e.
    let cy = above-cost y h in
    subst⁻¹ (λ (z : Float). T (eq z y)) (same_float fx fy (is_true (same_bits x y) e)) (le→eq y y cy cy (le_refl y cy) (le_refl y cy)))
