-- How far the least choice's exact cost lies from any other's. Each rounded sum is off by at most one part in 2 ^ 24, so n sums keep the rounded cost between
-- (1 - 2 ^ -24) ^ n and (1 + 2 ^ -24) ^ n times the exact one. Assumes nothing.
use mathlib.Core.Path.{◌≡◌, refl, sym, ap, ◌∙◌, subst, subst⁻¹}
use Prim.Native.Nat.{ℕ, zero, suc, ◌+◌, ◌-◌, ◌*◌, ◌^◌, ◌≤◌, ◌<◌}
use native.Mathlib.Nat.{le_refl, le_trans, le_of_eq, le-suc, mul_comm, mul_assoc, mul_right_comm, add-mul, mul-add, mul-suc, mul-le-mul, mul-le-mul_right, mul-le-mul_left, pow-suc, pow-le-pow_left}
use native.Mathlib.Omega.{arith}
use mathlib.Core.Bool.{Bool, true, false, not, ◌&&◌}
use mathlib.Core.List.Memᴰ.{head as here}
use mathlib.Core.List.Memᴰ.{tail as there}
use mathlib.Core.List.{List, [], ◌∷◌, Memᴰ as Mem}
use lib.IntN.{ℤ}
use lib.Dec.{T}
use lib.ListN.{length}
use lib.Ieee.{Float, binary32, add, le, fits}
use lib.Ieee.Fits.{and_l, and_r, add-fits}
use lib.Ieee.Scale.{finite}
use Rattle.costs.specs.Cost.{cost}
use Rattle.exact.specs.Units.{in_units}
use Rattle.costs.proofs.Order as Order
use Rattle.costs.proofs.Sum.{finite-terms}
use Rattle.exact.proofs.Error.{Near, sum_near, units-le}
use Rattle.least_cost.specs.Position.{Position, Tail, nz, within}
use Rattle.least_cost.specs.Choice.{Choice, done, takes, remaining, in_band, cost_of}
use Rattle.least_cost.specs.Search.{Problem, count_of, whole_cost, Banded}
use Rattle.exact.specs.Exact.{exact_of, whole_exact}
use Rattle.least_cost.proofs.Trial.{nz-le}
use Rattle.least_cost.proofs.Best.{AllPriced, rest-priced, band-allowed, choice-cost}
use Rattle.least_cost.proofs.Whole.{Sound, whole-cost}

-- ---- numbers: a sum s of l and a rounded sum R, R being within k roundings of E
pub record Within (m k E R : ℕ) : Type 0 where
  pub lower : E * m ^ k ≤ R * suc m ^ k
  pub upper : R * suc m ^ k ≤ E * suc (suc m) ^ k

module _ (m k l E R s : ℕ) (W : Within m k E R) (over : s * suc m ≤ (l + R) * suc m + (l + R)) (under : (l + R) * suc m ≤ s * suc m + (l + R)) where
  abbrev A : ℕ
  A = suc m ^ k

  less : (l + R) * m ≤ s * suc m
  less = omega (arith, mul-suc (l + R) m)

  more : s * suc m ≤ (l + R) * suc (suc m)
  more = omega (arith, mul-suc (l + R) (suc m))

  low-all : (l + E) * m ^ k ≤ (l + R) * A
  low-all = omega (arith, add-mul l E (m ^ k), add-mul l R A, mul-le-mul_left l (pow-le-pow_left (le-suc m) k), W.lower)

  high-all : (l + R) * A ≤ (l + E) * suc (suc m) ^ k
  high-all = omega (arith, add-mul l E (suc (suc m) ^ k), add-mul l R A, mul-le-mul_left l (pow-le-pow_left (le-suc (suc m)) k), W.upper)

  lower-next : (l + E) * m ^ suc k ≤ s * suc m ^ suc k
  lower-next =
      le_trans (le_of_eq (ap (λ (z : ℕ). (l + E) * z) (pow-suc m k) ∙ sym (mul_assoc (l + E) (m ^ k) m)))
      (le_trans (mul-le-mul_right m low-all)
      (le_trans (le_of_eq (mul_right_comm (l + R) A m))
      (le_trans (mul-le-mul_right A less)
      (le_of_eq (mul_assoc s (suc m) A ∙ ap (λ (z : ℕ). s * z) (mul_comm (suc m) A ∙ sym (pow-suc (suc m) k)))))))

  upper-next : s * suc m ^ suc k ≤ (l + E) * suc (suc m) ^ suc k
  upper-next =
      le_trans (le_of_eq (ap (λ (z : ℕ). s * z) (pow-suc (suc m) k ∙ mul_comm A (suc m)) ∙ sym (mul_assoc s (suc m) A)))
      (le_trans (mul-le-mul_right A more)
      (le_trans (le_of_eq (mul_right_comm (l + R) (suc (suc m)) A))
      (le_trans (mul-le-mul_right (suc (suc m)) high-all)
      (le_of_eq (mul_assoc (l + E) (suc (suc m) ^ k) (suc (suc m)) ∙ ap (λ (z : ℕ). (l + E) * z) (sym (pow-suc (suc (suc m)) k)))))))

  next : Within m (suc k) (l + E) s
  next = record { lower = lower-next; upper = upper-next }

-- ---- a choice's cost
-- every term is a float of binary32
pub record Floats (t : Tail) (qs : List Position) : Type 0 where
  pub tails : (p : ℕ) → T (fits binary32 (t.cost p))
  pub each : (q : Position) → Mem q qs → (r p : ℕ) (c : ℤ) → T (fits binary32 (q.price r p c))

rest-floats : {t : Tail} {q : Position} {qs : List Position} → Floats t (q ∷ qs) → Floats t qs
rest-floats F = record { tails = F.tails; each = λ x m. F.each x (there m) }

-- 2 ^ 24 - 1
abbrev ones : ℕ
ones = 16777215

near_within : (k l E R s : ℕ) → Within ones k E R → Near 24 (l + R) s → Within ones (suc k) (l + E) s
near_within k l E R s W N = next ones k l E R s W N.over N.under

none-off : (E : ℕ) → Within ones 0 E E
none-off E = record { lower = le_refl (E * 1); upper = le_refl (E * 1) }

module _ (t : Tail) where
  cost-fits : {qs : List Position} {cs : List ℤ} (p : ℕ) → Floats t qs → Choice qs cs → T (fits binary32 (cost_of t qs p cs))
  unfolding cost_of
  cost-fits p F done = F.tails p
  cost-fits p F (takes {q} {qs} {c} {cs} m k) = add-fits binary32 (q.price (remaining t.count (c ∷ cs)) p c) (cost_of t qs (nz c) cs)

  pub choice-within : {qs : List Position} {cs : List ℤ} (p : ℕ) → AllPriced t qs → Floats t qs → p ≤ 1 → Choice qs cs → T (in_band t.count qs cs) → T (finite (cost_of t qs p cs))
      → Within ones (length qs) (exact_of t qs p cs) (in_units binary32 (cost_of t qs p cs))
  unfolding cost_of in_band remaining exact_of
  choice-within p Q F P done h f = none-off _
  choice-within p Q F P (takes {q} {qs} {c} {cs} m k) h f =
      let r = remaining t.count cs in
      let x = q.price (nz c + r) p c in
      let y = cost_of t qs (nz c) cs in
      let i = and_r (within q r) (in_band t.count qs cs) h in
      let X = (Q.each q (here refl)).prices (nz c + r) p c P m (band-allowed q c r (and_l (within q r) (in_band t.count qs cs) h)) in
      let Y = choice-cost t (nz c) (rest-priced Q) (nz-le c) k i in
      let both = finite-terms binary32 x y X Y f in
      near_within (length qs) (in_units binary32 x) (exact_of t qs (nz c) cs) (in_units binary32 y) (in_units binary32 (add binary32 x y))
      (choice-within (nz c) (rest-priced Q) (rest-floats F) (nz-le c) k i both.1)
      (sum_near binary32 x y X Y (F.each q (here refl) (nz c + r) p c) (cost-fits (nz c) (rest-floats F) k) f)

-- ---- the whole cost
pub record WholeFloats (w : Problem) : Type 0 where
  pub floats : Floats w.tail w.positions
  pub counts : (n : ℕ) → T (fits binary32 (w.count_cost n))

swap : (k l E R s : ℕ) → Within ones k E R → Near 24 (R + l) s → Within ones (suc k) (E + l) s
swap k l E R s W N =
    let a : R + l ≡ l + R = omega arith in
    let b : E + l ≡ l + E = omega arith in
    subst⁻¹ (λ (z : ℕ). Within ones (suc k) z s) b (near_within k l E R s W (subst (λ (z : ℕ). Near 24 z s) a N))

module _ (w : Problem) (S : Sound w) (F : WholeFloats w) where
  pub whole-within : (cs : List ℤ) → Banded w cs → T (finite (whole_cost w cs)) → Within ones (suc (length w.positions)) (whole_exact w cs) (in_units binary32 (whole_cost w cs))
  unfolding whole_cost whole_exact count_of
  whole-within cs B f =
      let n = count_of w cs in
      let p = w.first_prev n in
      let x = cost_of w.tail w.positions p cs in
      let y = w.count_cost n in
      let X = choice-cost w.tail p S.priced (S.firsts n) B.choice B.band in
      let Y = S.counts n (S.covers cs B) in
      let both = finite-terms binary32 x y X Y f in
      swap (length w.positions) (in_units binary32 y) (exact_of w.tail w.positions p cs) (in_units binary32 x) (in_units binary32 (add binary32 x y))
      (choice-within w.tail p S.priced F.floats (S.firsts n) B.choice B.band both.0)
      (sum_near binary32 x y X Y (cost-fits w.tail p F.floats B.choice) (F.counts n) f)

  whole-fits : (cs : List ℤ) → T (fits binary32 (whole_cost w cs))
  unfolding whole_cost
  whole-fits cs = add-fits binary32 (cost_of w.tail w.positions (w.first_prev (count_of w cs)) cs) (w.count_cost (count_of w cs))

  -- Ticket 13: a choice that costs no more, rounded, is exact no dearer than by the factor.
  pub near_exact : (cs ds : List ℤ) → Banded w cs → Banded w ds → T (le (whole_cost w cs) (whole_cost w ds)) → T (finite (whole_cost w ds))
      → whole_exact w cs * 16777215 ^ suc (length w.positions) ≤ whole_exact w ds * 16777217 ^ suc (length w.positions)
  near_exact cs ds C D h f =
      let c = whole-cost w S cs C in
      let d = whole-cost w S ds D in
      let g = Order.le-finite (whole_cost w cs) (whole_cost w ds) c d h f in
      le_trans (whole-within cs C g).lower
      (le_trans (mul-le-mul_right (16777216 ^ suc (length w.positions)) (units-le binary32 (whole_cost w cs) (whole_cost w ds) c d (whole-fits cs) (whole-fits ds) f h))
      (whole-within ds D f).upper)
