-- Where no sum can overflow, a cost is infinite exactly where one of its terms is. The bound: each local cost, and what the count costs, is infinite or at most 2 ^ j of binary32's smallest
-- values, and the tail infinite or at most b * 2 ^ j of them. Then n positions cost at most (b + n) * 2 ^ j, as long as that has no more digits than the format keeps. Assumes nothing.
use mathlib.Core.Path.{◌≡◌, refl, sym, ap, ◌∙◌, subst, subst⁻¹}
use mathlib.Core.Logic.{◌↔◌, ◌⊎◌, inl, inr}
use Prim.Native.Nat.{ℕ, suc, ◌+◌, ◌*◌, ◌^◌, ◌≤◌, ◌<◌}
use native.Mathlib.Nat.{add-zero, lt_of_le_of_lt, mul-le-mul_right}
use native.Mathlib.Omega.{arith}
use mathlib.Core.Bool.{Bool, true, false, not, ◌||◌, true≢false}
use mathlib.Core.List.Memᴰ.{cases_cons}
use mathlib.Core.List.Memᴰ.{head as here}
use mathlib.Core.List.Memᴰ.{not-nil}
use mathlib.Core.List.Memᴰ.{tail as there}
use mathlib.Core.List.{List, [], ◌∷◌, Memᴰ as Mem}
use lib.IntN.{ℤ}
use lib.Dec.{T}
use lib.ListN.{length}
use lib.Ieee.{Float, inf, binary32, prec, add}
use lib.Ieee.Fits.{and_l, and_r}
use lib.Ieee.Scale.{finite, overflow}
use Rattle.costs.specs.Cost.{capped}
use Rattle.costs.proofs.Order as Order
use Rattle.costs.proofs.Order.{same_test}
use Rattle.costs.proofs.Sum.{finite-terms}
use Rattle.costs.proofs.Bound.{capped-cost, add-capped, add-finite}
use Rattle.least_cost.specs.Position.{Position, Tail, nz, within, allowed}
use Rattle.least_cost.specs.Choice.{Choice, done, takes, remaining, in_band, cost_of, has_infinite}
use Rattle.least_cost.specs.Search.{Problem, count_of, whole_cost, whole_infinite, least_total, Banded}
use Rattle.least_cost.proofs.Trial.{nz-le}
use Rattle.least_cost.proofs.Best.{AllPriced, band-allowed}
use Rattle.least_cost.proofs.Counts.{Between}
use Rattle.least_cost.proofs.Whole.{Sound, whole-cost, whole-infinite}

-- ---- room for m terms of at most 2 ^ j
pub record Room (j m : ℕ) : Type 0 where
  pub digits : m < 2 ^ prec binary32
  pub under : m * 2 ^ j < overflow binary32

less-room : {j m : ℕ} (k : ℕ) → k ≤ m → Room j m → Room j k
less-room {j} {m} k h R = record { digits = lt_of_le_of_lt h R.digits; under = lt_of_le_of_lt (mul-le-mul_right (2 ^ j) h) R.under }

-- every local cost is infinite or at most 2 ^ j, the tail infinite or at most b * 2 ^ j
pub record OneCapped (j : ℕ) (q : Position) : Type 0 where
  pub prices : (r p : ℕ) (c : ℤ) → p ≤ 1 → Mem c q.candidates → T (allowed q r c) → T (capped binary32 1 j (q.price r p c))

pub record AllCapped (j b : ℕ) (t : Tail) (qs : List Position) : Type 0 where
  pub tails : (p : ℕ) → p ≤ 1 → T (capped binary32 b j (t.cost p))
  pub each : (q : Position) → Mem q qs → OneCapped j q

rest-capped : {j b : ℕ} {t : Tail} {q : Position} {qs : List Position} → AllCapped j b t (q ∷ qs) → AllCapped j b t qs
rest-capped Q = record { tails = Q.tails; each = λ x m. Q.each x (there m) }

-- to show it, position by position
pub none-capped : {j b : ℕ} {t : Tail} → ((p : ℕ) → p ≤ 1 → T (capped binary32 b j (t.cost p))) → AllCapped j b t []
none-capped h = record { tails = h; each = λ x m. absurd (not-nil m) }

pub more-capped : {j b : ℕ} {t : Tail} {q : Position} {qs : List Position} → OneCapped j q → AllCapped j b t qs → AllCapped j b t (q ∷ qs)
more-capped {j} {b} {t} {q} {qs} h Q = record { tails = Q.tails; each = λ x m. front x (cases_cons m) }
  where
    front : (x : Position) → (x ≡ q) ⊎ Mem x qs → OneCapped j x
    front x (inl e) = subst⁻¹ (OneCapped j) e h
    front x (inr m) = Q.each x m

-- then every price is a cost
pub capped-priced : {j b : ℕ} {t : Tail} {qs : List Position} → AllCapped j b t qs → AllPriced t qs
capped-priced {j} {b} {t} {qs} Q = record {
  tails = λ p P. capped-cost binary32 b j (t.cost p) (Q.tails p P);
  each = λ q m. record { prices = λ r p c P k a. capped-cost binary32 1 j (q.price r p c) ((Q.each q m).prices r p c P k a) };
}

-- ---- one term more
-- where a sum is finite exactly if both terms are, and the second exactly if u fails
neither : (x y z u : Bool) → (T z → T x × T y) → (T x → T y → T z) → y ≡ not u → z ≡ not (not x || u)
neither x y z u f g e =
    same_test z (not (not x || u))
    (λ (t : T z). into x u (f t).0 (subst (λ (b : Bool). T b) e (f t).1))
    (λ (t : T (not (not x || u))). g (left x u t) (subst⁻¹ (λ (b : Bool). T b) e (right x u t)))
  where
    into : (x u : Bool) → T x → T (not u) → T (not (not x || u))
    into true u a b = b
    into false u a b = absurd a

    left : (x u : Bool) → T (not (not x || u)) → T x
    left true u t = tt
    left false u t = t

    right : (x u : Bool) → T (not (not x || u)) → T (not u)
    right true u t = t
    right false u t = absurd t

term-finite : (j m n : ℕ) (x y : Float) (u : Bool) → Room j (m + n) → T (capped binary32 m j x) → T (capped binary32 n j y) → finite y ≡ not u → finite (add binary32 x y) ≡ not (not (finite x) || u)
term-finite j m n x y u R X Y e =
    neither (finite x) (finite y) (finite (add binary32 x y)) u
    (finite-terms binary32 x y (capped-cost binary32 m j x X) (capped-cost binary32 n j y Y))
    (add-finite binary32 m n j x y R.digits R.under X Y)
    e

one_more : (b n : ℕ) → 1 + (b + n) ≡ b + suc n
one_more b n = omega arith

fewer : (b n : ℕ) → b + n ≤ b + suc n
fewer b n = omega arith

twice-not : (x : Bool) → x ≡ not (not x)
twice-not true = refl
twice-not false = refl

module _ (j b : ℕ) (t : Tail) where
  -- a choice in the band costs +infinity, or at most (b + n) * 2 ^ j
  pub choice-capped : {qs : List Position} {cs : List ℤ} (p : ℕ) → AllCapped j b t qs → Room j (b + length qs) → p ≤ 1 → Choice qs cs → T (in_band t.count qs cs)
      → T (capped binary32 (b + length qs) j (cost_of t qs p cs))
  unfolding cost_of in_band remaining
  choice-capped p Q R P done h = subst (λ (n : ℕ). T (capped binary32 n j (t.cost p))) (sym (add-zero b)) (Q.tails p P)
  choice-capped p Q R P (takes {q} {qs} {c} {cs} m k) h =
      let r = remaining t.count cs in
      let n = length qs in
      let x = q.price (nz c + r) p c in
      let e = one_more b n in
      let M : Room j (1 + (b + n)) = subst⁻¹ (Room j) e R in
      subst (λ (z : ℕ). T (capped binary32 z j (add binary32 x (cost_of t qs (nz c) cs)))) e
      (add-capped binary32 1 (b + n) j x (cost_of t qs (nz c) cs) M.digits M.under
      ((Q.each q (here refl)).prices (nz c + r) p c P m (band-allowed q c r (and_l (within q r) (in_band t.count qs cs) h)))
      (choice-capped (nz c) (rest-capped Q) (less-room (b + n) (fewer b n) R) (nz-le c) k (and_r (within q r) (in_band t.count qs cs) h)))

  -- it is infinite exactly where one of its terms is
  pub choice-infinite : {qs : List Position} {cs : List ℤ} (p : ℕ) → AllCapped j b t qs → Room j (b + length qs) → p ≤ 1 → Choice qs cs → T (in_band t.count qs cs)
      → finite (cost_of t qs p cs) ≡ not (has_infinite t qs p cs)
  unfolding cost_of in_band remaining has_infinite
  choice-infinite p Q R P done h = twice-not (finite (t.cost p))
  choice-infinite p Q R P (takes {q} {qs} {c} {cs} m k) h =
      let r = remaining t.count cs in
      let n = length qs in
      let x = q.price (nz c + r) p c in
      let N = less-room (b + n) (fewer b n) R in
      let i = and_r (within q r) (in_band t.count qs cs) h in
      term-finite j 1 (b + n) x (cost_of t qs (nz c) cs) (has_infinite t qs (nz c) cs) (subst⁻¹ (Room j) (one_more b n) R)
      ((Q.each q (here refl)).prices (nz c + r) p c P m (band-allowed q c r (and_l (within q r) (in_band t.count qs cs) h)))
      (choice-capped (nz c) (rest-capped Q) N (nz-le c) k i)
      (choice-infinite (nz c) (rest-capped Q) N (nz-le c) k i)

-- ---- the whole cost
-- the bound for a problem: one term more, for the count
pub record Capped (j b : ℕ) (w : Problem) : Type 0 where
  pub each : AllCapped j b w.tail w.positions
  pub counts : (n : ℕ) → Between w.fewest w.width n → T (capped binary32 1 j (w.count_cost n))
  pub room : Room j (suc (b + length w.positions))

module _ (j b : ℕ) (w : Problem) (S : Sound w) (C : Capped j b w) where
  -- a choice in the band has an infinite whole cost exactly where one of its terms is infinite
  pub whole-finite : (cs : List ℤ) → Banded w cs → finite (whole_cost w cs) ≡ not (whole_infinite w cs)
  unfolding whole_cost whole_infinite
  whole-finite cs B =
      let n = count_of w cs in
      let p = w.first_prev n in
      let m = b + length w.positions in
      let x = cost_of w.tail w.positions p cs in
      let y = w.count_cost n in
      let u = has_infinite w.tail w.positions p cs in
      let R = less-room m (more m) C.room in
      let e = choice-infinite j b w.tail p C.each R (S.firsts n) B.choice B.band in
      term-finite j m 1 x y (not (finite y)) (subst⁻¹ (Room j) (last m) C.room) (choice-capped j b w.tail p C.each R (S.firsts n) B.choice B.band) (C.counts n (S.covers cs B)) (twice-not (finite y))
      ∙ ap (λ (z : Bool). not (z || not (finite y))) (ap not e ∙ sym (twice-not u))
    where
      more : (m : ℕ) → m ≤ suc m
      more m = omega arith

      last : (m : ℕ) → m + 1 ≡ suc m
      last m = omega arith

  -- the search finds nothing finite exactly where every choice in the band has an infinite term
  pub none-finite : (least_total w ≡ inf false) ↔ ((cs : List ℤ) → Banded w cs → T (whole_infinite w cs))
  none-finite = (λ e cs B. to (whole_infinite w cs) (sym (whole-finite cs B) ∙ ap finite ((whole-infinite w S).0 e cs B)), λ h. (whole-infinite w S).1 (λ cs B. Order.infinite (whole_cost w cs) (whole-cost w S cs B) (subst⁻¹ (λ (z : Bool). T (not z)) (whole-finite cs B) (twice (whole_infinite w cs) (h cs B)))))
    where
      to : (u : Bool) → not u ≡ false → T u
      to true e = tt
      to false e = absurd (true≢false e)

      twice : (u : Bool) → T u → T (not (not u))
      twice true t = tt
      twice false t = t
