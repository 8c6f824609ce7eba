-- The order of costs: reflexive, transitive, total, and with +infinity on top. Two costs that fit a format and are each at most the other are the same. Assumes nothing.
use mathlib.Core.Path.{◌≡◌, refl, sym, ap, ap₂, ◌∙◌, subst}
use mathlib.Core.Logic.{◌⊎◌, inl, inr}
use Prim.Native.Nat.{ℕ, ◌+◌, ◌-◌, ◌*◌, ◌/◌, ◌^◌, ◌≤◌, ◌<◌}
use native.Mathlib.Nat.{le_of_eq, le_of_lt, mul_right_comm, eq-or-lt_of_le}
use native.Mathlib.Nat as Nat
use native.Mathlib.Omega.{arith}
use mathlib.Core.Bool.{Bool, true, false, not, ◌&&◌, ◌||◌}
use lib.IntN.{ℤ}
use lib.Dec.{T, leb, ltb, eqb, leb→le, le→leb, ltb→lt, lt→ltb, nleb→lt, eqb→eq, not_T, T_not}
use lib.Ieee.{Float, inf, fin, Format, prec, low, up, down, hid, size, lt, eq, le, fits, to_bits, of_bits}
use lib.Ieee.Bits.{is_true, of_bits-to_bits}
use lib.Ieee.Fits.{down_pos, eq→eqb, and_i, and_l, and_r}
use lib.Ieee.Nearest.{div_same}
use lib.Ieee.Positive.{through}
use lib.Ieee.Scale.{finite}
use Rattle.costs.specs.Cost.{cost}
use Rattle.costs.proofs.View.{Cost, at-inf, at-fin, view}

-- ---- tests
-- tests that pass together are equal
pub same_test : (p q : Bool) → (T p → T q) → (T q → T p) → p ≡ q
same_test true true f g = refl
same_test true false f g = absurd (f tt)
same_test false true f g = absurd (g tt)
same_test false false f g = refl

either : (p q : Bool) → T (p || q) → T p ⊎ T q
either true q h = inl tt
either false q h = inr h

left_or : (p q : Bool) → T p → T (p || q)
left_or true q h = tt
left_or false q h = absurd h

right_or : (p q : Bool) → T q → T (p || q)
right_or true q h = tt
right_or false q h = h

lt-or-eq : (a b : ℕ) → (ltb a b || (eqb a b && true)) ≡ leb a b
lt-or-eq a b = same_test (ltb a b || (eqb a b && true)) (leb a b) down' up'
  where
    down' : T (ltb a b || (eqb a b && true)) → T (leb a b)
    down' h =
        elim (either (ltb a b) (eqb a b && true) h) [
          | inl u ↦ le→leb a b (le_of_lt (ltb→lt a b u))
          | inr u ↦ le→leb a b (le_of_eq (eqb→eq a b (and_l (eqb a b) true u)))
        ]

    up' : T (leb a b) → T (ltb a b || (eqb a b && true))
    up' h =
        elim (eq-or-lt_of_le (leb→le a b h)) [
          | inl e ↦ right_or (ltb a b) (eqb a b && true) (and_i (eqb a b) true (eq→eqb e) tt)
          | inr l ↦ left_or (ltb a b) (eqb a b && true) (lt→ltb a b l)
        ]

lt-not-ge : (a b : ℕ) → ltb a b ≡ not (leb b a)
lt-not-ge a b =
    same_test (ltb a b) (not (leb b a))
    (λ (h : T (ltb a b)). not_T (leb b a) (λ (k : T (leb b a)). clash (ltb→lt a b h) (leb→le b a k)))
    (λ (h : T (not (leb b a))). lt→ltb a b (nleb→lt b a h))
  where
    clash : a < b → b ≤ a → ⊥
    clash h k = omega arith

-- ---- two finite costs, as fractions
pub fin-lt : (m : ℕ) (e : ℤ) (n : ℕ) (d : ℤ) → lt (fin false m e) (fin false n d) ≡ ltb (m * up e * down d) (n * up d * down e)
unfolding lt
fin-lt m e n d = refl

pub fin-le : (m : ℕ) (e : ℤ) (n : ℕ) (d : ℤ) → le (fin false m e) (fin false n d) ≡ leb (m * up e * down d) (n * up d * down e)
unfolding le
fin-le m e n d = lt-or-eq (m * up e * down d) (n * up d * down e)

pub cross→le : (m : ℕ) (e : ℤ) (n : ℕ) (d : ℤ) → m * up e * down d ≤ n * up d * down e → T (le (fin false m e) (fin false n d))
cross→le m e n d h = subst (λ (b : Bool). T b) (sym (fin-le m e n d)) (le→leb (m * up e * down d) (n * up d * down e) h)

pub le→cross : (m : ℕ) (e : ℤ) (n : ℕ) (d : ℤ) → T (le (fin false m e) (fin false n d)) → m * up e * down d ≤ n * up d * down e
le→cross m e n d h = leb→le (m * up e * down d) (n * up d * down e) (subst (λ (b : Bool). T b) (fin-le m e n d) h)

-- ---- +infinity
-- every cost is at most +infinity
pub le-inf : (x : Float) → T (cost x) → T (le x (inf false))
unfolding le
le-inf x c = go (view x c)
  where
    go : {x : Float} → Cost x → T (le x (inf false))
    go at-inf = tt
    go (at-fin m e) = tt

-- a cost is below +infinity exactly where it is finite
pub lt-inf : (x : Float) → T (cost x) → lt x (inf false) ≡ finite x
unfolding lt
lt-inf x c = go (view x c)
  where
    go : {x : Float} → Cost x → lt x (inf false) ≡ finite x
    go at-inf = refl
    go (at-fin m e) = refl

-- +infinity is below no cost
pub inf-lt : (x : Float) → T (cost x) → lt (inf false) x ≡ false
unfolding lt
inf-lt x c = go (view x c)
  where
    go : {x : Float} → Cost x → lt (inf false) x ≡ false
    go at-inf = refl
    go (at-fin m e) = refl

-- a cost that is not finite is +infinity
pub infinite : (x : Float) → T (cost x) → T (not (finite x)) → x ≡ inf false
infinite x c = go (view x c)
  where
    go : {x : Float} → Cost x → T (not (finite x)) → x ≡ inf false
    go at-inf h = refl
    go (at-fin m e) h = absurd h

-- a cost that is at least +infinity is +infinity
pub inf-le : (x : Float) → T (cost x) → T (le (inf false) x) → x ≡ inf false
unfolding le
inf-le x c = go (view x c)
  where
    go : {x : Float} → Cost x → T (le (inf false) x) → x ≡ inf false
    go at-inf h = refl
    go (at-fin m e) h = absurd h

-- what is at most a finite cost is finite
pub le-finite : (x y : Float) → T (cost x) → T (cost y) → T (le x y) → T (finite y) → T (finite x)
unfolding le
le-finite x y c d = go (view x c) (view y d)
  where
    go : {x y : Float} → Cost x → Cost y → T (le x y) → T (finite y) → T (finite x)
    go at-inf at-inf h k = k
    go at-inf (at-fin n d) h k = h
    go (at-fin m e) d h k = tt

-- ---- a linear order
pub le_refl : (x : Float) → T (cost x) → T (le x x)
unfolding le
le_refl x c = go (view x c)
  where
    go : {x : Float} → Cost x → T (le x x)
    go at-inf = tt
    go (at-fin m e) = cross→le m e m e (Nat.le_refl (m * up e * down e))

pub le_trans : (x y z : Float) → T (cost x) → T (cost y) → T (cost z) → T (le x y) → T (le y z) → T (le x z)
unfolding le
le_trans x y z a b c = go (view x a) (view y b) (view z c)
  where
    go : {x y z : Float} → Cost x → Cost y → Cost z → T (le x y) → T (le y z) → T (le x z)
    go at-inf b at-inf h k = tt
    go (at-fin m e) b at-inf h k = tt
    go at-inf at-inf (at-fin l g) h k = k
    go at-inf (at-fin n d) (at-fin l g) h k = absurd h
    go (at-fin m e) at-inf (at-fin l g) h k = absurd k
    go (at-fin m e) (at-fin n d) (at-fin l g) h k =
        cross→le m e l g (through (m * up e) (n * up d) (l * up g) (down e) (down d) (down g) (down_pos d) (le→cross m e n d h) (le→cross n d l g k))

-- `<` is the opposite of `≤` the other way round
pub lt-is : (x y : Float) → T (cost x) → T (cost y) → lt x y ≡ not (le y x)
unfolding lt le
lt-is x y a b = go (view x a) (view y b)
  where
    go : {x y : Float} → Cost x → Cost y → lt x y ≡ not (le y x)
    go at-inf at-inf = refl
    go at-inf (at-fin n d) = refl
    go (at-fin m e) at-inf = refl
    go (at-fin m e) (at-fin n d) = fin-lt m e n d ∙ lt-not-ge (m * up e * down d) (n * up d * down e) ∙ ap not (sym (fin-le n d m e))

pub lt→le : (x y : Float) → T (lt x y) → T (le x y)
unfolding le
lt→le x y h = left_or (lt x y) (eq x y) h

pub not-lt→le : (x y : Float) → T (cost x) → T (cost y) → T (not (lt x y)) → T (le y x)
not-lt→le x y a b h = back (le y x) (subst (λ (p : Bool). T (not p)) (lt-is x y a b) h)
  where
    back : (p : Bool) → T (not (not p)) → T p
    back true k = tt
    back false k = k

pub le→not-lt : (x y : Float) → T (cost x) → T (cost y) → T (le y x) → lt x y ≡ false
le→not-lt x y a b h = lt-is x y a b ∙ ap not (is_true (le y x) h)

pub lt→not-le : (x y : Float) → T (cost x) → T (cost y) → T (lt x y) → T (le y x) → ⊥
lt→not-le x y a b h k = T_not (le y x) (subst (λ (p : Bool). T p) (lt-is x y a b) h) k

pub not-le→lt : (x y : Float) → T (cost x) → T (cost y) → (T (le y x) → ⊥) → T (lt x y)
not-le→lt x y a b h = subst (λ (p : Bool). T p) (sym (lt-is x y a b)) (not_T (le y x) h)

pub lt-le-trans : (x y z : Float) → T (cost x) → T (cost y) → T (cost z) → T (lt x y) → T (le y z) → T (lt x z)
lt-le-trans x y z a b c h k = not-le→lt x z a c (λ (l : T (le z x)). lt→not-le x y a b h (le_trans y z x b c a k l))

pub le_lt_trans : (x y z : Float) → T (cost x) → T (cost y) → T (cost z) → T (le x y) → T (lt y z) → T (lt x z)
le_lt_trans x y z a b c h k = not-le→lt x z a c (λ (l : T (le z x)). lt→not-le y z b c k (le_trans z x y c a b l h))

pub le_total : (x y : Float) → T (cost x) → T (cost y) → T (le x y) ⊎ T (le y x)
le_total x y a b = go (lt x y) (lt→le x y) (not-lt→le x y a b)
  where
    go : (p : Bool) → (T p → T (le x y)) → (T (not p) → T (le y x)) → T (le x y) ⊎ T (le y x)
    go true h k = inl (h tt)
    go false h k = inr (k tt)

-- ---- `==` is `≤` both ways
pub eq_is : (x y : Float) → T (cost x) → T (cost y) → eq x y ≡ (le x y && le y x)
unfolding eq le
eq_is x y a b = go (view x a) (view y b)
  where
    sides : (m n : ℕ) → (eqb m n && true) ≡ (leb m n && leb n m)
    sides m n =
        same_test (eqb m n && true) (leb m n && leb n m)
        (λ (h : T (eqb m n && true)).
        let e = eqb→eq m n (and_l (eqb m n) true h) in
        and_i (leb m n) (leb n m) (le→leb m n (le_of_eq e)) (le→leb n m (le_of_eq (sym e))))
        (λ (h : T (leb m n && leb n m)).
        and_i (eqb m n) true (eq→eqb (Nat.le_antisymm (leb→le m n (and_l (leb m n) (leb n m) h)) (leb→le n m (and_r (leb m n) (leb n m) h)))) tt)

    go : {x y : Float} → Cost x → Cost y → eq x y ≡ (le x y && le y x)
    go at-inf at-inf = refl
    go at-inf (at-fin n d) = refl
    go (at-fin m e) at-inf = refl
    go (at-fin m e) (at-fin n d) = sides (m * up e * down d) (n * up d * down e) ∙ sym (ap₂ ◌&&◌ (fin-le m e n d) (fin-le n d m e))

pub eq→le : (x y : Float) → T (cost x) → T (cost y) → T (eq x y) → T (le x y) × T (le y x)
eq→le x y a b h = let k = subst (λ (p : Bool). T p) (eq_is x y a b) h in (and_l (le x y) (le y x) k, and_r (le x y) (le y x) k)

pub le→eq : (x y : Float) → T (cost x) → T (cost y) → T (le x y) → T (le y x) → T (eq x y)
le→eq x y a b h k = subst (λ (p : Bool). T p) (sym (eq_is x y a b)) (and_i (le x y) (le y x) h k)

-- ---- equal in size and both of a format: the same bit pattern, so the same
same_bits : (f : Format) (m : ℕ) (e : ℤ) (n : ℕ) (d : ℤ) → m * up e * down d ≡ n * up d * down e → to_bits f (fin false m e) ≡ to_bits f (fin false n d)
unfolding to_bits
same_bits f m e n d h =
    let l = 2 ^ low f in
    ap (λ (z : ℕ). 0 + (size z - prec f) * hid f + z / 2 ^ (size z - prec f))
    (div_same (m * up e * l) (down e) (n * up d * l) (down d) (down_pos e) (down_pos d)
    (mul_right_comm (m * up e) l (down d) ∙ ap (λ (z : ℕ). z * l) h ∙ mul_right_comm (n * up d) (down e) l))

pub le_antisymm : (f : Format) (x y : Float) → T (cost x) → T (cost y) → T (fits f x) → T (fits f y) → T (le x y) → T (le y x) → x ≡ y
unfolding le
le_antisymm f x y a b = go (view x a) (view y b)
  where
    go : {x y : Float} → Cost x → Cost y → T (fits f x) → T (fits f y) → T (le x y) → T (le y x) → x ≡ y
    go at-inf at-inf p q h k = refl
    go at-inf (at-fin n d) p q h k = absurd h
    go (at-fin m e) at-inf p q h k = absurd k
    go (at-fin m e) (at-fin n d) p q h k =
        sym (of_bits-to_bits f (fin false m e) p)
        ∙ ap (of_bits f) (same_bits f m e n d (Nat.le_antisymm (le→cross m e n d h) (le→cross n d m e k)))
        ∙ of_bits-to_bits f (fin false n d) q
