-- The sign of a rounded value, and the bound on a difference of two values of one sign. Assumes nothing.
use mathlib.Core.Path.{◌≡◌, refl, sym, ap, ◌∙◌, subst}
use Prim.Native.Nat.{ℕ, zero, suc, ◌+◌, ◌-◌, ◌*◌, ◌^◌, ◌≤◌, ◌<◌}
use native.Mathlib.Nat.{le_trans, le_of_eq, mul_comm, mul_assoc, mul-pos, mul-le-mul_right, sub-le}
use mathlib.Core.Bool.{Bool, true, false, not, ◌&&◌, cond, beq}
use lib.Dec.{T, ltb, leb→le}
use lib.Ieee.{Float, nan, inf, fin, Format, prec, emax, low, up, down, odd, units, round, sum, sub}
use lib.Ieee.Fits.{down_pos, round_is}
use lib.Ieee.Order.{drop, kept}
use lib.Ieee.Scale.{overflow}
use Rattle.costs.specs.Cost.{bounded}
use Rattle.costs.proofs.Bound.{round-bounded}

-- ---- the sign of a rounded value

abbrev pub sign_of : Float → Bool
sign_of nan = false
sign_of (inf s) = s
sign_of (fin s m e) = s

pub round-sign : (f : Format) (s : Bool) (num den : ℕ) → sign_of (round f s num den) ≡ s
unfolding units odd
round-sign f s num den = ap sign_of (round_is f s num den) ∙ go (kept (prec f) (num * 2 ^ low f) den) (drop (prec f) (num * 2 ^ low f) den)
  where
    pick : (q k : ℕ) (b : Bool) → sign_of (cond b (odd (suc (prec f)) s q k (low f)) (inf s)) ≡ s
    pick zero k true = refl
    pick (suc q) k true = refl
    pick q k false = refl

    go : (q k : ℕ) → sign_of (units f s q k) ≡ s
    go q k = pick q k (ltb (q * 2 ^ k) (2 ^ (low f + suc (emax f))))

-- ---- the difference of two values of one sign is no larger than the larger of them

less : (x y l : ℕ) → (x - y) * l ≤ x * l
less x y l = mul-le-mul_right l (sub-le x y)

scaled : (x l a d c : ℕ) → x * l ≤ a * d → x * c * l ≤ a * (d * c)
scaled x l a d c h =
    le_trans (le_of_eq (mul_assoc x c l ∙ ap (λ (z : ℕ). x * z) (mul_comm c l) ∙ sym (mul_assoc x l c))) (le_trans (mul-le-mul_right c h) (le_of_eq (mul_assoc a d c)))

flip : (a d c : ℕ) → a * (d * c) ≡ a * (c * d)
flip a d c = ap (λ (z : ℕ). a * z) (mul_comm d c)

-- two signs, one of them turned
differ : (s : Bool) → beq s (not s) ≡ false
differ true = refl
differ false = refl

pub diff-bounded : (f : Format) (a j : ℕ) (x y : Float) → a < 2 ^ prec f → a * 2 ^ j < overflow f → sign_of x ≡ sign_of y → T (bounded f a j x) → T (bounded f a j y) → T (bounded f a j (sub f x y))
unfolding bounded sub
diff-bounded f a j nan y small fine e h k = absurd h
diff-bounded f a j (inf s) y small fine e h k = absurd h
diff-bounded f a j (fin s m e) nan small fine g h k = absurd k
diff-bounded f a j (fin s m e) (inf t) small fine g h k = absurd k
diff-bounded f a j (fin s m e) (fin t n d) small fine g h k =
    let x = m * up e * down d in
    let y = n * up d * down e in
    let c = down e * down d in
    let C = mul-pos (down_pos e) (down_pos d) in
    let hx : x * 2 ^ low f ≤ a * 2 ^ j * c = scaled (m * up e) (2 ^ low f) (a * 2 ^ j) (down e) (down d) (leb→le (m * up e * 2 ^ low f) (a * 2 ^ j * down e) h) in
    let hy : y * 2 ^ low f ≤ a * 2 ^ j * c = le_trans (scaled (n * up d) (2 ^ low f) (a * 2 ^ j) (down d) (down e) (leb→le (n * up d * 2 ^ low f) (a * 2 ^ j * down d) k)) (le_of_eq (flip (a * 2 ^ j) (down d) (down e))) in
    subst (λ (b : Bool). T (bounded f a j (sum f s x (not b) y c))) g (go s x y c C hx hy)
  where
    go : (s : Bool) (x y c : ℕ) → 0 < c → x * 2 ^ low f ≤ a * 2 ^ j * c → y * 2 ^ low f ≤ a * 2 ^ j * c → T (bounded f a j (sum f s x (not s) y c))
    go s x y c C hx hy = subst (λ (b : Bool). T (bounded f a j (cond b (round f s (x + y) c) (cond (ltb x y) (round f (not s) (y - x) c) (round f (s && ltb y x) (x - y) c))))) (sym (differ s)) (either (ltb x y))
      where
        either : (b : Bool) → T (bounded f a j (cond b (round f (not s) (y - x) c) (round f (s && ltb y x) (x - y) c)))
        either true = round-bounded f (not s) (y - x) c a j C small fine (le_trans (less y x (2 ^ low f)) hy)
        either false = round-bounded f (s && ltb y x) (x - y) c a j C small fine (le_trans (less x y (2 ^ low f)) hx)
