-- `each n p` says that p holds of each number below n.
use Prim.Native.Nat.{ℕ, zero, suc, ◌+◌, ◌-◌, ◌*◌, ◌<◌, ◌≤◌}
use mathlib.Core.Path.{◌≡◌, refl, sym, ap, ap₂, ◌∙◌}
use mathlib.Core.Bool.{Bool, true, false, ◌&&◌, false≢true, and-true, and_assoc}
use native.Mathlib.Omega.{arith}
use native.Mathlib.Nat.{not-suc-le-zero, zero-add, add-zero, add-suc, zero-mul}
use native.Mathlib.Numerals.{add-one}
use lib.Dec.{eqb}
use borrow.Author.Tests.{eqb-true, eqb-false, ne_eqb}
use Rattle.prices.specs.Checks.{each}

pub both : (a b : Bool) → a && b ≡ true → (a ≡ true) × (b ≡ true)
both true b e = (refl, e)
both false b e = absurd (false≢true e)

pub both_of : (a b : Bool) → a ≡ true → b ≡ true → a && b ≡ true
both_of a b e d = rw (e, d)

pub each_below : (p : ℕ → Bool) (n : ℕ) → each n p ≡ true → (i : ℕ) → i < n → p i ≡ true
unfolding each
each_below p zero e i h = absurd (not-suc-le-zero h)
each_below p (suc n) e i h = go (eqb i n) refl (each_below p n (both _ _ e).0 i)
  where
    go : (t : Bool) → eqb i n ≡ t → (i < n → p i ≡ true) → p i ≡ true
    go true d r = rw (eqb-true i n d) (both (each n p) (p n) e).1
    go false d r = let ne = eqb-false i n d in r (omega arith)

pub each_all : (p : ℕ → Bool) (n : ℕ) → ((i : ℕ) → i < n → p i ≡ true) → each n p ≡ true
unfolding each
each_all p zero h = refl
each_all p (suc n) h = both_of _ _ (each_all p n (λ i k. h i (omega arith))) (h n (omega arith))

-- one more, as a loop takes it
pub each_more : (p : ℕ → Bool) (n : ℕ) → each n p ≡ true → p n ≡ true → each (n + 1) p ≡ true
unfolding each
each_more p n e d = rw (add-one n) (both_of _ _ e d)

-- one that fails fails the whole
pub each-fails : (p : ℕ → Bool) (n i : ℕ) → i < n → p i ≡ false → each n p ≡ false
unfolding each
each-fails p zero i h d = absurd (not-suc-le-zero h)
each-fails p (suc n) i h d = go (eqb i n) refl (each-fails p n i)
  where
    last : (b : Bool) → b && false ≡ false
    last true = refl
    last false = refl

    go : (t : Bool) → eqb i n ≡ t → (i < n → p i ≡ false → each n p ≡ false) → each n p && p n ≡ false
    go true q r = ap (λ (b : Bool). each n p && b) (rw (← eqb-true i n q) d) ∙ last (each n p)
    go false q r = let ne = eqb-false i n q in rw (r (omega arith) d)

-- predicates that agree below n
pub each_same : (p q : ℕ → Bool) (n : ℕ) → ((i : ℕ) → i < n → p i ≡ q i) → each n p ≡ each n q
unfolding each
each_same p q zero h = refl
each_same p q (suc n) h = ap₂ ◌&&◌ (each_same p q n (λ i k. h i (omega arith))) (h n (omega arith))

-- a loop that counts failures: no failure so far is what `each` says
pub each-count : (p : ℕ → Bool) (n bad f : ℕ) → each n p ≡ eqb bad 0 → p n ≡ eqb f 0 → each (n + 1) p ≡ eqb (bad + f) 0
unfolding each
each-count p n zero f e d = rw (add-one n, e, d, zero-add f)
each-count p n (suc bad) f e d = rw (add-one n, e, ne_eqb (suc bad) 0 (λ q. omega arith)) (sym (ne_eqb (suc bad + f) 0 (λ q. omega arith)))

-- a run of n after a
pub each-run : (p : ℕ → Bool) (a n : ℕ) → each (a + n) p ≡ (each a p && each n (λ i. p (a + i)))
unfolding each
each-run p a zero = rw (add-zero a) (sym (and-true (each a p)))
each-run p a (suc n) = rw add-suc (ap (λ (t : Bool). t && p (a + n)) (each-run p a n) ∙ and_assoc (each a p) (each n (λ i. p (a + i))) (p (a + n)))

-- n blocks of c numbers
pub each-blocks : (p : ℕ → Bool) (c n : ℕ) → each (n * c) p ≡ each n (λ i. each c (λ t. p (i * c + t)))
unfolding each
each-blocks p c zero = rw (zero-mul c) refl
each-blocks p c (suc n) =
    let more : suc n * c ≡ n * c + c = omega arith in
    rw more (each-run p (n * c) c ∙ ap (λ (b : Bool). b && each c (λ t. p (n * c + t))) (each-blocks p c n))

-- what fails below a number fails below a greater one
pub each-cut : (p : ℕ → Bool) (a c : ℕ) → a ≤ c → each a p ≡ false → each c p ≡ false
each-cut p a c h e =
    let more : c ≡ a + (c - a) = omega arith in
    rw more (each-run p a (c - a) ∙ ap (λ (b : Bool). b && each (c - a) (λ i. p (a + i))) e)
