-- One step of the recursion: what it costs, and when it is finite. Assumes nothing.
use mathlib.Core.Path.{◌≡◌, refl, ap, subst}
use Prim.Native.Nat.{ℕ, ◌-◌, ◌≤◌}
use mathlib.Core.Bool.{Bool, true, false, cond}
use mathlib.Core.List.{Memᴰ as Mem}
use lib.IntN.{ℤ}
use lib.Dec.{T, leb, leb→le, le→leb}
use lib.Ieee.{Float, inf, binary32, add}
use lib.Ieee.Fits.{and_i, and_l, and_r}
use lib.Ieee.Scale.{finite}
use Rattle.costs.specs.Cost.{cost}
use Rattle.costs.proofs.View.{at-inf, viewed}
use Rattle.costs.proofs.Sum.{add-cost, finite-terms}
use Rattle.least_cost.specs.Position.{Position, Priced, nz, within, allowed}
use Rattle.least_cost.specs.Search.{step}
use Rattle.least_cost.proofs.Trial.{nz-le}

-- ---- allowed: among the r, and the others within the band
pub allow : (q : Position) (r : ℕ) (c : ℤ) → nz c ≤ r → T (within q (r - nz c)) → T (allowed q r c)
unfolding allowed
allow q r c h k = and_i (leb (nz c) r) (within q (r - nz c)) (le→leb (nz c) r h) k

pub allowed-among : (q : Position) (r : ℕ) (c : ℤ) → T (allowed q r c) → nz c ≤ r
unfolding allowed
allowed-among q r c h = leb→le (nz c) r (and_l (leb (nz c) r) (within q (r - nz c)) h)

pub allowed-within : (q : Position) (r : ℕ) (c : ℤ) → T (allowed q r c) → T (within q (r - nz c))
unfolding allowed
allowed-within q r c h = and_r (leb (nz c) r) (within q (r - nz c)) h

-- ---- the step
-- costs for the later positions, whatever is asked of them
pub record Costs (b : ℕ → ℕ → Float) : Type 0 where
  pub costs : (r p : ℕ) → p ≤ 1 → T (cost (b r p))

pub step-at : (q : Position) (r p : ℕ) (b : ℕ → ℕ → Float) (c : ℤ) → T (allowed q r c) → step q r p b c ≡ add binary32 (q.price r p c) (b (r - nz c) (nz c))
unfolding step
step-at q r p b c h = go (allowed q r c) h
  where
    go : (k : Bool) → T k → cond k (add binary32 (q.price r p c) (b (r - nz c) (nz c))) (inf false) ≡ add binary32 (q.price r p c) (b (r - nz c) (nz c))
    go true t = refl
    go false t = absurd t

pub step-barred : (q : Position) (r p : ℕ) (b : ℕ → ℕ → Float) (c : ℤ) → allowed q r c ≡ false → step q r p b c ≡ inf false
unfolding step
step-barred q r p b c e = ap (λ (k : Bool). cond k (add binary32 (q.price r p c) (b (r - nz c) (nz c))) (inf false)) e

pub step-allowed : (q : Position) (r p : ℕ) (b : ℕ → ℕ → Float) (c : ℤ) → T (finite (step q r p b c)) → T (allowed q r c)
unfolding step
step-allowed q r p b c = go (allowed q r c)
  where
    go : (k : Bool) → T (finite (cond k (add binary32 (q.price r p c) (b (r - nz c) (nz c))) (inf false))) → T k
    go true t = tt
    go false t = t

pub step-cost : (q : Position) (r p : ℕ) (b : ℕ → ℕ → Float) (c : ℤ) → Priced q → Costs b → p ≤ 1 → Mem c q.candidates → T (cost (step q r p b c))
unfolding step
step-cost q r p b c Q B P m = go (allowed q r c) (Q.prices r p c P m)
  where
    go : (k : Bool) → (T k → T (cost (q.price r p c))) → T (cost (cond k (add binary32 (q.price r p c) (b (r - nz c) (nz c))) (inf false)))
    go true h = add-cost binary32 (q.price r p c) (b (r - nz c) (nz c)) (h tt) (B.costs (r - nz c) (nz c) (nz-le c))
    go false h = viewed at-inf

-- a finite step leads to a finite rest
pub step-rest : (q : Position) (r p : ℕ) (b : ℕ → ℕ → Float) (c : ℤ) → Priced q → Costs b → p ≤ 1 → Mem c q.candidates → T (finite (step q r p b c)) → T (finite (b (r - nz c) (nz c)))
step-rest q r p b c Q B P m t =
    let a = step-allowed q r p b c t in
    (finite-terms binary32 (q.price r p c) (b (r - nz c) (nz c)) (Q.prices r p c P m a) (B.costs (r - nz c) (nz c) (nz-le c))
    (subst (λ (z : Float). T (finite z)) (step-at q r p b c a) t)).1

-- only what b says of the band counts
pub step_same : (q : Position) (r p : ℕ) (b d : ℕ → ℕ → Float) (c : ℤ) → (T (allowed q r c) → b (r - nz c) (nz c) ≡ d (r - nz c) (nz c)) → step q r p b c ≡ step q r p d c
unfolding step
step_same q r p b d c h = go (allowed q r c) h
  where
    go : (k : Bool) → (T k → b (r - nz c) (nz c) ≡ d (r - nz c) (nz c))
        → cond k (add binary32 (q.price r p c) (b (r - nz c) (nz c))) (inf false) ≡ cond k (add binary32 (q.price r p c) (d (r - nz c) (nz c))) (inf false)
    go true e = ap (add binary32 (q.price r p c)) (e tt)
    go false e = refl
