-- One step of the recursion taken apart: the nonzero candidates share what follows, so their first least is that of sums with a last term in common (`Factored`); 0 comes after them.
-- Assumes nothing.
use mathlib.Core.Path.{◌≡◌, refl, ap, ◌∙◌, subst⁻¹}
use Prim.Native.Nat.{ℕ, ◌-◌}
use native.Mathlib.Omega.{arith}
use mathlib.Core.Bool.{Bool, true, false, not, ◌&&◌, cond}
use mathlib.Core.List.Memᴰ.{head as here}
use mathlib.Core.List.Memᴰ.{tail as there}
use mathlib.Core.List.{List, [], ◌∷◌, Memᴰ as Mem}
use lib.IntN.{ℤ, pos}
use lib.Dec.{T, leb, leb-zero}
use lib.Ieee.{Float, inf, binary32, add, lt}
use lib.Ieee.Bits.{is_false}
use Rattle.least_cost.specs.Position.{Position, nz, within, allowed}
use Rattle.least_cost.specs.Search.{least, holder, nonzeros, has_zero, trial, step}
use Rattle.least_cost.proofs.First.{least-append, holder-append, least-same, holder-same}
use Rattle.least_cost.proofs.Trial.{nonzeros-count}
use Rattle.least_cost.proofs.Step.{step-at, step-barred}
use Rattle.least_cost.proofs.Factored.{plus}

-- ---- the nonzero candidates first, then 0
module _ (g : ℤ → Float) (cs : List ℤ) where
  last : (v : Float) (b : Bool) → least g v (cond b (pos 0 ∷ []) []) ≡ cond b (cond (lt (g (pos 0)) v) (g (pos 0)) v) v
  unfolding least
  last v true = refl
  last v false = refl

  last-holder : (v : Float) (d : ℤ) (b : Bool) → holder g v d (cond b (pos 0 ∷ []) []) ≡ cond b (cond (lt (g (pos 0)) v) (pos 0) d) d
  unfolding holder
  last-holder v d true = refl
  last-holder v d false = refl

  pub least-trial : (v : Float) → least g v (trial cs) ≡ cond (has_zero cs) (cond (lt (g (pos 0)) (least g v (nonzeros cs))) (g (pos 0)) (least g v (nonzeros cs))) (least g v (nonzeros cs))
  unfolding trial
  least-trial v = least-append g v (nonzeros cs) (cond (has_zero cs) (pos 0 ∷ []) []) ∙ last (least g v (nonzeros cs)) (has_zero cs)

  pub holder-trial : (v : Float) (d : ℤ) → holder g v d (trial cs) ≡ cond (has_zero cs) (cond (lt (g (pos 0)) (least g v (nonzeros cs))) (pos 0) (holder g v d (nonzeros cs))) (holder g v d (nonzeros cs))
  unfolding trial
  holder-trial v d = holder-append g v d (nonzeros cs) (cond (has_zero cs) (pos 0 ∷ []) []) ∙ last-holder (least g v (nonzeros cs)) (holder g v d (nonzeros cs)) (has_zero cs)

-- ---- what is allowed does not turn on which nonzero level it is
pub nonzero-allowed : (q : Position) (r : ℕ) (c : ℤ) → nz c ≡ 1 → allowed q r c ≡ (leb 1 r && within q (r - 1))
unfolding allowed
nonzero-allowed q r c e = ap (λ (n : ℕ). leb n r && within q (r - n)) e

pub zero-allowed : (q : Position) (r : ℕ) → allowed q r (pos 0) ≡ within q r
unfolding allowed nz
zero-allowed q r = ap (λ (b : Bool). b && within q (r - 0)) (leb-zero r) ∙ ap (within q) (less_none r)
  where
    less_none : (r : ℕ) → r - 0 ≡ r
    less_none r = omega arith

-- nothing in the list is finite
all-infinite : {A : Type 0} (g : A → Float) (cs : List A) → ((c : A) → Mem c cs → g c ≡ inf false) → least g (inf false) cs ≡ inf false
unfolding least lt
all-infinite g [] h = refl
all-infinite g (c ∷ cs) h = ap (λ (z : Float). least g (cond (lt z (inf false)) z (inf false)) cs) (h c (here refl)) ∙ all-infinite g cs (λ x m. h x (there m))

module _ (q : Position) (r p : ℕ) (b : ℕ → ℕ → Float) where
  -- 0: what follows is all that remains
  pub step-zero : step q r p b (pos 0) ≡ cond (within q r) (add binary32 (q.price r p (pos 0)) (b r 0)) (inf false)
  unfolding step nz
  step-zero =
      ap (λ (k : Bool). cond k (add binary32 (q.price r p (pos 0)) (b (r - 0) 0)) (inf false)) (zero-allowed q r)
      ∙ ap (λ (n : ℕ). cond (within q r) (add binary32 (q.price r p (pos 0)) (b n 0)) (inf false)) (less_none r)
    where
      less_none : (r : ℕ) → r - 0 ≡ r
      less_none r = omega arith

  -- a nonzero level is allowed: every one is, and each leaves r - 1
  module _ (h : T (leb 1 r && within q (r - 1))) where
    nonzero-step : (c : ℤ) → Mem c (nonzeros q.candidates) → step q r p b c ≡ plus (q.price r p) (b (r - 1) 1) c
    nonzero-step c m =
        let e = nonzeros-count q.candidates c m in
        step-at q r p b c (subst⁻¹ (λ (k : Bool). T k) (nonzero-allowed q r c e) h) ∙ ap (λ (n : ℕ). add binary32 (q.price r p c) (b (r - n) n)) e

    pub least-nonzeros : least (step q r p b) (inf false) (nonzeros q.candidates) ≡ least (plus (q.price r p) (b (r - 1) 1)) (inf false) (nonzeros q.candidates)
    least-nonzeros = least-same (step q r p b) (plus (q.price r p) (b (r - 1) 1)) (inf false) (nonzeros q.candidates) nonzero-step

    pub holder-nonzeros : (d : ℤ) → holder (step q r p b) (inf false) d (nonzeros q.candidates) ≡ holder (plus (q.price r p) (b (r - 1) 1)) (inf false) d (nonzeros q.candidates)
    holder-nonzeros d = holder-same (step q r p b) (plus (q.price r p) (b (r - 1) 1)) (inf false) d (nonzeros q.candidates) nonzero-step

  -- no nonzero level is allowed
  pub no-nonzeros : T (not (leb 1 r && within q (r - 1))) → least (step q r p b) (inf false) (nonzeros q.candidates) ≡ inf false
  no-nonzeros h = all-infinite (step q r p b) (nonzeros q.candidates) barred
    where
      barred : (c : ℤ) → Mem c (nonzeros q.candidates) → step q r p b c ≡ inf false
      barred c m = step-barred q r p b c (nonzero-allowed q r c (nonzeros-count q.candidates c m) ∙ is_false (leb 1 r && within q (r - 1)) h)
