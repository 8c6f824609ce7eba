-- A state's cost and level are those of the recursion's step. Assumes nothing.
use mathlib.Core.Path.{◌≡◌, refl, sym, ap, ◌∙◌, subst⁻¹}
use mathlib.Core.Bool.{Bool, true, false, cond, not, ◌&&◌}
use mathlib.Core.List.Memᴰ.{head as here}
use mathlib.Core.List.Memᴰ.{tail as there}
use mathlib.Core.List.{List, [], ◌∷◌, Memᴰ as Mem}
use Prim.Native.Nat.{ℕ, ◌-◌}
use lib.IntN.{ℤ, pos}
use lib.Dec.{T, leb}
use lib.Ieee.{Float, inf, lt, add, binary32}
use Rattle.costs.specs.Cost.{cost}
use Rattle.costs.proofs.Order.{inf-lt}
use Rattle.costs.proofs.Sum.{add-inf, add-cost}
use Rattle.least_cost.specs.Position.{Position, nz, within}
use Rattle.least_cost.specs.Search.{least, holder, nonzeros, has_zero, trial, step}
use Rattle.least_cost.proofs.First.{least-cost}
use Rattle.least_cost.proofs.Nonzero.{least-trial, holder-trial, step-zero, least-nonzeros, holder-nonzeros, no-nonzeros, nonzero-allowed}
use Rattle.least_cost.proofs.Step.{step-barred}
use Rattle.least_cost.proofs.Trial.{nonzeros-listed, nonzeros-count}
use Rattle.trellis_choice.specs.Chosen.{with, nonzero_cost, zero_cost, state_cost, state_level}
use Rattle.trellis_choice.proofs.Choosing.{zero-listed}
use Rattle.trellis_row.proofs.Rows.{dead-least}

-- where nothing is finite, nothing is held
dead-holder : (g : ℤ → Float) (qs : List ℤ) → ((q : ℤ) → Mem q qs → T (cost (g q))) → holder (with g (inf false)) (inf false) (pos 0) qs ≡ pos 0
unfolding holder lt
dead-holder g [] G = refl
dead-holder g (q ∷ qs) G =
    ap (λ (z : Float). holder (with g (inf false)) (cond (lt z (inf false)) z (inf false)) (cond (lt z (inf false)) q (pos 0)) qs) (add-inf binary32 (g q) (G q (here refl)))
    ∙ dead-holder g qs (λ c m. G c (there m))

barred-holder : (q : Position) (r p : ℕ) (d : ℕ → ℕ → Float) (cs : List ℤ) → leb 1 r && within q (r - 1) ≡ false → ((c : ℤ) → Mem c cs → nz c ≡ 1) → holder (step q r p d) (inf false) (pos 0) cs ≡ pos 0
unfolding holder lt
barred-holder q r p d [] e N = refl
barred-holder q r p d (c ∷ cs) e N =
    ap (λ (z : Float). holder (step q r p d) (cond (lt z (inf false)) z (inf false)) (cond (lt z (inf false)) c (pos 0)) cs) (step-barred q r p d c (nonzero-allowed q r c (N c (here refl)) ∙ e))
    ∙ barred-holder q r p d cs e (λ x m. N x (there m))

module _ (q : Position) (r p : ℕ) (d : ℕ → ℕ → Float) (x z : Float) (G : (c : ℤ) → Mem c q.candidates → T (cost (q.price r p c)))
    (X : x ≡ cond (leb 1 r && within q (r - 1)) (d (r - 1) 1) (inf false)) (Z : has_zero q.candidates ≡ true → z ≡ cond (within q r) (d r 0) (inf false)) (C : T (cost x)) where
  nonzero-least : nonzero_cost (q.price r p) x q.candidates ≡ least (step q r p d) (inf false) (nonzeros q.candidates)
  unfolding nonzero_cost
  nonzero-least = go (leb 1 r && within q (r - 1)) refl X
    where
      go : (t : Bool) → leb 1 r && within q (r - 1) ≡ t → x ≡ cond t (d (r - 1) 1) (inf false) → least (with (q.price r p) x) (inf false) (nonzeros q.candidates) ≡ least (step q r p d) (inf false) (nonzeros q.candidates)
      go true e f = ap (λ (y : Float). least (with (q.price r p) y) (inf false) (nonzeros q.candidates)) f ∙ sym (least-nonzeros q r p d (subst⁻¹ (λ (t : Bool). T t) e tt))
      go false e f =
          ap (λ (y : Float). least (with (q.price r p) y) (inf false) (nonzeros q.candidates)) f
          ∙ dead-least (q.price r p) (nonzeros q.candidates) (λ c m. G c (nonzeros-listed q.candidates c m))
          ∙ sym (no-nonzeros q r p d (subst⁻¹ (λ (t : Bool). T (not t)) e tt))

  zero-step : has_zero q.candidates ≡ true → with (q.price r p) z (pos 0) ≡ step q r p d (pos 0)
  zero-step h = go (within q r) refl (Z h) ∙ sym (step-zero q r p d)
    where
      go : (t : Bool) → within q r ≡ t → z ≡ cond t (d r 0) (inf false) → with (q.price r p) z (pos 0) ≡ cond (within q r) (add binary32 (q.price r p (pos 0)) (d r 0)) (inf false)
      go true e f = rw (f, e)
      go false e f = rw (f, e) (add-inf binary32 (q.price r p (pos 0)) (G (pos 0) (zero-listed q.candidates h)))

  nonzero-cost : T (cost (nonzero_cost (q.price r p) x q.candidates))
  unfolding nonzero_cost cost
  nonzero-cost = least-cost (with (q.price r p) x) (inf false) (nonzeros q.candidates) tt (λ c m. add-cost binary32 (q.price r p c) x (G c (nonzeros-listed q.candidates c m)) C)

  pub state-best : state_cost (q.price r p) x z q.candidates ≡ least (step q r p d) (inf false) (trial q.candidates)
  unfolding state_cost zero_cost
  state-best = go (has_zero q.candidates) refl ∙ sym (least-trial (step q r p d) q.candidates (inf false))
    where
      v : Float
      v = least (step q r p d) (inf false) (nonzeros q.candidates)

      go : (t : Bool) → has_zero q.candidates ≡ t
          → cond (lt (cond t (with (q.price r p) z (pos 0)) (inf false)) (nonzero_cost (q.price r p) x q.candidates)) (cond t (with (q.price r p) z (pos 0)) (inf false)) (nonzero_cost (q.price r p) x q.candidates)
          ≡ cond (has_zero q.candidates) (cond (lt (step q r p d (pos 0)) v) (step q r p d (pos 0)) v) v
      go true h = rw (h, zero-step h, nonzero-least)
      go false h = rw (h, inf-lt (nonzero_cost (q.price r p) x q.candidates) nonzero-cost) nonzero-least

  nonzero-holder : holder (with (q.price r p) x) (inf false) (pos 0) (nonzeros q.candidates) ≡ holder (step q r p d) (inf false) (pos 0) (nonzeros q.candidates)
  nonzero-holder = go (leb 1 r && within q (r - 1)) refl X
    where
      go : (t : Bool) → leb 1 r && within q (r - 1) ≡ t → x ≡ cond t (d (r - 1) 1) (inf false) → holder (with (q.price r p) x) (inf false) (pos 0) (nonzeros q.candidates) ≡ holder (step q r p d) (inf false) (pos 0) (nonzeros q.candidates)
      go true e f = ap (λ (y : Float). holder (with (q.price r p) y) (inf false) (pos 0) (nonzeros q.candidates)) f ∙ sym (holder-nonzeros q r p d (subst⁻¹ (λ (t : Bool). T t) e tt) (pos 0))
      go false e f =
          ap (λ (y : Float). holder (with (q.price r p) y) (inf false) (pos 0) (nonzeros q.candidates)) f
          ∙ dead-holder (q.price r p) (nonzeros q.candidates) (λ c m. G c (nonzeros-listed q.candidates c m))
          ∙ sym (barred-holder q r p d (nonzeros q.candidates) e (λ c m. nonzeros-count q.candidates c m))

  pub state-pick : state_level (q.price r p) x z q.candidates ≡ holder (step q r p d) (inf false) (pos 0) (trial q.candidates)
  unfolding state_level zero_cost
  state-pick = go (has_zero q.candidates) refl ∙ sym (holder-trial (step q r p d) q.candidates (inf false) (pos 0))
    where
      v : Float
      v = least (step q r p d) (inf false) (nonzeros q.candidates)

      h : ℤ
      h = holder (step q r p d) (inf false) (pos 0) (nonzeros q.candidates)

      go : (t : Bool) → has_zero q.candidates ≡ t
          → cond (lt (cond t (with (q.price r p) z (pos 0)) (inf false)) (nonzero_cost (q.price r p) x q.candidates)) (pos 0) (holder (with (q.price r p) x) (inf false) (pos 0) (nonzeros q.candidates))
          ≡ cond (has_zero q.candidates) (cond (lt (step q r p d (pos 0)) v) (pos 0) h) h
      go true e = rw (e, zero-step e, nonzero-least, nonzero-holder)
      go false e = rw (e, inf-lt (nonzero_cost (q.price r p) x q.candidates) nonzero-cost) nonzero-holder
