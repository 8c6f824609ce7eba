-- The level of one state: from the first least of the local costs to the first least with what follows. Assumes nothing.
use mathlib.Core.Path.{◌≡◌, refl, sym, ap, ◌∙◌, subst, subst⁻¹}
use mathlib.Core.Bool.{Bool, true, false, cond, not, ◌||◌, true≢false}
use mathlib.Core.List.Memᴰ.{head as here}
use mathlib.Core.List.Memᴰ.{tail as there}
use mathlib.Core.List.{List, [], ◌∷◌, Memᴰ as Mem}
use Prim.Native.Nat.{ℕ, ◌<◌}
use native.Mathlib.Omega.{arith}
use lib.IntN.{ℤ, pos}
use lib.Dec.{T, eqb, ltb}
use lib.ListN.{length, get_or, get_or-eq_default}
use lib.Ieee.{Float, inf, lt, le, eq, add, binary32}
use lib.Ieee.Scale.{finite}
use borrow.Author.Tests.{eqb-true, ltb-true, ltb-false}
use Rattle.costs.specs.Cost.{cost}
use Rattle.costs.proofs.Order.{inf-lt, inf-le, lt-inf, lt→le, le_refl, infinite}
use Rattle.costs.proofs.Sum.{add-inf, add-cost, add-mono-left}
use Rattle.least_cost.specs.Position.{nz}
use Rattle.least_cost.specs.Search.{least, holder, nonzeros, has_zero}
use Rattle.least_cost.specs.Factored.{runner_up, first_equal}
use Rattle.least_cost.proofs.First.{finite-found, found-mem, least-cost}
use Rattle.least_cost.proofs.Trial.{nonzeros-count, nonzeros-listed}
use Rattle.least_cost.proofs.Factored.{least-sum, holder-equal, holder-untied}
use Rattle.trellis_choice.specs.Locals.{FirstLeast}
use Rattle.trellis_choice.specs.Chosen.{with, nonzero_cost, zero_cost, state_cost, state_level, Known, ZeroAt, Settled}
use Rattle.trellis_choice.proofs.Noting.{zero_is}
use Rattle.trellis_choice.specs.declared.locals.Least.{Least}

module _ (g : ℤ → Float) (levels : List ℤ) (G : (c : ℤ) → Mem c levels → T (cost (g c))) where
  among : (c : ℤ) → Mem c (nonzeros levels) → T (cost (g c))
  among c m = G c (nonzeros-listed levels c m)

  module _ (x : Float) (X : T (cost x)) (l : Least) (w : FirstLeast g levels l) where
    -- the least with what follows
    pub nonzero-cost : add binary32 l.cost x ≡ nonzero_cost g x levels
    unfolding nonzero_cost
    nonzero-cost = ap (λ (y : Float). add binary32 y x) w.cost ∙ sym (least-sum g x X (nonzeros levels) among)

    module _ (y : Float) (e : y ≡ add binary32 l.cost x) (t : T (finite y)) where
      sum-finite : T (finite (add binary32 (least g (inf false) (nonzeros levels)) x))
      sum-finite = subst (λ (z : Float). T (finite z)) (e ∙ ap (λ (z : Float). add binary32 z x) w.cost) t

      -- the first whose sum is the least one
      pub tied-choice : (d : ℤ) → first_equal (with g x) y d (nonzeros levels) ≡ holder (with g x) (inf false) (pos 0) (nonzeros levels)
      tied-choice d =
          ap (λ (z : Float). first_equal (with g x) z d (nonzeros levels)) (e ∙ ap (λ (z : Float). add binary32 z x) w.cost)
          ∙ sym (holder-equal g x X (nonzeros levels) among (pos 0) sum-finite d)

      -- where the runner-up does not tie, the first least of the local costs
      pub untied-choice : eq (add binary32 l.before x) y ≡ false → get_or levels l.choice (pos 0) ≡ holder (with g x) (inf false) (pos 0) (nonzeros levels)
      untied-choice n =
          w.choice
          ∙ sym (holder-untied g x X (nonzeros levels) among (pos 0) sum-finite (inf false) (not-tied (rw w.before at n)))
        where
          not-tied : eq (add binary32 (runner_up g (inf false) (inf false) (nonzeros levels)) x) y ≡ false → T (not (eq (add binary32 (runner_up g (inf false) (inf false) (nonzeros levels)) x) (add binary32 (least g (inf false) (nonzeros levels)) x)))
          not-tied f = subst⁻¹ (λ (b : Bool). T (not b)) (rw (e ∙ ap (λ (z : Float). add binary32 z x) w.cost) at f) tt

-- what the least took the place of is no less
runner-up : (g : ℤ → Float) (v u : Float) (cs : List ℤ) → T (cost v) → T (cost u) → ((c : ℤ) → Mem c cs → T (cost (g c))) → T (le v u)
    → T (le (least g v cs) (runner_up g v u cs)) × T (cost (runner_up g v u cs))
unfolding least runner_up
runner-up g v u [] C D G h = (h, D)
runner-up g v u (c ∷ cs) C D G h =
    go (lt (g c) v) (lt→le (g c) v) (runner-up g (g c) v cs (G c (here refl)) C (λ q m. G q (there m))) (runner-up g v u cs C D (λ q m. G q (there m)))
  where
    go : (b : Bool) → (T b → T (le (g c) v))
        → (T (le (g c) v) → T (le (least g (g c) cs) (runner_up g (g c) v cs)) × T (cost (runner_up g (g c) v cs)))
        → (T (le v u) → T (le (least g v cs) (runner_up g v u cs)) × T (cost (runner_up g v u cs)))
        → T (le (least g (cond b (g c) v) cs) (runner_up g (cond b (g c) v) (cond b v u) cs)) × T (cost (runner_up g (cond b (g c) v) (cond b v u) cs))
    go true k taken left = taken (k tt)
    go false k taken left = left h

module _ (g : ℤ → Float) (levels : List ℤ) (G : (c : ℤ) → Mem c levels → T (cost (g c))) (x : Float) (X : T (cost x)) (l : Least) (w : FirstLeast g levels l) where
  least-sound : T (cost l.cost)
  unfolding cost
  least-sound = rw w.cost (least-cost g (inf false) (nonzeros levels) tt (λ c m. G c (nonzeros-listed levels c m)))

  pub sum-sound : T (cost (add binary32 l.cost x))
  sum-sound = add-cost binary32 l.cost x least-sound X

  -- so an infinite least sum ties with it
  pub infinite-ties : T (not (finite (add binary32 l.cost x))) → eq (add binary32 l.before x) (add binary32 l.cost x) ≡ true
  unfolding cost eq
  infinite-ties f =
      let above = runner-up g (inf false) (inf false) (nonzeros levels) tt tt (λ c m. G c (nonzeros-listed levels c m)) (le_refl (inf false) tt) in
      let B : T (cost l.before) = rw w.before above.1 in
      let sum = infinite (add binary32 l.cost x) sum-sound f in
      let no_less : T (le l.cost l.before) = rw (w.cost, w.before) above.0 in
      let dear = rw sum at (add-mono-left binary32 l.cost l.before x least-sound B X no_less) in
      rw (sum, inf-le (add binary32 l.before x) (add-cost binary32 l.before x B X) dear)

-- the test of a sum against +infinity
pub not_finite : (y : Float) → T (cost y) → lt y (inf false) ≡ false → T (finite y) → ⊥
not_finite y C e f = subst T (sym (lt-inf y C) ∙ e) f

pub not_infinite : (y : Float) → T (cost y) → lt y (inf false) ≡ true → T (not (finite y)) → ⊥
not_infinite y C e f = subst (λ (b : Bool). T (not b)) (sym (lt-inf y C) ∙ e) f

-- a level that is not 0 stands within the list
pub stands-below : (levels : List ℤ) (i : ℕ) → nz (get_or levels i (pos 0)) ≡ 1 → i < length levels
unfolding nz
stands-below levels i o = go (ltb i (length levels)) refl
  where
    go : (b : Bool) → ltb i (length levels) ≡ b → i < length levels
    go true t = ltb-true i (length levels) t
    go false t =
        let zero : nz (get_or levels i (pos 0)) ≡ 0 = ap nz (get_or-eq_default levels (pos 0) {n = i} (ltb-false i (length levels) t)) in
        absurd (omega arith)

pub zero-listed : (levels : List ℤ) → has_zero levels ≡ true → Mem (pos 0) levels
unfolding has_zero
zero-listed [] e = absurd (true≢false (sym e))
zero-listed (q ∷ qs) e = go (eqb (nz q) 0) refl (λ h. zero-listed qs h) e
  where
    go : (b : Bool) → eqb (nz q) 0 ≡ b → (has_zero qs ≡ true → Mem (pos 0) qs) → b || has_zero qs ≡ true → Mem (pos 0) (q ∷ qs)
    go true t later f = here (sym (zero_is q (eqb-true (nz q) 0 t)))
    go false t later f = there (later f)

-- where 0 is not listed it costs +infinity
no_zero : (g : ℤ → Float) (z : Float) (levels : List ℤ) → has_zero levels ≡ false → zero_cost g z levels ≡ inf false
unfolding zero_cost
no_zero g z levels h = rw h

module _ {g : ℤ → Float} {levels : List ℤ} {local : List Float} {l : Least} {zero : Float} (k : Known g levels local l zero) (x z : Float) (X : T (cost x)) (Z : T (cost z)) (N : has_zero levels ≡ false → z ≡ inf false) where
  -- what 0 costs, as the code has it
  zero-sum : cond (lt z (inf false)) (add binary32 zero z) (inf false) ≡ zero_cost g z levels
  unfolding zero_cost cost
  zero-sum = go (has_zero levels) refl (lt z (inf false)) refl
    where
      go : (b : Bool) → has_zero levels ≡ b → (f : Bool) → lt z (inf false) ≡ f → cond f (add binary32 zero z) (inf false) ≡ cond b (with g z (pos 0)) (inf false)
      go true h true f = ap (λ (y : Float). add binary32 y z) (k.none h)
      go true h false f =
          sym
          (ap (λ (y : Float). add binary32 (g (pos 0)) y) (infinite z Z (subst⁻¹ (λ (b : Bool). T (not b)) (sym (lt-inf z Z) ∙ f) tt))
          ∙ add-inf binary32 (g (pos 0)) (k.costs (pos 0) (zero-listed levels h)))
      go false h true f = absurd (true≢false (sym f ∙ ap (λ (y : Float). lt y (inf false)) (N h) ∙ inf-lt (inf false) tt))
      go false h false f = refl

  sum : add binary32 l.cost x ≡ nonzero_cost g x levels
  sum = nonzero-cost g levels k.costs x X l k.first

  sums : (c : ℤ) → Mem c (nonzeros levels) → T (cost (with g x c))
  sums c m = add-cost binary32 (g c) x (k.costs c (nonzeros-listed levels c m)) X

  sum-cost : T (cost (nonzero_cost g x levels))
  unfolding nonzero_cost cost
  sum-cost = least-cost (with g x) (inf false) (nonzeros levels) tt sums

  zero-cost : T (cost (zero_cost g z levels))
  unfolding zero_cost cost
  zero-cost = go (has_zero levels) refl
    where
      go : (b : Bool) → has_zero levels ≡ b → T (cost (cond b (with g z (pos 0)) (inf false)))
      go true h = add-cost binary32 (g (pos 0)) z (k.costs (pos 0) (zero-listed levels h)) Z
      go false h = tt

  -- 0 is cheaper
  pub settled-zero : (u : Float) (i : ℕ) → u ≡ cond (lt z (inf false)) (add binary32 zero z) (inf false) → lt u (add binary32 l.cost x) ≡ true → ZeroAt levels i → Settled g x z levels (record { cost = u; choice = i })
  unfolding state_cost state_level
  settled-zero u i e t at =
      let same = e ∙ zero-sum in
      let less : lt (zero_cost g z levels) (nonzero_cost g x levels) ≡ true = rw (same, sum) at t in
      let has = listed (has_zero levels) refl less in
      record {
        cost = rw less same;
        level = λ _. rw less (at.zero has);
        below = λ _. at.below has;
        none = λ f.
            absurd (true≢false (sym less ∙ ap (λ (y : Float). lt y (nonzero_cost g x levels)) (infinite (zero_cost g z levels) zero-cost (rw same at f)) ∙ inf-lt (nonzero_cost g x levels) sum-cost));
      }
    where
      listed : (b : Bool) → has_zero levels ≡ b → lt (zero_cost g z levels) (nonzero_cost g x levels) ≡ true → has_zero levels ≡ true
      listed true h less = h
      listed false h less = absurd (true≢false (sym less ∙ ap (λ (y : Float). lt y (nonzero_cost g x levels)) (no_zero g z levels h) ∙ inf-lt (nonzero_cost g x levels) sum-cost))

  one : T (finite (nonzero_cost g x levels)) → nz (holder (with g x) (inf false) (pos 0) (nonzeros levels)) ≡ 1
  unfolding nonzero_cost
  one f = nonzeros-count levels _ (found-mem (with g x) (inf false) (nonzeros levels) _ _ (finite-found (with g x) (pos 0) (nonzeros levels) sums f))

  -- 0 is not cheaper
  pub settled-nonzero : (u : Float) (i : ℕ) → u ≡ cond (lt z (inf false)) (add binary32 zero z) (inf false) → lt u (add binary32 l.cost x) ≡ false → (T (not (finite (add binary32 l.cost x))) → i ≡ 255)
      → (T (finite (add binary32 l.cost x)) → get_or levels i (pos 0) ≡ holder (with g x) (inf false) (pos 0) (nonzeros levels)) → Settled g x z levels (record { cost = add binary32 l.cost x; choice = i })
  unfolding state_cost state_level
  settled-nonzero u i e t none choice =
      let less : lt (zero_cost g z levels) (nonzero_cost g x levels) ≡ false = rw (e ∙ zero-sum, sum) at t in
      record {
        cost = rw less sum;
        level = λ f. rw less (choice f);
        below = λ f. stands-below levels i (rw (choice f) (one (rw sum at f)));
        none = none;
      }
