-- Sums with a last term x in common: their first least, from the least of their first terms. The least is the least first term plus x. The element is the first whose sum equals that,
-- and it is the first least of the first terms unless the runner-up's sum ties. Assumes nothing.
use mathlib.Core.Path.{◌≡◌, refl, sym, ap, ◌∙◌, subst, subst⁻¹}
use mathlib.Core.Bool.{Bool, true, false, not, cond}
use mathlib.Core.List.Memᴰ.{append_left}
use mathlib.Core.List.Memᴰ.{append_right}
use mathlib.Core.List.Memᴰ.{head as here}
use mathlib.Core.List.Memᴰ.{tail as there}
use mathlib.Core.List.{List, [], ◌∷◌, ◌++◌, Memᴰ as Mem}
use lib.Dec.{T, T_not, not_T}
use lib.Ieee.{Float, inf, binary32, add, lt, le, eq}
use lib.Ieee.Bits.{is_true, is_false}
use lib.Ieee.Fits.{add-fits}
use lib.Ieee.Scale.{finite}
use Rattle.costs.specs.Cost.{cost}
use Rattle.costs.proofs.View.{at-inf, viewed}
use Rattle.costs.proofs.Order as Order
use Rattle.costs.proofs.Sum.{add-cost, inf-add, add-mono-left, finite-terms}
use Rattle.least_cost.specs.Search.{least, holder}
use Rattle.least_cost.specs.Factored.{runner_up, first_equal}
use Rattle.least_cost.proofs.First.{Found, found-mem, finite-found, least-cost, least-le}

-- each element's sum
abbrev pub plus : {A : Type 0} → (A → Float) → Float → A → Float
plus g x c = add binary32 (g c) x

-- a tie is no change
keep : (k : Bool) (y z : Float) → (T (not k) → z ≡ y) → cond k y z ≡ y
keep true y z h = refl
keep false y z h = h tt

module _ {A : Type 0} (g : A → Float) where
  -- ---- the runner-up
  runner_up-append : (v u : Float) (xs ys : List A) → runner_up g v u (xs ++ ys) ≡ runner_up g (least g v xs) (runner_up g v u xs) ys
  unfolding runner_up least
  runner_up-append v u [] ys = refl
  runner_up-append v u (c ∷ xs) ys = runner_up-append (cond (lt (g c) v) (g c) v) (cond (lt (g c) v) v u) xs ys

  runner_up-stays : (v u : Float) (xs : List A) → ((c : A) → Mem c xs → lt (g c) v ≡ false) → runner_up g v u xs ≡ u
  unfolding runner_up
  runner_up-stays v u [] h = refl
  runner_up-stays v u (c ∷ xs) h =
      ap (λ (b : Bool). runner_up g (cond b (g c) v) (cond b v u) xs) (h c (here refl)) ∙ runner_up-stays v u xs (λ y m. h y (there m))

  -- what is below the start and each element is below the least
  lt-least : (y v : Float) (xs : List A) → T (lt y v) → ((c : A) → Mem c xs → T (lt y (g c))) → T (lt y (least g v xs))
  unfolding least
  lt-least y v [] h k = h
  lt-least y v (c ∷ xs) h k = lt-least y (cond (lt (g c) v) (g c) v) xs (either (lt (g c) v)) (λ z m. k z (there m))
    where
      either : (b : Bool) → T (lt y (cond b (g c) v))
      either true = k c (here refl)
      either false = h

  -- it is the least of those before the first least
  found-runner : (v u : Float) (cs : List A) (l : Float) (h : A) → ((c : A) → Mem c cs → T (cost (g c))) → (f : Found g v cs l h) → runner_up g v u cs ≡ least g v f.before
  unfolding runner_up
  found-runner v u cs l h G f =
      let m = least g v f.before in
      let w = runner_up g v u f.before in
      ap (runner_up g v u) f.split
      ∙ runner_up-append v u f.before (h ∷ f.after)
      ∙ ap (λ (b : Bool). runner_up g (cond b (g h) m) (cond b m w) f.after) (is_true (lt (g h) m) (lt-least (g h) v f.before f.below f.earlier))
      ∙ runner_up-stays (g h) m f.after (λ c n. Order.le→not-lt (g c) (g h) (G c (behind c n)) (G h (found-mem g v cs l h f)) (f.later c n))
    where
      behind : (c : A) → Mem c f.after → Mem c cs
      behind c n = subst⁻¹ (λ (z : List A). Mem c z) f.split (append_right f.before (there n))

  -- ---- the first element of a value
  first_equal-append : (y : Float) (d : A) (xs ys : List A) → first_equal g y d (xs ++ ys) ≡ first_equal g y (first_equal g y d ys) xs
  unfolding first_equal
  first_equal-append y d [] ys = refl
  first_equal-append y d (c ∷ xs) ys = ap (cond (eq (g c) y) c) (first_equal-append y d xs ys)

  first_equal-none : (y : Float) (d : A) (xs : List A) → ((c : A) → Mem c xs → eq (g c) y ≡ false) → first_equal g y d xs ≡ d
  unfolding first_equal
  first_equal-none y d [] h = refl
  first_equal-none y d (c ∷ xs) h = ap (λ (b : Bool). cond b c (first_equal g y d xs)) (h c (here refl)) ∙ first_equal-none y d xs (λ z m. h z (there m))

  -- what is dearer is not equal
  dearer : (y z : Float) → T (cost y) → T (cost z) → T (lt y z) → eq z y ≡ false
  dearer y z a b h = is_false (eq z y) (not_T (eq z y) (λ (e : T (eq z y)). Order.lt→not-le y z a b h (Order.eq→le z y b a e).0))

  equal-head : (y : Float) (d h : A) (xs : List A) → T (eq (g h) y) → first_equal g y d (h ∷ xs) ≡ h
  unfolding first_equal
  equal-head y d h xs e = ap (λ (b : Bool). cond b h (first_equal g y d xs)) (is_true (eq (g h) y) e)

  -- the first least is the first element of the least value
  pub found-equal : (v : Float) (d : A) (cs : List A) (l : Float) (h : A) → ((c : A) → Mem c cs → T (cost (g c))) → Found g v cs l h → first_equal g l d cs ≡ h
  found-equal v d cs l h G f =
      let H = G h (found-mem g v cs l h f) in
      ap (λ (y : Float). first_equal g y d cs) f.value
      ∙ ap (first_equal g (g h) d) f.split
      ∙ first_equal-append (g h) d f.before (h ∷ f.after)
      ∙ ap (λ (z : A). first_equal g (g h) z f.before) (equal-head (g h) d h f.after (Order.le→eq (g h) (g h) H H (Order.le_refl (g h) H) (Order.le_refl (g h) H)))
      ∙ first_equal-none (g h) h f.before (λ c m. dearer (g h) (g c) H (G c (ahead c m)) (f.earlier c m))
    where
      ahead : (c : A) → Mem c f.before → Mem c cs
      ahead c m = subst⁻¹ (λ (z : List A). Mem c z) f.split (append_left (h ∷ f.after) m)

-- ---- the sums
module _ {A : Type 0} (g : A → Float) (x : Float) (X : T (cost x)) where
  -- a first term that takes the best one's place: its sum takes the best sum's, or ties with it and is the same
  changed : (v : Float) (c : A) → T (cost v) → T (cost (g c)) → cond (lt (plus g x c) (add binary32 v x)) (plus g x c) (add binary32 v x) ≡ add binary32 (cond (lt (g c) v) (g c) v) x
  changed v c C G = go (lt (g c) v) (Order.lt→le (g c) v) (Order.not-lt→le (g c) v G C)
    where
      y : Float
      y = plus g x c

      w : Float
      w = add binary32 v x

      Y : T (cost y)
      Y = add-cost binary32 (g c) x G X

      W : T (cost w)
      W = add-cost binary32 v x C X

      go : (b : Bool) → (T b → T (le (g c) v)) → (T (not b) → T (le v (g c))) → cond (lt y w) y w ≡ add binary32 (cond b (g c) v) x
      go true h k =
          keep (lt y w) y w
          (λ (n : T (not (lt y w))).
          Order.le_antisymm binary32 w y W Y (add-fits binary32 v x) (add-fits binary32 (g c) x) (Order.not-lt→le y w Y W n) (add-mono-left binary32 (g c) v x G C X (h tt)))
      go false h k = ap (λ (b : Bool). cond b y w) (Order.le→not-lt y w Y W (add-mono-left binary32 v (g c) x C G X (k tt)))

  least-plus : (v : Float) (cs : List A) → T (cost v) → ((c : A) → Mem c cs → T (cost (g c))) → least (plus g x) (add binary32 v x) cs ≡ add binary32 (least g v cs) x
  unfolding least
  least-plus v [] C G = refl
  least-plus v (c ∷ cs) C G =
      ap (λ (z : Float). least (plus g x) z cs) (changed v c C (G c (here refl)))
      ∙ least-plus (cond (lt (g c) v) (g c) v) cs (either (lt (g c) v)) (λ z m. G z (there m))
    where
      either : (b : Bool) → T (cost (cond b (g c) v))
      either true = G c (here refl)
      either false = C

  module _ (cs : List A) (G : (c : A) → Mem c cs → T (cost (g c))) where
    -- the least sum is the sum of the least first term
    pub least-sum : least (plus g x) (inf false) cs ≡ add binary32 (least g (inf false) cs) x
    least-sum = ap (λ (z : Float). least (plus g x) z cs) (sym (inf-add binary32 x X)) ∙ least-plus (inf false) cs (viewed at-inf) G

    sums-cost : (c : A) → Mem c cs → T (cost (plus g x c))
    sums-cost c m = add-cost binary32 (g c) x (G c m) X

    -- the least sum is finite
    module _ (d : A) (t : T (finite (add binary32 (least g (inf false) cs) x))) where
      low-cost : T (cost (least g (inf false) cs))
      low-cost = least-cost g (inf false) cs (viewed at-inf) G

      firsts : Found g (inf false) cs (least g (inf false) cs) (holder g (inf false) d cs)
      firsts = finite-found g d cs G (finite-terms binary32 (least g (inf false) cs) x low-cost X t).0

      -- the element is the first whose sum equals it, whatever stands for none
      pub holder-equal : (e : A) → holder (plus g x) (inf false) d cs ≡ first_equal (plus g x) (add binary32 (least g (inf false) cs) x) e cs
      holder-equal e =
          sym
          (found-equal (plus g x) (inf false) e cs (least (plus g x) (inf false) cs) (holder (plus g x) (inf false) d cs) sums-cost
          (finite-found (plus g x) d cs sums-cost (subst⁻¹ (λ (z : Float). T (finite z)) least-sum t)))
          ∙ ap (λ (z : Float). first_equal (plus g x) z e cs) least-sum

      -- where the runner-up's sum does not tie, it is the first least of the first terms
      pub holder-untied : (u : Float) → T (not (eq (add binary32 (runner_up g (inf false) u cs) x) (add binary32 (least g (inf false) cs) x))) → holder (plus g x) (inf false) d cs ≡ holder g (inf false) d cs
      holder-untied u n =
          holder-equal d
          ∙ ap (first_equal (plus g x) y d) firsts.split
          ∙ first_equal-append (plus g x) y d firsts.before (h ∷ firsts.after)
          ∙ ap (λ (z : A). first_equal (plus g x) y z firsts.before) (equal-head (plus g x) y d h firsts.after tie)
          ∙ first_equal-none (plus g x) y h firsts.before (λ c m. is_false (eq (plus g x c) y) (not_T (eq (plus g x c) y) (apart c m)))
        where
          h : A
          h = holder g (inf false) d cs

          y : Float
          y = add binary32 (least g (inf false) cs) x

          Y : T (cost y)
          Y = add-cost binary32 (least g (inf false) cs) x low-cost X

          r : Float
          r = least g (inf false) firsts.before

          ahead : (c : A) → Mem c firsts.before → T (cost (g c))
          ahead c m = G c (subst⁻¹ (λ (z : List A). Mem c z) firsts.split (append_left (h ∷ firsts.after) m))

          R : T (cost r)
          R = least-cost g (inf false) firsts.before (viewed at-inf) ahead

          Z : T (cost (add binary32 r x))
          Z = add-cost binary32 r x R X

          tie : T (eq (plus g x h) y)
          tie = subst (λ (z : Float). T (eq z y)) (ap (λ (z : Float). add binary32 z x) firsts.value) (Order.le→eq y y Y Y (Order.le_refl y Y) (Order.le_refl y Y))

          under : T (le y (add binary32 r x))
          under =
              add-mono-left binary32 (least g (inf false) cs) r x low-cost R X
              (subst⁻¹ (λ (z : Float). T (le z r)) firsts.value (Order.lt→le (g h) r (lt-least g (g h) (inf false) firsts.before firsts.below firsts.earlier)))

          -- a tie before it would make the runner-up tie
          apart : (c : A) → Mem c firsts.before → T (eq (plus g x c) y) → ⊥
          apart c m e =
              let S = add-cost binary32 (g c) x (ahead c m) X in
              let over = add-mono-left binary32 r (g c) x R (ahead c m) X (least-le g (inf false) firsts.before (viewed at-inf) ahead c m) in
              T_not (eq (add binary32 r x) y) (subst (λ (z : Float). T (not (eq (add binary32 z x) y))) (found-runner g (inf false) u cs (least g (inf false) cs) h G firsts) n)
              (Order.le→eq (add binary32 r x) y Z Y (Order.le_trans (add binary32 r x) (plus g x c) y Z S Y over (Order.eq→le (plus g x c) y S Y e).0) under)
