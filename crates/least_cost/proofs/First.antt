-- The first least of a list: `least` is the value and `holder` the element. Either nothing is below the start, and both are the start's; or the element is below the start,
-- every element before it is dearer, and none after it is cheaper. Assumes nothing.
use mathlib.Core.Path.{◌≡◌, refl, sym, ap, ◌∙◌, subst, subst⁻¹}
use mathlib.Core.Logic.{◌⊎◌, inl, inr}
use Prim.Native.Nat.{ℕ}
use mathlib.Core.Bool.{Bool, true, false, not, cond}
use mathlib.Core.List.Memᴰ.{append_cases}
use mathlib.Core.List.Memᴰ.{append_right}
use mathlib.Core.List.Memᴰ.{cases_cons}
use mathlib.Core.List.Memᴰ.{head as here}
use mathlib.Core.List.Memᴰ.{not-nil}
use mathlib.Core.List.Memᴰ.{tail as there}
use mathlib.Core.List.{List, [], ◌∷◌, ◌++◌, Memᴰ as Mem}
use lib.Dec.{T}
use lib.IntN.{pos}
use lib.Ieee.{Float, inf, fin, lt, le}
use lib.Ieee.Scale.{finite}
use Rattle.costs.specs.Cost.{cost}
use Rattle.costs.proofs.View.{at-inf, viewed}
use Rattle.costs.proofs.Order as Order
use Rattle.least_cost.specs.Search.{least, holder}

-- ---- an example: of two that cost 1.0 the first is held
first-of-two : holder (λ (n : ℕ). fin false 1 (pos 0)) (inf false) 0 (1 ∷ 2 ∷ []) ≡ 1
unfolding holder lt
first-of-two = refl

module _ {A : Type 0} (g : A → Float) where
  -- nothing in the list is below the start v; l and h are what `least` and `holder` gave
  pub record Kept (v : Float) (d : A) (cs : List A) (l : Float) (h : A) : Type 0 where
    pub value : l ≡ v
    pub element : h ≡ d
    pub others : (c : A) → Mem c cs → T (le v (g c))

  -- h is the first of the least
  pub record Found (v : Float) (cs : List A) (l : Float) (h : A) : Type 0 where
    pub before : List A
    pub after : List A
    pub split : cs ≡ before ++ (h ∷ after)
    pub value : l ≡ g h
    pub below : T (lt (g h) v)
    pub earlier : (c : A) → Mem c before → T (lt (g h) (g c))
    pub later : (c : A) → Mem c after → T (le (g h) (g c))

  pub found-mem : (v : Float) (cs : List A) (l : Float) (h : A) → Found v cs l h → Mem h cs
  found-mem v cs l h f = subst (λ (x : List A). Mem h x) (sym f.split) (append_right f.before (here refl))

  -- ---- one element more at the front
  module _ (v : Float) (d c : A) (cs : List A) (C : T (cost v)) (G : (x : A) → Mem x (c ∷ cs) → T (cost (g x))) where
    behind : (x : A) → Mem x cs → T (cost (g x))
    behind x m = G x (there m)

    -- c takes the start's place
    taken-kept : (l : Float) (h : A) → T (lt (g c) v) → Kept (g c) c cs l h → Found v (c ∷ cs) l h
    taken-kept l h y k =
        subst (λ (x : A). Found v (c ∷ cs) l x) (sym k.element)
        (record { before = []; after = cs; split = refl; value = k.value; below = y; earlier = λ x m. absurd (not-nil m); later = k.others })

    taken-found : (l : Float) (h : A) → T (lt (g c) v) → Found (g c) cs l h → Found v (c ∷ cs) l h
    taken-found l h y f =
        let H = behind h (found-mem (g c) cs l h f) in
        let E = G c (here refl) in
        record {
          before = c ∷ f.before;
          after = f.after;
          split = ap (λ (x : List A). c ∷ x) f.split;
          value = f.value;
          below = Order.lt-le-trans (g h) (g c) v H E C f.below (Order.lt→le (g c) v y);
          earlier = λ x m. front x (cases_cons m);
          later = f.later;
        }
      where
        front : (x : A) → (x ≡ c) ⊎ Mem x f.before → T (lt (g h) (g x))
        front x (inl e) = subst⁻¹ (λ (z : A). T (lt (g h) (g z))) e f.below
        front x (inr m) = f.earlier x m

    -- the start stays
    left-kept : (l : Float) (h : A) → T (le v (g c)) → Kept v d cs l h → Kept v d (c ∷ cs) l h
    left-kept l h n k = record { value = k.value; element = k.element; others = λ x m. front x (cases_cons m) }
      where
        front : (x : A) → (x ≡ c) ⊎ Mem x cs → T (le v (g x))
        front x (inl e) = subst⁻¹ (λ (z : A). T (le v (g z))) e n
        front x (inr m) = k.others x m

    left-found : (l : Float) (h : A) → T (le v (g c)) → Found v cs l h → Found v (c ∷ cs) l h
    left-found l h n f =
        record {
          before = c ∷ f.before;
          after = f.after;
          split = ap (λ (x : List A). c ∷ x) f.split;
          value = f.value;
          below = f.below;
          earlier = λ x m. front x (cases_cons m);
          later = f.later;
        }
      where
        front : (x : A) → (x ≡ c) ⊎ Mem x f.before → T (lt (g h) (g x))
        front x (inl e) =
            subst⁻¹ (λ (z : A). T (lt (g h) (g z))) e
            (Order.lt-le-trans (g h) v (g c) (behind h (found-mem v cs l h f)) C (G c (here refl)) f.below n)
        front x (inr m) = f.earlier x m

    chosen : (b : Bool) → T (cost (cond b (g c) v))
    chosen true = G c (here refl)
    chosen false = C

    more : (b : Bool) → (T b → T (lt (g c) v)) → (T (not b) → T (le v (g c)))
        → (l : Float) (h : A) → Kept (cond b (g c) v) (cond b c d) cs l h ⊎ Found (cond b (g c) v) cs l h
        → Kept v d (c ∷ cs) l h ⊎ Found v (c ∷ cs) l h
    more true y n l h (inl k) = inr (taken-kept l h (y tt) k)
    more true y n l h (inr f) = inr (taken-found l h (y tt) f)
    more false y n l h (inl k) = inl (left-kept l h (n tt) k)
    more false y n l h (inr f) = inr (left-found l h (n tt) f)

  pub first : (v : Float) (d : A) (cs : List A) → T (cost v) → ((c : A) → Mem c cs → T (cost (g c)))
      → Kept v d cs (least g v cs) (holder g v d cs) ⊎ Found v cs (least g v cs) (holder g v d cs)
  unfolding least holder
  first v d [] C G = inl (record { value = refl; element = refl; others = λ c m. absurd (not-nil m) })
  first v d (c ∷ cs) C G =
      more v d c cs C G (lt (g c) v) (λ (y : T (lt (g c) v)). y) (Order.not-lt→le (g c) v (G c (here refl)) C)
      (least g (cond (lt (g c) v) (g c) v) cs) (holder g (cond (lt (g c) v) (g c) v) (cond (lt (g c) v) c d) cs)
      (first (cond (lt (g c) v) (g c) v) (cond (lt (g c) v) c d) cs (chosen v d c cs C G (lt (g c) v)) (behind v d c cs C G))

  -- ---- what follows of the value
  pub least-cost : (v : Float) (cs : List A) → T (cost v) → ((c : A) → Mem c cs → T (cost (g c))) → T (cost (least g v cs))
  unfolding least
  least-cost v [] C G = C
  least-cost v (c ∷ cs) C G = least-cost (cond (lt (g c) v) (g c) v) cs (chosen v c c cs C G (lt (g c) v)) (behind v c c cs C G)

  found-le : (v : Float) (cs : List A) (l : Float) (h : A) → ((c : A) → Mem c cs → T (cost (g c))) → Found v cs l h → (c : A) → Mem c cs → T (le (g h) (g c))
  found-le v cs l h G f c m = split (append_cases f.before (subst (λ (x : List A). Mem c x) f.split m))
    where
      rest : (c ≡ h) ⊎ Mem c f.after → T (le (g h) (g c))
      rest (inl e) = subst⁻¹ (λ (z : A). T (le (g h) (g z))) e (Order.le_refl (g h) (G h (found-mem v cs l h f)))
      rest (inr n) = f.later c n

      split : Mem c f.before ⊎ Mem c (h ∷ f.after) → T (le (g h) (g c))
      split (inl n) = Order.lt→le (g h) (g c) (f.earlier c n)
      split (inr n) = rest (cases_cons n)

  -- it is at most each element's
  pub least-le : (v : Float) (cs : List A) → T (cost v) → ((c : A) → Mem c cs → T (cost (g c))) → (c : A) → Mem c cs → T (le (least g v cs) (g c))
  least-le v cs C G c m = go (first v c cs C G)
    where
      go : Kept v c cs (least g v cs) (holder g v c cs) ⊎ Found v cs (least g v cs) (holder g v c cs) → T (le (least g v cs) (g c))
      go (inl k) = subst⁻¹ (λ (z : Float). T (le z (g c))) k.value (k.others c m)
      go (inr f) = subst⁻¹ (λ (z : Float). T (le z (g c))) f.value (found-le v cs (least g v cs) (holder g v c cs) G f c m)

  -- from +infinity, a finite least is some element's, the first such
  pub finite-found : (d : A) (cs : List A) → ((c : A) → Mem c cs → T (cost (g c))) → T (finite (least g (inf false) cs))
      → Found (inf false) cs (least g (inf false) cs) (holder g (inf false) d cs)
  finite-found d cs G t = go (first (inf false) d cs (viewed at-inf) G)
    where
      go : Kept (inf false) d cs (least g (inf false) cs) (holder g (inf false) d cs) ⊎ Found (inf false) cs (least g (inf false) cs) (holder g (inf false) d cs)
          → Found (inf false) cs (least g (inf false) cs) (holder g (inf false) d cs)
      go (inl k) = absurd (subst (λ (z : Float). T (finite z)) k.value t)
      go (inr f) = f

  -- ---- a list in two parts
  pub least-append : (v : Float) (xs ys : List A) → least g v (xs ++ ys) ≡ least g (least g v xs) ys
  unfolding least
  least-append v [] ys = refl
  least-append v (a ∷ xs) ys = least-append (cond (lt (g a) v) (g a) v) xs ys

  pub holder-append : (v : Float) (d : A) (xs ys : List A) → holder g v d (xs ++ ys) ≡ holder g (least g v xs) (holder g v d xs) ys
  unfolding least holder
  holder-append v d [] ys = refl
  holder-append v d (a ∷ xs) ys = holder-append (cond (lt (g a) v) (g a) v) (cond (lt (g a) v) a d) xs ys

-- ---- only the values at the list's elements count
module _ {A : Type 0} (g k : A → Float) where
  pub least-same : (v : Float) (cs : List A) → ((c : A) → Mem c cs → g c ≡ k c) → least g v cs ≡ least k v cs
  unfolding least
  least-same v [] h = refl
  least-same v (c ∷ cs) h =
      ap (λ (x : Float). least g (cond (lt x v) x v) cs) (h c (here refl)) ∙ least-same (cond (lt (k c) v) (k c) v) cs (λ x m. h x (there m))

  pub holder-same : (v : Float) (d : A) (cs : List A) → ((c : A) → Mem c cs → g c ≡ k c) → holder g v d cs ≡ holder k v d cs
  unfolding holder
  holder-same v d [] h = refl
  holder-same v d (c ∷ cs) h =
      ap (λ (x : Float). holder g (cond (lt x v) x v) (cond (lt x v) c d) cs) (h c (here refl))
      ∙ holder-same (cond (lt (k c) v) (k c) v) (cond (lt (k c) v) c d) cs (λ x m. h x (there m))
