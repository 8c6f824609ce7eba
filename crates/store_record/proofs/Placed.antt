-- Laws of numbers written over a part of a list. Assumes nothing.
use Prim.Native.Nat.{ℕ, suc, ◌+◌, ◌-◌, ◌<◌, ◌≤◌}
use mathlib.Core.Path.{◌≡◌, refl, sym, ap, ap₂, subst, ◌∙◌}
use mathlib.Core.List.{List, [], ◌∷◌, ◌++◌, append_assoc}
use native.Mathlib.Omega.{arith}
use native.Mathlib.Numerals.{add-one}
use lib.ListN.{length, get_or, take, drop, set, length-append, length-drop, take-append-drop}
use lib.Seq.{length-take-le, take-append-le, drop-append-le, take_at, drop_at, drop-append-add, get_or-drop, set_at, drop-cons, drop-drop, take-suc}
use Rattle.store_record.specs.Placed.{placed}

pub placed-none : (at : ℕ) (zs : List ℕ) → placed at [] zs ≡ zs
unfolding placed
placed-none at zs =
    let e : at + 0 ≡ at = omega arith in
    rw e (take-append-drop at zs)

module _ (at : ℕ) (ys zs : List ℕ) (fits : at + length ys ≤ length zs) where
  front : List ℕ
  front = take at zs ++ ys

  front_length : length front ≡ at + length ys
  unfolding front
  front_length = length-append (take at zs) ys ∙ ap (λ (k : ℕ). k + length ys) (length-take-le at zs (omega arith))

  -- what is in front of the rest
  in-front : placed at ys zs ≡ front ++ drop (at + length ys) zs
  unfolding placed front
  in-front = sym (append_assoc (take at zs) ys (drop (at + length ys) zs))

  pub placed-length : length (placed at ys zs) ≡ length zs
  placed-length =
      ap length in-front ∙ length-append front (drop (at + length ys) zs) ∙ ap₂ (λ (j k : ℕ). j + k) front_length (length-drop (at + length ys) zs) ∙ omega arith

  -- past what was written all is as it was
  pub placed-rest : (j : ℕ) → at + length ys ≤ j → drop j (placed at ys zs) ≡ drop j zs
  placed-rest j h =
      let e : j ≡ length front + (j - (at + length ys)) = rw front_length (omega arith) in
      let f : at + length ys + (j - (at + length ys)) ≡ j = omega arith in
      ap (drop j) in-front
      ∙ ap (λ (k : ℕ). drop k (front ++ drop (at + length ys) zs)) e
      ∙ drop-append-add front (drop (at + length ys) zs) (j - (at + length ys))
      ∙ drop-drop (j - (at + length ys)) (at + length ys) zs
      ∙ ap (λ (k : ℕ). drop k zs) f

  pub placed_past : (j : ℕ) → at + length ys ≤ j → get_or (placed at ys zs) j 0 ≡ get_or zs j 0
  placed_past j h =
      let e : j + 0 ≡ j = omega arith in
      ap (λ (k : ℕ). get_or (placed at ys zs) k 0) (sym e)
      ∙ sym (get_or-drop j (placed at ys zs) 0 0)
      ∙ ap (λ (l : List ℕ). get_or l 0 0) (placed-rest j h)
      ∙ get_or-drop j zs 0 0
      ∙ ap (λ (k : ℕ). get_or zs k 0) e

  -- more behind it
  pub placed-placed : (ws : List ℕ) → placed (at + length ys) ws (placed at ys zs) ≡ placed at (ys ++ ws) zs
  unfolding placed front
  placed-placed ws =
      let w : length (ys ++ ws) ≡ length ys + length ws = length-append ys ws in
      let e : at + length ys + length ws ≡ at + length (ys ++ ws) = omega arith in
      ap₂ (λ (a b : List ℕ). a ++ (ws ++ b))
      (ap (take (at + length ys)) in-front ∙ take_at front (drop (at + length ys) zs) (at + length ys) front_length)
      (placed-rest (at + length ys + length ws) (omega arith))
      ∙ append_assoc (take at zs) ys (ws ++ drop (at + length ys + length ws) zs)
      ∙ ap (λ (l : List ℕ). take at zs ++ l)
      (sym (append_assoc ys ws (drop (at + length ys + length ws) zs))
      ∙ ap (λ (k : ℕ). (ys ++ ws) ++ drop k zs) e)

  -- as many in its place
  pub placed-over : (ws : List ℕ) → length ws ≡ length ys → placed at ws (placed at ys zs) ≡ placed at ws zs
  unfolding placed front
  placed-over ws e =
      ap₂ (λ (a b : List ℕ). a ++ (ws ++ b))
      (take_at (take at zs) (ys ++ drop (at + length ys) zs) at (length-take-le at zs (omega arith)))
      (placed-rest (at + length ws) (omega arith))

  -- one number more
  pub placed-set : (v : ℕ) → at + length ys < length zs → set (placed at ys zs) (at + length ys) v ≡ placed at (ys ++ (v ∷ [])) zs
  unfolding placed front
  placed-set v h =
      let w : length (ys ++ (v ∷ [])) ≡ length ys + 1 = length-append ys (v ∷ []) in
      let e : suc (at + length ys) ≡ at + length (ys ++ (v ∷ [])) = omega arith in
      ap (λ (l : List ℕ). set l (at + length ys) v) (in-front ∙ ap (λ (l : List ℕ). front ++ l) (drop-cons zs (at + length ys) 0 h))
      ∙ set_at front (get_or zs (at + length ys) 0) (drop (suc (at + length ys)) zs) v (at + length ys) front_length
      ∙ append_assoc (take at zs) ys (v ∷ drop (suc (at + length ys)) zs)
      ∙ ap (λ (l : List ℕ). take at zs ++ l)
      (sym (append_assoc ys (v ∷ []) (drop (suc (at + length ys)) zs))
      ∙ ap (λ (k : ℕ). (ys ++ (v ∷ [])) ++ drop k zs) e)

  -- what was written reads back
  pub placed-back : take (length ys) (drop at (placed at ys zs)) ≡ ys
  unfolding placed
  placed-back =
      ap (take (length ys)) (drop_at (take at zs) (ys ++ drop (at + length ys) zs) at (length-take-le at zs (omega arith)))
      ∙ take_at ys (drop (at + length ys) zs) (length ys) refl

  -- in front of it all is as it was
  pub placed-before : (start size : ℕ) → start + size ≤ at → take size (drop start (placed at ys zs)) ≡ take size (drop start zs)
  unfolding placed
  placed-before start size h =
      let l : length (take at zs) ≡ at = length-take-le at zs (omega arith) in
      let d : length (drop start (take at zs)) ≡ at - start = length-drop start (take at zs) ∙ ap (λ (k : ℕ). k - start) l in
      ap (take size) (drop-append-le start (take at zs) (ys ++ drop (at + length ys) zs) (omega arith))
      ∙ take-append-le size (drop start (take at zs)) (ys ++ drop (at + length ys) zs) (omega arith)
      ∙ sym (take-append-le size (drop start (take at zs)) (drop at zs) (omega arith))
      ∙ ap (take size) (sym (drop-append-le start (take at zs) (drop at zs) (omega arith)) ∙ ap (drop start) (take-append-drop at zs))

-- one token more of a run that is copied
pub copied_more : (at start i : ℕ) (from zs : List ℕ) {to : List ℕ} → start + i < length from → at + i < length zs → to ≡ placed at (take i (drop start from)) zs
    → set to (at + i) (get_or from (start + i) 0) ≡ placed at (take (i + 1) (drop start from)) zs
copied_more at start i from zs {to} a b e =
    let d : length (drop start from) ≡ length from - start = length-drop start from in
    let l : length (take i (drop start from)) ≡ i = length-take-le i (drop start from) (omega arith) in
    let s : set (placed at (take i (drop start from)) zs) (at + i) (get_or from (start + i) 0) ≡ placed at (take i (drop start from) ++ (get_or from (start + i) 0 ∷ [])) zs =
    subst (λ (k : ℕ). set (placed at (take i (drop start from)) zs) (at + k) (get_or from (start + i) 0) ≡ placed at (take i (drop start from) ++ (get_or from (start + i) 0 ∷ [])) zs) l
    (placed-set at (take i (drop start from)) zs (omega arith) (get_or from (start + i) 0) (omega arith)) in
    let t : take (i + 1) (drop start from) ≡ take i (drop start from) ++ (get_or from (start + i) 0 ∷ []) =
    ap (λ (k : ℕ). take k (drop start from)) (add-one i) ∙ take-suc (drop start from) i 0 (omega arith)
    ∙ ap (λ (v : ℕ). take i (drop start from) ++ (v ∷ [])) (get_or-drop start from i 0) in
    rw (e, t) s

-- three numbers, one by one
pub three-placed : (at a b d : ℕ) (zs : List ℕ) → at + 2 < length zs → set (set (set zs at a) (at + 1) b) (at + 2) d ≡ placed at (a ∷ b ∷ d ∷ []) zs
three-placed at a b d zs h =
    let zero' : at + 0 ≡ at = omega arith in
    let one : set zs at a ≡ placed at (a ∷ []) zs =
    ap₂ (λ (l : List ℕ) (k : ℕ). set l k a) (sym (placed-none at zs)) (sym zero') ∙ placed-set at [] zs (omega arith) a (omega arith) in
    let two : set (placed at (a ∷ []) zs) (at + 1) b ≡ placed at (a ∷ b ∷ []) zs = placed-set at (a ∷ []) zs (omega arith) b (omega arith) in
    let three : set (placed at (a ∷ b ∷ []) zs) (at + 2) d ≡ placed at (a ∷ b ∷ d ∷ []) zs = placed-set at (a ∷ b ∷ []) zs (omega arith) d (omega arith) in
    rw (one, two, three)
