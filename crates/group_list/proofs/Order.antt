-- A test of a list, block after block: what is left of it is the whole. Assumes nothing.
use mathlib.Core.Path.{◌≡◌, refl, sym, ap, ◌∙◌}
use mathlib.Core.Bool.{Bool, true, false, ◌&&◌}
use mathlib.Core.List.{List, []}
use Prim.Native.Nat.{ℕ, zero, suc, ◌+◌, ◌-◌, ◌*◌, ◌%◌, ◌≤◌, ◌<◌}
use native.Mathlib.Nat.{sub-zero, add-zero, zero-add, mul-le-mul}
use native.Mathlib.Numerals.{add-one}
use native.Mathlib.Omega.{arith}
use borrow.Author.Tests.{leb-true, eqb-true}
use lib.Dec.{eqb, leb}
use lib.ListN.{length}
use lib.Ieee.{Float}
use Rattle.laws.proofs.Tests.{and_left, and_right}
use Rattle.group_list.specs.Heads.{Head, Placed, PlacedAt, head_at, heads_from, heads_before, heads_of, blocks_in}
use Rattle.group_list.specs.Checks.{in_order, Tested, sided, channelled, inside, whole_blocks}
use Rattle.group_list.proofs.Channel.{Passes}
use Rattle.group_list.proofs.Sides.{sides-of}

-- blocks 0 to i - 1 passed, and what is left to test is the whole
pub record Rest (p : List Head → Head → Bool) (words : List ℕ) (i : ℕ) : Type 0 where
  pub same : (reals : List Float) → in_order p (heads_before words reals i) (heads_from words reals i (blocks_in words - i)) ≡ in_order p [] (heads_of words reals)

module _ (p : List Head → Head → Bool) (words : List ℕ) where
  pub rest-start : Rest p words 0
  unfolding heads_before
  rest-start = record { same = λ reals. rw (sub-zero (blocks_in words)) }

  module _ (i : ℕ) (r : Rest p words i) where
    one_more : (reals : List Float) → i < blocks_in words
        → in_order p [] (heads_of words reals) ≡ (p (heads_before words reals i) (head_at words reals i) && in_order p (heads_before words reals (suc i)) (heads_from words reals (suc i) (blocks_in words - suc i)))
    unfolding in_order heads_from heads_before
    one_more reals h =
        let n : blocks_in words - i ≡ suc (blocks_in words - suc i) = omega arith in
        sym (r.same reals) ∙ ap (λ (k : ℕ). in_order p (heads_before words reals i) (heads_from words reals i k)) n

    pub rest_more : i < blocks_in words → ((reals : List Float) → p (heads_before words reals i) (head_at words reals i) ≡ true) → Rest p words (i + 1)
    rest_more h t = record { same = λ reals. rw (add-one i) (sym (one_more reals h ∙ ap (λ (u : Bool). u && in_order p (heads_before words reals (suc i)) (heads_from words reals (suc i) (blocks_in words - suc i))) (t reals))) }

    pub rest-fails : i < blocks_in words → ((reals : List Float) → p (heads_before words reals i) (head_at words reals i) ≡ false) → Tested p words false
    rest-fails h t reals = sym (one_more reals h ∙ ap (λ (u : Bool). u && in_order p (heads_before words reals (suc i)) (heads_from words reals (suc i) (blocks_in words - suc i))) (t reals))

    pub rest_all : blocks_in words ≤ i → Tested p words true
    unfolding in_order heads_from
    rest_all h reals =
        let n : blocks_in words - i ≡ 0 = omega arith in
        sym (ap (λ (k : ℕ). in_order p (heads_before words reals i) (heads_from words reals i k)) n) ∙ r.same reals

-- a test that passed passed for each block
from-order : (p : List Head → Head → Bool) (words : List ℕ) (reals : List Float) (j n : ℕ) → in_order p (heads_before words reals j) (heads_from words reals j n) ≡ true
    → (i : ℕ) → i < n → p (heads_before words reals (j + i)) (head_at words reals (j + i)) ≡ true
unfolding in_order heads_from heads_before
from-order p words reals j zero e i h = absurd (omega arith)
from-order p words reals j (suc n) e zero h = rw (add-zero j) (and_left (p (heads_before words reals j) (head_at words reals j)) _ e)
from-order p words reals j (suc n) e (suc i) h =
    let k : j + suc i ≡ suc j + i = omega arith in
    rw k (from-order p words reals (suc j) n (and_right (p (heads_before words reals j) (head_at words reals j)) _ e) i (omega arith))

pub passed-at : (p : List Head → Head → Bool) (words : List ℕ) (reals : List Float) → in_order p [] (heads_of words reals) ≡ true → (i : ℕ) → i < blocks_in words
    → p (heads_before words reals i) (head_at words reals i) ≡ true
unfolding heads_before
passed-at p words reals e i h = rw (sym (zero-add i)) (from-order p words reals 0 (blocks_in words) e i h)

-- where a block that passed lies
pub placed : (before : List Head) (h : Head) → sided before h ≡ true → channelled before h ≡ true → inside before h ≡ true → Placed h.channel h.x h.y h.cx h.cy
unfolding channelled inside
placed before h s c i =
    let k = sides-of before h s in
    record { known = leb-true _ _ c; wide = k.wide; tall = k.tall; across = leb-true _ _ (and_left (leb (h.x + h.cx) 32) _ i); down = leb-true _ _ (and_right (leb (h.x + h.cx) 32) _ i) }

pub placed_at : (words : List ℕ) (reals : List Float) → Passes (heads_of words reals) → (i : ℕ) → i < blocks_in words → PlacedAt words i
unfolding head_at
placed_at words reals p i h =
    placed (heads_before words reals i) (head_at words reals i) (passed-at sided words reals p.sides i h) (passed-at channelled words reals p.channels i h) (passed-at inside words reals p.within i h)

-- how many blocks a list has
heads-number : (words : List ℕ) (reals : List Float) (i n : ℕ) → length (heads_from words reals i n) ≡ n
unfolding heads_from
heads-number words reals i zero = refl
heads-number words reals i (suc n) = ap suc (heads-number words reals (suc i) n)

pub blocks-number : (words : List ℕ) (reals : List Float) → length (heads_of words reals) ≡ blocks_in words
blocks-number words reals = heads-number words reals 0 (blocks_in words)

-- the floats of block i are there
pub floats-within : (words : List ℕ) (reals : List Float) → whole_blocks words reals ≡ true → (i : ℕ) → i < blocks_in words → 7 * i + 7 ≤ length reals
unfolding whole_blocks
floats-within words reals e i h =
    omega (arith, eqb-true (length reals) (7 * blocks_in words) (and_right (eqb (length words % 8) 0) _ e))

-- how many cells a block covers
pub covers-some : {channel x y cx cy : ℕ} → Placed channel x y cx cy → 1 ≤ cx * cy
covers-some p = mul-le-mul p.wide p.tall

pub covers-most : {channel x y cx cy : ℕ} → Placed channel x y cx cy → cx * cy ≤ 1024
covers-most {channel} {x} {y} {cx} {cy} p =
    let wide : cx ≤ 32 = omega (arith, p.across) in
    let tall : cy ≤ 32 = omega (arith, p.down) in
    mul-le-mul wide tall
