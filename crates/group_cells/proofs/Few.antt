-- At most 3,072 blocks pass the tests of a list: each covers a cell that none before it does. Assumes nothing.
use mathlib.Core.Path.{◌≡◌, refl, sym, ap, ◌∙◌}
use mathlib.Core.Bool.{Bool, true, false, not, cond, ◌||◌, true≢false}
use mathlib.Core.List.{List, [], ◌∷◌}
use Prim.Native.Nat.{ℕ, zero, suc, ◌+◌, ◌*◌, ◌/◌, ◌%◌, ◌≤◌, ◌<◌}
use native.Mathlib.Nat.{add-zero, not-suc-le-zero}
use native.Mathlib.Omega.{arith}
use borrow.Author.Tests.{eq-eqb, eqb-true, eqb-false, le-leb, lt-ltb, not-true}
use lib.Dec.{eqb}
use lib.ListN.{length}
use Rattle.group_list.specs.Checks.{in_order, sided, channelled, inside, apart}
use Rattle.group_list.specs.Heads.{Head, Placed, covers, covering, in_rectangle}
use Rattle.group_list.proofs.Channel.{Passes}
use Rattle.group_list.proofs.Order.{placed}
use Rattle.laws.proofs.Tests.{and_left, and_right}
use Rattle.prices.proofs.Each.{each_below}
use Rattle.group_cells.specs.Grid.{at}

-- ---- how many of the first n cells no block covers
abbrev free-at : Bool → ℕ
free-at t = cond t 0 1

free : (ℕ → Bool) → ℕ → ℕ
free p zero = 0
free p (suc n) = free p n + free-at (p n)

free-most : (p : ℕ → Bool) (n : ℕ) → free p n ≤ n
unfolding free
free-most p zero = omega arith
free-most p (suc n) = omega (arith, free-most p n, one (p n))
  where
    one : (t : Bool) → free-at t ≤ 1
    one true = omega arith
    one false = omega arith

module _ (p q : ℕ → Bool) (more : (k : ℕ) → q k ≡ true → p k ≡ true) where
  one_less : (a b : Bool) → (b ≡ true → a ≡ true) → free-at a ≤ free-at b
  one_less true b f = omega arith
  one_less false true f = absurd (true≢false (sym (f refl)))
  one_less false false f = omega arith

  no_more : (n : ℕ) → free p n ≤ free q n
  unfolding free
  no_more zero = omega arith
  no_more (suc n) = omega (arith, no_more n, one_less (p n) (q n) (more n))

  -- covering one cell more leaves fewer
  fewer : (k : ℕ) → p k ≡ true → q k ≡ false → (n : ℕ) → k < n → free p n + 1 ≤ free q n
  unfolding free
  fewer k e f zero l = absurd (not-suc-le-zero l)
  fewer k e f (suc n) l = go (eqb k n) refl (fewer k e f n)
    where
      go : (t : Bool) → eqb k n ≡ t → (k < n → free p n + 1 ≤ free q n) → free p n + free-at (p n) + 1 ≤ free q n + free-at (q n)
      go true d ih =
          let same = eqb-true k n d in
          let covered : p n ≡ true = ap p (sym same) ∙ e in
          let was : q n ≡ false = ap q (sym same) ∙ f in
          rw (covered, was) (omega (arith, no_more n))
      go false d ih = omega (arith, ih (omega (arith, l, eqb-false k n d)), one_less (p n) (q n) (more n))

-- the cell that stands at k
abbrev covered_at : List Head → ℕ → Bool
covered_at before k = covering before (k / 1024) (k % 32) (k / 32 % 32)

-- ---- a block covers its top left cell, which was free
abbrev Here : Head → Type 0
Here h = Placed h.channel h.x h.y h.cx h.cy

covers-own : (h : Head) → Here h → covers h h.channel h.x h.y ≡ true
unfolding covers in_rectangle
covers-own h p =
    rw (eq-eqb h.channel h.channel refl, le-leb h.x h.x (omega arith), le-leb h.y h.y (omega arith), lt-ltb h.x (h.x + h.cx) (omega (arith, p.wide)), lt-ltb h.y (h.y + h.cy) (omega (arith, p.tall)))

apart-here : (before : List Head) (h : Head) → Here h → apart before h ≡ true → covering before h.channel h.x h.y ≡ false
unfolding apart
apart-here before h p e =
    let row = each_below _ h.cy e 0 p.tall in
    let cell : not (covering before h.channel (h.x + 0) (h.y + 0)) ≡ true = each_below _ h.cx row 0 p.wide in
    rw (add-zero h.x, add-zero h.y) at (not-true (covering before h.channel (h.x + 0) (h.y + 0)) cell)

module _ (before : List Head) (h : Head) (p : Here h) where
  abbrev place : ℕ
  place = at h.channel h.x h.y

  place-below : place < 3072
  place-below = omega (arith, p.known, p.wide, p.tall, p.across, p.down)

  place_is : (hs : List Head) → covered_at hs place ≡ covering hs h.channel h.x h.y
  place_is hs =
      let c : place / 1024 ≡ h.channel = omega (arith, p.wide, p.tall, p.across, p.down) in
      let x : place % 32 ≡ h.x = omega (arith, p.wide, p.across) in
      let row : place / 32 ≡ 32 * h.channel + h.y = omega (arith, p.wide, p.across) in
      let y : (32 * h.channel + h.y) % 32 ≡ h.y = omega (arith, p.tall, p.down) in
      rw (c, x, row, y)

  covers_more : (k : ℕ) → covered_at before k ≡ true → covered_at (h ∷ before) k ≡ true
  unfolding covering
  covers_more k e = rw e (or-true (covers h (k / 1024) (k % 32) (k / 32 % 32)))
    where
      or-true : (t : Bool) → t || true ≡ true
      or-true true = refl
      or-true false = refl

  covers-place : covering (h ∷ before) h.channel h.x h.y ≡ true
  unfolding covering
  covers-place = rw (covers-own h p)

  one_fewer : apart before h ≡ true → free (covered_at (h ∷ before)) 3072 + 1 ≤ free (covered_at before) 3072
  one_fewer e =
      fewer (covered_at (h ∷ before)) (covered_at before) covers_more place (place_is (h ∷ before) ∙ covers-place) (place_is before ∙ apart-here before h p e) 3072 place-below

-- ---- so with each block there is a free cell less
few-in : (before hs : List Head) → in_order sided before hs ≡ true → in_order channelled before hs ≡ true → in_order inside before hs ≡ true → in_order apart before hs ≡ true
    → length hs ≤ free (covered_at before) 3072
unfolding in_order
few-in before [] s c i a = omega arith
few-in before (h ∷ hs) s c i a =
    let p = placed before h (and_left (sided before h) _ s) (and_left (channelled before h) _ c) (and_left (inside before h) _ i) in
    omega (
      arith,
      one_fewer before h p (and_left (apart before h) _ a),
      few-in (h ∷ before) hs (and_right (sided before h) _ s) (and_right (channelled before h) _ c) (and_right (inside before h) _ i) (and_right (apart before h) _ a),
    )

pub few-blocks : (hs : List Head) → Passes hs → length hs ≤ 3072
few-blocks hs p = omega (arith, few-in [] hs p.sides p.channels p.within p.apart, free-most (covered_at []) 3072)
