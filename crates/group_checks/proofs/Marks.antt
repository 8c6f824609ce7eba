-- Marked cells stand for the blocks that came before: what is read off them is what checks 30 and 31 say. Assumes nothing.
use mathlib.Core.Path.{◌≡◌, refl, sym, ap, ap₂, ◌∙◌}
use mathlib.Core.Bool.{Bool, true, false, not, cond, ◌&&◌, ◌||◌, and_assoc, and-true}
use mathlib.Core.List.{List, [], ◌∷◌}
use Prim.Native.Nat.{ℕ, zero, suc, ◌+◌, ◌-◌, ◌*◌, ◌≤◌, ◌<◌}
use native.Mathlib.Nat.{sub-zero}
use native.Mathlib.Numerals.{add-one}
use native.Mathlib.Omega.{arith}
use borrow.Author.Tests.{leb-true}
use lib.Dec.{eqb, leb}
use lib.ListN.{length, get_or, take, drop, replicate, length-replicate, get_or-replicate}
use Rattle.std.specs.List.{list_all}
use Rattle.std.proofs.lemmas.List.{get_or-drop, length-drop}
use Rattle.std.proofs.lemmas.List.Folds.{list_all_more}
use lib.Ieee.{Float}
use Rattle.group_cells.specs.Grid.{at, Written}
use Rattle.group_list.specs.Checks.{in_order, Tested, sided, channelled, inside, apart, neighboured}
use Rattle.group_list.specs.Heads.{Head, head_at, heads_before, heads_from, heads_of, blocks_in, covers, covering, in_rectangle}
use Rattle.group_list.proofs.Order.{passed-at}
use Rattle.group_list.proofs.Sides.{sides-of}
use Rattle.laws.proofs.Tests.{and_left, and_right}
use Rattle.prices.specs.Checks.{each}
use Rattle.prices.proofs.Each.{each_same, each_more, each-fails}
use Rattle.group_checks.specs.Marks.{Marks, free_row, free_cells, near_left, near_up, PlacesRefused}

-- ---- rows and rectangles that are free
each-of-all : (p : ℕ → Bool) (xs : List ℕ) (n : ℕ) → n ≤ length xs → list_all p (take n xs) ≡ each n (λ i. p (get_or xs i 0))
unfolding each
each-of-all p xs zero h = refl
each-of-all p xs (suc n) h = rw (← add-one n) (list_all_more p xs n 0 h) ∙ ap (λ (t : Bool). t && p (get_or xs n 0)) (each-of-all p xs n (omega arith))

pub row-free : (marks : List ℕ) (start n : ℕ) → start + n ≤ length marks → list_all (λ m. eqb m 0) (take (start + n - start) (drop start marks)) ≡ free_row marks start n
unfolding free_row
row-free marks start n h =
    let same : start + n - start ≡ n = omega arith in
    rw same (each-of-all (λ m. eqb m 0) (drop start marks) n (omega (arith, length-drop start marks)) ∙ each_same _ _ n (λ i l. rw (get_or-drop start marks i 0)))

module _ (marks : List ℕ) (channel x y cx : ℕ) where
  pub cells-free-none : free_cells marks channel x y cx 0 ≡ true
  unfolding free_cells each
  cells-free-none = refl

  pub cells-free-more : (j : ℕ) → free_cells marks channel x y cx j ≡ true → free_row marks (1024 * channel + 32 * (y + j) + x) cx ≡ true → free_cells marks channel x y cx (j + 1) ≡ true
  unfolding free_cells
  cells-free-more j e r = each_more (λ k. free_row marks (at channel x (y + k)) cx) j e r

  pub cells-taken : (cy j : ℕ) → j < cy → free_row marks (1024 * channel + 32 * (y + j) + x) cx ≡ false → free_cells marks channel x y cx cy ≡ false
  unfolding free_cells
  cells-taken cy j h r = each-fails (λ k. free_row marks (at channel x (y + k)) cx) cy j h r

-- ---- what 7, 9 and 29 leave of block i
pub record Placed (words : List ℕ) (i : ℕ) : Type 0 where
  pub channel : get_or words (8 * i + 5) 0 ≤ 2
  pub wide : 1 ≤ get_or words (8 * i + 2) 0
  pub tall : 1 ≤ get_or words (8 * i + 3) 0
  pub across : get_or words (8 * i) 0 + get_or words (8 * i + 2) 0 ≤ 32
  pub down : get_or words (8 * i + 1) 0 + get_or words (8 * i + 3) 0 ≤ 32

pub placed_at : (words : List ℕ) → Tested sided words true → Tested channelled words true → Tested inside words true → (i : ℕ) → i < blocks_in words → Placed words i
unfolding head_at channelled inside
placed_at words s c w i h =
    let sides = sides-of (heads_before words [] i) (head_at words [] i) (passed-at sided words [] (sym (s [])) i h) in
    let within = passed-at inside words [] (sym (w [])) i h in
    let a = leb (get_or words (8 * i) 0 + get_or words (8 * i + 2) 0) 32 in
    let d = leb (get_or words (8 * i + 1) 0 + get_or words (8 * i + 3) 0) 32 in
    record {
      channel = leb-true (get_or words (8 * i + 5) 0) 2 (passed-at channelled words [] (sym (c [])) i h);
      wide = sides.wide;
      tall = sides.tall;
      across = leb-true _ _ (and_left a d within);
      down = leb-true _ _ (and_right a d within);
    }

-- ---- marks
pub marks-none : (words : List ℕ) → Marks words 0 (replicate 3072 0)
unfolding heads_before covering
marks-none words = record { long = length-replicate {A = ℕ} 3072 0; cells = λ reals c x y a b d. get_or-replicate 3072 (at c x y) 0 0 (omega arith) }

pub marks-more : (words : List ℕ) (i : ℕ) (before after : List ℕ) → Marks words i before
    → Written (get_or words (8 * i + 5) 0) (get_or words (8 * i) 0) (get_or words (8 * i + 1) 0) (get_or words (8 * i + 2) 0) (get_or words (8 * i + 3) 0) 1 before after → Marks words (i + 1) after
unfolding heads_before covering covers head_at
marks-more words i before after m w =
    rw (add-one i)
    (record {
      long = w.long ∙ m.long;
      cells = λ reals c x y a b d. w.cells c x y a b d ∙ ap (cond (eqb c (get_or words (8 * i + 5) 0) && in_rectangle (get_or words (8 * i) 0) (get_or words (8 * i + 1) 0) (get_or words (8 * i + 2) 0) (get_or words (8 * i + 3) 0) x y) 1) (m.cells reals c x y a b d) ∙ sym (either (eqb c (get_or words (8 * i + 5) 0) && in_rectangle (get_or words (8 * i) 0) (get_or words (8 * i + 1) 0) (get_or words (8 * i + 2) 0) (get_or words (8 * i + 3) 0) x y) (covering (heads_before words reals i) c x y));
    })
  where
    either : (t u : Bool) → cond {A = ℕ} (t || u) 1 0 ≡ cond t 1 (cond u 1 0)
    either true u = refl
    either false u = refl

unmarked : (t : Bool) → eqb (cond t 1 0) 0 ≡ not t
unmarked true = refl
unmarked false = refl

not-not : (t : Bool) → not (not t) ≡ t
not-not true = refl
not-not false = refl

module _ (words : List ℕ) (i : ℕ) (marks : List ℕ) (m : Marks words i marks) (k : Placed words i) where
  mark-at : (reals : List Float) (x y : ℕ) → x < 32 → y < 32 → eqb (get_or marks (at (get_or words (8 * i + 5) 0) x y) 0) 0 ≡ not (covering (heads_before words reals i) (get_or words (8 * i + 5) 0) x y)
  mark-at reals x y a b = ap (λ (n : ℕ). eqb n 0) (m.cells reals (get_or words (8 * i + 5) 0) x y k.channel a b) ∙ unmarked (covering (heads_before words reals i) (get_or words (8 * i + 5) 0) x y)

  pub apart-is : (reals : List Float) → apart (heads_before words reals i) (head_at words reals i)
      ≡ free_cells marks (get_or words (8 * i + 5) 0) (get_or words (8 * i) 0) (get_or words (8 * i + 1) 0) (get_or words (8 * i + 2) 0) (get_or words (8 * i + 3) 0)
  unfolding apart head_at free_cells free_row
  apart-is reals =
      each_same _ _ (get_or words (8 * i + 3) 0)
      (λ j low. each_same _ _ (get_or words (8 * i + 2) 0)
      (λ n short.
      let x : ℕ = get_or words (8 * i) 0 in
      let y : ℕ = get_or words (8 * i + 1) 0 in
      let place : at (get_or words (8 * i + 5) 0) x (y + j) + n ≡ at (get_or words (8 * i + 5) 0) (x + n) (y + j) = omega arith in
      sym (ap (λ (p : ℕ). eqb (get_or marks p 0) 0) place ∙ mark-at reals (x + n) (y + j) (omega (arith, k.across, short)) (omega (arith, k.down, low)))))

  pub neighboured-is : (reals : List Float) → neighboured (heads_before words reals i) (head_at words reals i)
      ≡ (near_left marks (get_or words (8 * i + 5) 0) (get_or words (8 * i) 0) (get_or words (8 * i + 1) 0) && near_up marks (get_or words (8 * i + 5) 0) (get_or words (8 * i) 0) (get_or words (8 * i + 1) 0))
  unfolding neighboured head_at near_left near_up
  neighboured-is reals =
      let x : ℕ = get_or words (8 * i) 0 in
      let y : ℕ = get_or words (8 * i + 1) 0 in
      ap₂ (λ (t u : Bool). (eqb x 0 || t) && (eqb y 0 || u))
      (sym (ap not (mark-at reals (x - 1) y (omega (arith, k.across, k.wide)) (omega (arith, k.down, k.tall))) ∙ not-not (covering (heads_before words reals i) (get_or words (8 * i + 5) 0) (x - 1) y)))
      (sym (ap not (mark-at reals x (y - 1) (omega (arith, k.across, k.wide)) (omega (arith, k.down, k.tall))) ∙ not-not (covering (heads_before words reals i) (get_or words (8 * i + 5) 0) x (y - 1))))

-- ---- a test whose answer waits for the end of the list: what was found so far, and what is left, are the whole
pub record Flag (p : List Head → Head → Bool) (words : List ℕ) (i : ℕ) (t : Bool) : Type 0 where
  pub same : (reals : List Float) → (t && in_order p (heads_before words reals i) (heads_from words reals i (blocks_in words - i))) ≡ in_order p [] (heads_of words reals)

module _ (p : List Head → Head → Bool) (words : List ℕ) where
  pub flag-start : Flag p words 0 true
  unfolding heads_before
  flag-start = record { same = λ reals. rw (sub-zero (blocks_in words)) }

  pub flag-more : (i : ℕ) (t u v : Bool) → Flag p words i t → i < blocks_in words → ((reals : List Float) → p (heads_before words reals i) (head_at words reals i) ≡ u) → v ≡ (t && u) → Flag p words (i + 1) v
  unfolding in_order heads_from heads_before
  flag-more i t u v f h e k =
      let n : blocks_in words - i ≡ suc (blocks_in words - suc i) = omega arith in
      rw (add-one i, k)
      (record {
        same = λ reals.
            and_assoc t u (in_order p (head_at words reals i ∷ heads_before words reals i) (heads_from words reals (suc i) (blocks_in words - suc i)))
            ∙ ap (λ (b : Bool). t && (b && in_order p (head_at words reals i ∷ heads_before words reals i) (heads_from words reals (suc i) (blocks_in words - suc i)))) (sym (e reals))
            ∙ sym (ap (λ (m : ℕ). t && in_order p (heads_before words reals i) (heads_from words reals i m)) n) ∙ f.same reals;
      })

  pub flag-all : (i : ℕ) (t : Bool) → Flag p words i t → blocks_in words ≤ i → Tested p words t
  unfolding in_order heads_from
  flag-all i t f h reals =
      let n : blocks_in words - i ≡ 0 = omega arith in
      sym (and-true t) ∙ sym (ap (λ (m : ℕ). t && in_order p (heads_before words reals i) (heads_from words reals i m)) n) ∙ f.same reals

-- ---- the answers
pub refused-30 : (words : List ℕ) → Tested apart words false → PlacesRefused words 30
refused-30 words f reals = rw (sym (f reals))

pub refused-31 : (words : List ℕ) → Tested apart words true → Tested neighboured words false → PlacesRefused words 31
refused-31 words f g reals = rw (sym (f reals), sym (g reals))

pub refused_none : (words : List ℕ) → Tested apart words true → Tested neighboured words true → PlacesRefused words 0
refused_none words f g reals = rw (sym (f reals), sym (g reals))
