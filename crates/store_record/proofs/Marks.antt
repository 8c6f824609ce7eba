-- Check 37 made in one pass. Assumes nothing.
use Prim.Native.Nat.{ℕ, zero, suc, ◌+◌, ◌-◌, ◌*◌, ◌<◌, ◌≤◌}
use mathlib.Core.Path.{◌≡◌, refl, sym, ap, ◌∙◌}
use mathlib.Core.Bool.{Bool, true, false, ◌&&◌, and-false, true≢false}
use mathlib.Core.List.{List, [], ◌∷◌}
use native.Mathlib.Omega.{arith}
use borrow.Author.Tests.{ltb-true, eqb-true, eq-eqb, ne_eqb, leb-true, le-leb, lt-ltb}
use lib.Dec.{eqb, leb, ltb}
use lib.ListN.{length, get_or, set, length-set, replicate, length-replicate}
use lib.Seq.{get_or-set_same, get_or-set_other}
use Rattle.laws.proofs.Tests.{and_left, and_right}
use Rattle.store_record.specs.Runs.{run_at, runs_from, in_order, holds, numbered, valid_runs}
use Rattle.store_record.specs.declared.Run.{Run}
use Rattle.store_record.specs.Marks.{fits, passes}
use Rattle.store_record.proofs.Runs.{runs-next, runs_none}
use Rattle.store_record.proofs.Order.{and_both, same_test, either, order-head, number-head}

-- ---- a turn of the pass, where what is left decides what the whole does

module _ (r marks : List ℕ) (end size i n : ℕ) {w : Bool} (left : passes end size marks (runs_from r i (n - i)) ≡ w) where
  next : i < n → passes end size marks (run_at r i ∷ runs_from r (i + 1) (n - (i + 1))) ≡ w
  next h = rw (runs-next r i n h) at left

  pub misfit : i < n → fits end size (run_at r i) ≡ false → false ≡ w
  unfolding passes
  misfit h e = rw e at (next h)

  pub met : i < n → (get_or marks (get_or r (3 * i + 1) 0) 0 ≡ 0 → ⊥) → false ≡ w
  unfolding passes
  met h d = sym (and-false (fits end size (run_at r i))) ∙ rw (ne_eqb (get_or marks (get_or r (3 * i + 1) 0) 0) 0 d) at (next h)

  pub fresh : i < n → fits end size (run_at r i) ≡ true → get_or marks (get_or r (3 * i + 1) 0) 0 ≡ 0
      → passes (get_or r (3 * i + 2) 0 + get_or r (3 * i + 3) 0) size (set marks (get_or r (3 * i + 1) 0) 1) (runs_from r (i + 1) (n - (i + 1))) ≡ w
  unfolding passes
  fresh h e z = rw (e, eq-eqb (get_or marks (get_or r (3 * i + 1) 0) 0) 0 z) at (next h)

  pub through : n ≤ i → true ≡ w
  unfolding passes
  through h = rw (runs_none r i n h) at left

-- a run that fits, taken apart
module _ (end size : ℕ) (x : Run) (e : fits end size x ≡ true) where
  pub fits-number : x.number < 1024
  unfolding fits
  fits-number = ltb-true _ _ (and_left (ltb x.number 1024) (leb end x.start) (and_left (ltb x.number 1024 && leb end x.start) (leb (x.start + x.size) size) e))

  pub fits-start : end ≤ x.start
  unfolding fits
  fits-start = leb-true _ _ (and_right (ltb x.number 1024) (leb end x.start) (and_left (ltb x.number 1024 && leb end x.start) (leb (x.start + x.size) size) e))

  pub fits-end : x.start + x.size ≤ size
  unfolding fits
  fits-end = leb-true _ _ (and_right (ltb x.number 1024 && leb end x.start) (leb (x.start + x.size) size) e)

-- ---- what the pass shows

-- no number of the runs is marked
unmarked : List ℕ → List Run → Bool
unmarked marks [] = true
unmarked marks (x ∷ xs) = eqb (get_or marks x.number 0) 0 && unmarked marks xs

module _ (marks : List ℕ) (k : ℕ) (low : k < length marks) where
  -- a mark more: what is unmarked then was so before, and none has that number
  marked-before : (xs : List Run) → unmarked (set marks k 1) xs ≡ true → (unmarked marks xs ≡ true) × (holds k xs ≡ false)
  unfolding unmarked holds
  marked-before [] e = (refl, refl)
  marked-before (x ∷ xs) e =
      let here = eqb-true (get_or (set marks k 1) x.number 0) 0 (and_left (eqb (get_or (set marks k 1) x.number 0) 0) (unmarked (set marks k 1) xs) e) in
      let rest = marked-before xs (and_right (eqb (get_or (set marks k 1) x.number 0) 0) (unmarked (set marks k 1) xs) e) in
      either k x.number
      (λ q. absurd (one-zero (sym (get_or-set_same marks k 1 0 low) ∙ rw (← q) at here)))
      (λ d. (
        rw (eq-eqb (get_or marks x.number 0) 0 (sym (get_or-set_other marks k x.number 1 0 (λ q. d (sym q))) ∙ here)) rest.0,
        rw (ne_eqb k x.number d) rest.1,
      ))
    where
      one-zero : ◌≡◌ {A = ℕ} 1 0 → ⊥
      one-zero q = omega arith

  marked-after : (xs : List Run) → unmarked marks xs ≡ true → holds k xs ≡ false → unmarked (set marks k 1) xs ≡ true
  unfolding unmarked holds
  marked-after [] e n = refl
  marked-after (x ∷ xs) e n =
      let here = eqb-true (get_or marks x.number 0) 0 (and_left (eqb (get_or marks x.number 0) 0) (unmarked marks xs) e) in
      let d : k ≡ x.number → ⊥ = λ q. true≢false (sym (rw (eq-eqb k x.number q)) ∙ n) in
      let later : holds k xs ≡ false = rw (ne_eqb k x.number d) at n in
      rw (eq-eqb (get_or (set marks k 1) x.number 0) 0 (get_or-set_other marks k x.number 1 0 (λ q. d (sym q)) ∙ here))
      (marked-after xs (and_right (eqb (get_or marks x.number 0) 0) (unmarked marks xs) e) later)

passed : (end size : ℕ) (marks : List ℕ) (xs : List Run) → length marks ≡ 1024 → passes end size marks xs ≡ true
    → (in_order end size xs ≡ true) × ((numbered 1024 xs ≡ true) × (unmarked marks xs ≡ true))
unfolding passes in_order numbered unmarked
passed end size marks [] l e = (refl, (refl, refl))
passed end size marks (x ∷ xs) l e =
    let after = passes (x.start + x.size) size (set marks x.number 1) xs in
    let new = eqb (get_or marks x.number 0) 0 in
    let fit = and_left (fits end size x) (new && after) e in
    let two = and_right (fits end size x) (new && after) e in
    let low = fits-number end size x fit in
    let rest = passed (x.start + x.size) size (set marks x.number 1) xs (length-set marks x.number 1 ∙ l) (and_right new after two) in
    let mark = marked-before marks x.number (omega arith) xs rest.1.1 in (
      rw (le-leb end x.start (fits-start end size x fit), le-leb (x.start + x.size) size (fits-end end size x fit)) rest.0,
      (
        rw (lt-ltb x.number 1024 low, mark.1) rest.1.0,
        rw (and_left new after two) mark.0,
      ),
    )

passing : (end size : ℕ) (marks : List ℕ) (xs : List Run) → length marks ≡ 1024 → in_order end size xs ≡ true → numbered 1024 xs ≡ true → unmarked marks xs ≡ true
    → passes end size marks xs ≡ true
unfolding passes fits unmarked
passing end size marks [] l o n u = refl
passing end size marks (x ∷ xs) l o n u =
    let order = order-head end size x xs o in
    let number = number-head 1024 x xs n in
    let new = and_left (eqb (get_or marks x.number 0) 0) (unmarked marks xs) u in
    let low = number.0 in
    let rest =
    passing (x.start + x.size) size (set marks x.number 1) xs (length-set marks x.number 1 ∙ l) order.1.1 number.1.1
    (marked-after marks x.number (omega arith) xs (and_right (eqb (get_or marks x.number 0) 0) (unmarked marks xs) u) number.1.0) in
    rw (lt-ltb x.number 1024 low, le-leb end x.start order.0, le-leb (x.start + x.size) size order.1.0, new) rest

none-marked : (n : ℕ) (xs : List Run) → unmarked (replicate n 0) xs ≡ true
unfolding unmarked
none-marked n [] = refl
none-marked n (x ∷ xs) = rw (eq-eqb (get_or (replicate n 0) x.number 0) 0 (cleared n x.number)) (none-marked n xs)
  where
    cleared : (n i : ℕ) → ◌≡◌ {A = ℕ} (get_or (replicate n 0) i 0) 0
    cleared zero i = refl
    cleared (suc n) zero = refl
    cleared (suc n) (suc i) = cleared n i

pub pass-valid : (size : ℕ) (marks : List ℕ) (xs : List Run) → marks ≡ replicate 1024 0 → passes 0 size marks xs ≡ valid_runs size xs
unfolding valid_runs
pass-valid size marks xs m =
    let l : length marks ≡ 1024 = ap length m ∙ length-replicate {A = ℕ} 1024 0 in
    same_test (passes 0 size marks xs) (in_order 0 size xs && numbered 1024 xs)
    (λ e. let t = passed 0 size marks xs l e in and_both (in_order 0 size xs) (numbered 1024 xs) t.0 t.1.0)
    (λ e. passing 0 size marks xs l (and_left (in_order 0 size xs) (numbered 1024 xs) e) (and_right (in_order 0 size xs) (numbered 1024 xs) e) (rw m (none-marked 1024 xs)))

pub whole : (r marks : List ℕ) (size n : ℕ) → passes 0 size marks (runs_from r 0 (n - 0)) ≡ passes 0 size marks (runs_from r 0 n)
whole r marks size n =
    let e : n - 0 ≡ n = omega arith in
    rw e

-- a length that fits behind a start
pub left_over : (length start size : ℕ) → start ≤ size → leb length (size - start) ≡ leb (start + length) size
left_over length start size h =
    same_test (leb length (size - start)) (leb (start + length) size)
    (λ e. let k = leb-true length (size - start) e in le-leb (start + length) size (omega arith))
    (λ e. let k = leb-true (start + length) size e in le-leb length (size - start) (omega arith))
