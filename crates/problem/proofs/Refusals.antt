-- The number by which the checks refuse a search is neither of the searches' own, 15 and 16; where it is 0, each of them passes. Assumes nothing.
use mathlib.Core.Path.{◌≡◌, refl, sym, ap, ◌∙◌, subst}
use mathlib.Core.Bool.{Bool, true, false, cond}
use mathlib.Core.List.{List, [], ◌∷◌, ◌++◌}
use Prim.Native.Nat.{ℕ}
use native.Mathlib.Omega.{arith}
use borrow.Author.Tests.{eqb-true, eqb-false}
use lib.Dec.{eqb}
use Rattle.block.specs.Block.{Block}
use Rattle.block.specs.Checks.{valid_width, form_checks, content_checks, block_refusal, search_refusal}
use Rattle.block_checks.proofs.Laws.{none-fails, after-all, width-held}
use Rattle.laws.specs.Refusals.{first_refused}
use Rattle.laws.proofs.Refused.{never, not-refused}
use Rattle.prices.specs.Book.{Book}
use Rattle.prices.specs.Checks.{check1, check2, check3, check4, check5, check6, first_two, first_five, book_refusal}
use Rattle.weights.specs.declared.Window.{Window}

-- a number by which no search refuses once its checks have passed
pub record NoOutcome (n : ℕ) : Type 0 where
  pub not-15 : n ≡ 15 → ⊥
  pub not_16 : n ≡ 16 → ⊥

by-checks : (xs : List (Bool × ℕ)) (later : ℕ) → never 15 xs ≡ true → never 16 xs ≡ true → NoOutcome later → NoOutcome (first_refused xs later)
by-checks xs later e f k =
    record { not-15 = λ h. k.not-15 (not-refused 15 xs later e h); not_16 = λ h. k.not_16 (not-refused 16 xs later f h) }

none : NoOutcome 0
none = record { not-15 = λ h. omega (arith, h); not_16 = λ h. omega (arith, h) }

either : (t : Bool) {x y : ℕ} → NoOutcome x → NoOutcome y → NoOutcome (cond t x y)
either true a b = a
either false a b = b

module _ (w : ℕ) (v : Window) (book : Book) (b : Block) (room : Bool) where
  abbrev book_checks : List (Bool × ℕ)
  book_checks = (check1 book, 1) ∷ (check2 book, 2) ∷ (check3 book, 3) ∷ (check4 book, 4) ∷ (check5 book, 5) ∷ (check6 book, 6) ∷ []

  book-number : NoOutcome (book_refusal book)
  unfolding book_refusal first_five first_two first_refused
  book-number = by-checks book_checks 0 refl refl none

  block-number : NoOutcome (block_refusal w v b (cond room 0 14))
  unfolding block_refusal form_checks content_checks
  block-number =
      by-checks (form_checks b ++ ((valid_width w, 26) ∷ content_checks v b)) (cond room 0 14) refl refl
      (either room none (record { not-15 = λ h. omega (arith, h); not_16 = λ h. omega (arith, h) }))

  pub search-number : NoOutcome (search_refusal w v book b room)
  unfolding search_refusal
  search-number = either (eqb (book_refusal book) 0) block-number book-number

  pub searched : search_refusal w v book b room ≡ 0 → (book_refusal book ≡ 0) × ((block_refusal w v b 0 ≡ 0) × (room ≡ true))
  unfolding search_refusal
  searched e = go (eqb (book_refusal book) 0) refl e
    where
      given : (t : Bool) → cond {A = ℕ} t 0 14 ≡ 0 → t ≡ true
      given true h = refl
      given false h = absurd (omega (arith, h))

      go : (t : Bool) → eqb (book_refusal book) 0 ≡ t → cond t (block_refusal w v b (cond room 0 14)) (book_refusal book) ≡ 0
          → (book_refusal book ≡ 0) × ((block_refusal w v b 0 ≡ 0) × (room ≡ true))
      go true h k =
          let passes = none-fails w v b (cond room 0 14) k in
          (eqb-true (book_refusal book) 0 h, (passes, given room (sym (after-all w v b (cond room 0 14) passes) ∙ k)))
      go false h k = absurd (eqb-false (book_refusal book) 0 h k)

  -- the half-width is in range
  pub searched-width : search_refusal w v book b room ≡ 0 → valid_width w ≡ true
  searched-width e = width-held w v b (searched e).1.0

-- What refuses does not depend on the half-width, as long as that is in range.
pub width-free : (w n : ℕ) (v : Window) (book : Book) (b : Block) (room : Bool) → valid_width w ≡ true → valid_width n ≡ true → search_refusal w v book b room ≡ search_refusal n v book b room
unfolding search_refusal block_refusal
width-free w n v book b room e f =
    ap (λ (t : Bool). cond (eqb (book_refusal book) 0) (first_refused (form_checks b ++ ((t, 26) ∷ content_checks v b)) (cond room 0 14)) (book_refusal book)) (e ∙ sym f)

-- a search that was let pass is let pass with another half-width in range, where the room suffices
pub still-searched : (w n : ℕ) (v : Window) (book : Book) (b : Block) (room : Bool) → valid_width w ≡ true → search_refusal n v book b room ≡ 0 → search_refusal w v book b true ≡ 0
still-searched w n v book b room e h =
    let s = searched n v book b room h in
    let again : search_refusal n v book b true ≡ 0 = subst (λ (t : Bool). search_refusal n v book b t ≡ 0) s.1.1 h in
    width-free w n v book b true e (searched-width n v book b room h) ∙ again
