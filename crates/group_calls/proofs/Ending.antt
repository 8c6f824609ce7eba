-- How a call over a list ends: refused by the book, refused by the list, or run. Assumes nothing.
use mathlib.Core.Path.{◌≡◌, sym, ap, ◌∙◌, subst⁻¹}
use mathlib.Core.List.{List}
use Prim.Native.Nat.{ℕ}
use borrow.Author.Tests.{eq-eqb, ne_eqb}
use lib.Ieee.{Float}
use Rattle.block.specs.Outcome.{Lent}
use Rattle.group_list.specs.Checks.{list_refusal}
use Rattle.group_run.specs.Block.{Numbers, Room, lent_with}
use Rattle.group_run.specs.Demand.{Promised}
use Rattle.group_run.specs.Run.{Run, group_refusal}
use Rattle.group_run.specs.Group.{Group, Stopped}
use Rattle.group_run.proofs.Main.{promised, refused-before, runs}
use Rattle.prices.specs.Book.{Book}
use Rattle.prices.specs.Checks.{book_refusal}
use Rattle.searches.specs.declared.Search.{Search}
use Rattle.group_calls.specs.Ran.{Ran}

-- a book is as its checked book is
pub passes : {checked book : Book} → checked ≡ book → book_refusal checked ≡ 0 → book_refusal book ≡ 0
passes e f = rw (← e) f

module _ (book : Book) (words : List ℕ) (reals : List Float) where
  by-book : (book_refusal book ≡ 0 → ⊥) → group_refusal book words reals ≡ book_refusal book
  unfolding group_refusal
  by-book k = rw (ne_eqb (book_refusal book) 0 k)

  by-list : book_refusal book ≡ 0 → group_refusal book words reals ≡ list_refusal words reals
  unfolding group_refusal
  by-list e = rw (eq-eqb (book_refusal book) 0 e)

module _ (s : Search) (book : Book) (words : List ℕ) (reals : List Float) (g : Numbers) (room : Room) where
  refused-by : {n : ℕ} → n ≡ group_refusal book words reals → (n ≡ 0 → ⊥) → Promised s book words reals g room (Stopped n 0) (lent_with g.levels room)
  refused-by e k =
      let o = refused-before s book words reals g room (λ z. k (e ∙ z)) in
      promised s book words reals g room (ap (λ (m : ℕ). Stopped m 0) e ∙ sym (ap (λ (r : Run). r.answer) o)) (sym (ap (λ (r : Run). r.lent) o))

  pub refused-by-book : {n : ℕ} → n ≡ book_refusal book → (n ≡ 0 → ⊥) → Promised s book words reals g room (Stopped n 0) (lent_with g.levels room)
  refused-by-book e k = refused-by (e ∙ sym (by-book book words reals (λ z. k (e ∙ z)))) k

  module _ (ok : book_refusal book ≡ 0) where
    pub refused-by-list : {n : ℕ} → n ≡ list_refusal words reals → (n ≡ 0 → ⊥) → Promised s book words reals g room (Stopped n 0) (lent_with g.levels room)
    refused-by-list e k = refused-by (e ∙ sym (by-list book words reals ok)) k

    pub ran : list_refusal words reals ≡ 0 → {answer : Group} {after : Lent} → {checked : Book} → checked ≡ book → Ran s checked words reals g room answer after → Promised s book words reals g room answer after
    ran none {answer} {after} e Q =
        let R = subst⁻¹ (λ (k : Book). Ran s k words reals g room answer after) (sym e) Q in
        let o = runs s book words reals g room (by-list book words reals ok ∙ none) in
        promised s book words reals g room (sym R.answer_is ∙ sym (ap (λ (r : Run). r.answer) o)) (sym R.lent_is ∙ sym (ap (λ (r : Run). r.lent) o))
