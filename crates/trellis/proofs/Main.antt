-- What the answers of the trellis mean (demand 3 of document 01), for a book and a block that pass checks 1 to 13. Assumes nothing.
use mathlib.Core.Path.{◌≡◌, refl}
use mathlib.Core.Logic.{◌↔◌}
use mathlib.Core.Bool.{Bool, true, false, cond}
use mathlib.Core.List.{List}
use Prim.Native.Nat.{ℕ}
use native.Mathlib.Omega.{arith}
use lib.Dec.{T}
use lib.IntN.{ℤ}
use lib.Ieee.{Float, inf}
use lib.Ieee.Scale.{finite}
use Rattle.block.specs.Band.{problem_of}
use Rattle.block.specs.Block.{Block}
use Rattle.block.specs.Answer.{Cost, Refused}
use Rattle.block_checks.specs.Passed.{Passed}
use Rattle.costs.proofs.Order.{infinite}
use Rattle.least_cost.specs.Search.{least_total, least_count, Banded}
use Rattle.least_cost.proofs.Whole.{least_total-cost}
use Rattle.least_cost.proofs.Whole as Whole
use Rattle.prices.specs.Book.{Book}
use Rattle.prices.specs.Checks.{book_refusal}
use Rattle.problem.specs.Tokens.{needs_infinite}
use Rattle.problem.proofs.Main.{found, each-needs-infinite}
use Rattle.problem.proofs.Problem.{sound}
use Rattle.weights.specs.declared.Window.{Window}
use Rattle.trellis.specs.Outcome.{answered}

module _ (w : ℕ) (v : Window) (book : Book) (ok : book_refusal book ≡ 0) (b : Block) (P : Passed v b) where
  -- 15 is answered exactly where each choice in the band needs a token of infinite price
  pub refused-exactly : (answered w v book b ≡ Refused 15) ↔ ((cs : List ℤ) → Banded (problem_of w v book b) cs → T (needs_infinite v book b cs))
  unfolding answered
  refused-exactly = (λ e. (each-needs-infinite w v book ok b P).0 (none (finite (least_total (problem_of w v book b))) refl e), λ f. rw ((each-needs-infinite w v book ok b P).1 f))
    where
      none : (t : Bool) → finite (least_total (problem_of w v book b)) ≡ t → cond t (Cost (least_total (problem_of w v book b)) (least_count (problem_of w v book b))) (Refused 15) ≡ Refused 15 → least_total (problem_of w v book b) ≡ inf false
      none true e f = cc
      none false e f = infinite (least_total (problem_of w v book b)) (least_total-cost (problem_of w v book b) (sound book ok v b P w)) (rw e tt)

  -- Where the answer is a cost and a count, they are those of the levels written: a choice in the band, which none there undercuts, and none with a smaller count equals.
  pub answers-least : {x : Float} {n : ℕ} → answered w v book b ≡ Cost x n → (x ≡ least_total (problem_of w v book b)) × ((n ≡ least_count (problem_of w v book b)) × Whole.Answer (problem_of w v book b))
  unfolding answered
  answers-least {x} {n} e = some (finite (least_total (problem_of w v book b))) refl e
    where
      some : (t : Bool) → finite (least_total (problem_of w v book b)) ≡ t → cond t (Cost (least_total (problem_of w v book b)) (least_count (problem_of w v book b))) (Refused 15) ≡ Cost x n
          → (x ≡ least_total (problem_of w v book b)) × ((n ≡ least_count (problem_of w v book b)) × Whole.Answer (problem_of w v book b))
      some true e f = (cc, (cc, found w v book ok b P (rw e tt)))
      some false e f =
          let bad : ◌≡◌ {A = ℕ} 0 1 = cc in
          absurd (omega arith)
