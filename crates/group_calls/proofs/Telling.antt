-- A refusal told with the number of blocks settled before it, and what a search's answer says of its block. Assumes nothing.
use Rattle.std.proofs.Common.{◌≡◌, refl, arith, ℕ, true, Float, Option, Some, None, Result, Ok, Err, MatchResult}
use Rattle.block.specs.Answer.{answer_of, Refused}
use Rattle.block.specs.declared.Picked.{Picked}
use Rattle.group_run.specs.Block.{settles}
use Rattle.group_run.specs.declared.Stopped.{Stopped}
use Rattle.refusals.specs.Numbers.{number_of}
use Rattle.refusals.specs.declared.Refusal.{Refusal}

module _ {A : Type 0} where
  pub refused-of : (r : Result A Refusal) (stopped : Stopped) {n : ℕ} → MatchResult r (λ x. ◌≡◌ {A = Result A Stopped} (Err stopped) (Ok x)) (λ refusal. stopped ≡ record { refusal = refusal; settled = n })
      → (r ≡ Err stopped.refusal) × (stopped.settled ≡ n)
  refused-of (Ok x) stopped e = grind arith
  refused-of (Err refusal) stopped e = rw e (refl, refl)

  pub mapped-of : (r : Result A Refusal) (stopped : Stopped) {P : Refusal → Type 0} → MatchResult r (λ x. ◌≡◌ {A = Result A Stopped} (Err stopped) (Ok x)) P → (refusal : Refusal) × (r ≡ Err refusal) × P refusal
  mapped-of (Ok x) stopped e = grind arith
  mapped-of (Err refusal) stopped e = (refusal, refl, e)

  pub passed-of : (r : Result A Refusal) (x : A) → MatchResult r (λ y. ◌≡◌ {A = Result A Stopped} (Ok x) (Ok y)) (λ refusal. ⊥) → r ≡ Ok x
  passed-of (Ok y) x e = grind arith
  passed-of (Err refusal) x e = absurd e

-- ---- a search's answer
pub answer-refused : {r : Result Picked Refusal} {refusal : Refusal} → r ≡ Err refusal → answer_of r ≡ Refused (number_of refusal)
answer-refused e = rw e refl

picked-settles : (cost : Option Float) (n : ℕ) → settles (answer_of (Ok (record { cost = cost; count = n }))) ≡ true
unfolding settles
picked-settles (Some cost) n = refl
picked-settles None n = refl

pub answer-settles : {r : Result Picked Refusal} {picked : Picked} → r ≡ Ok picked → settles (answer_of r) ≡ true
answer-settles {picked = picked} e = rw e (picked-settles picked.cost picked.count)
