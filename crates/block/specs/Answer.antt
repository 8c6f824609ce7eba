-- What a search answers.
use Rattle.std.specs.Prelude.{ℕ, Float, Option, Some, None, Result, Ok, Err}
use Rattle.refusals.specs.Numbers.{number_of}
use Rattle.refusals.specs.declared.Refusal.{Refusal}
use Rattle.block.specs.declared.Picked.{Picked}

-- the cost and the count of nonzero levels from scan position c on; the count alone; or the number of the refusal
pub data Answer : Type 0 where
  Cost : Float → ℕ → Answer
  Count : ℕ → Answer
  Refused : ℕ → Answer

abbrev picked_of : Option Float → ℕ → Answer
picked_of (Some cost) count = Cost cost count
picked_of None count = Count count

-- what the code answers, by number
abbrev pub answer_of : Result Picked Refusal → Answer
answer_of (Ok picked) = picked_of picked.cost picked.count
answer_of (Err refusal) = Refused (number_of refusal)
