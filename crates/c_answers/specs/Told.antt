-- How an answer is told in C: a code, 0 or the refusal's number, and the answer's values in the caller's variables, which a refusal leaves as they were.
-- Assumes nothing.
use Rattle.std.specs.Prelude.{ℕ, cond, List, eqb, ℤ, length, Float, Result, Ok, Err}
use Rattle.block.specs.Answer.{Answer}
use Rattle.block.specs.Answer.{Cost, Count, Refused}
use Rattle.packing.specs.declared.Split.{Split}
use Rattle.weights.specs.declared.Window.{Window}
use Rattle.candidates.specs.declared.Candidates.{Candidates}
use Rattle.prices.specs.declared.Pair.{Pair}
use Rattle.refusals.specs.declared.Refusal.{Refusal}
use Rattle.refusals.specs.Numbers.{code_of}

-- of a search
unfoldable pub answer_code : Answer → ℕ
answer_code (Cost cost count) = 0
answer_code (Count count) = 0
answer_code (Refused number) = number

-- greedy answers no cost
unfoldable pub cost_after : Answer → Float → Float
cost_after (Cost cost count) old = cost
cost_after (Count count) old = old
cost_after (Refused number) old = old

unfoldable pub count_after : Answer → ℕ → ℕ
count_after (Cost cost count) old = count
count_after (Count count) old = count
count_after (Refused number) old = old

-- of a call on single values: its code is `code_of`; and what is left of a variable for the value
unfoldable pub after : {A : Type 0} → Result A Refusal → A → A
after (Ok value) old = value
after (Err refusal) old = old

-- of a call that answers two prices
unfoldable pub first_after : Result Pair Refusal → Float → Float
first_after (Ok pair) old = pair.first
first_after (Err refusal) old = old

unfoldable pub second_after : Result Pair Refusal → Float → Float
second_after (Ok pair) old = pair.second
second_after (Err refusal) old = old

-- of the call that splits a value
unfoldable pub symbol_after : Result Split Refusal → ℕ → ℕ
symbol_after (Ok split) old = split.symbol
symbol_after (Err refusal) old = old

unfoldable pub extra_after : Result Split Refusal → ℕ → ℕ
extra_after (Ok split) old = split.extra_bits
extra_after (Err refusal) old = old

unfoldable pub bits_after : Result Split Refusal → ℕ → ℕ
bits_after (Ok split) old = split.bits
bits_after (Err refusal) old = old

-- of the call on a window
unfoldable pub length_after : Result Window Refusal → ℕ → ℕ
length_after (Ok window) old = window.length
length_after (Err refusal) old = old

unfoldable pub restoring_after : Result Window Refusal → ℕ → ℕ
restoring_after (Ok window) old = window.restoring
restoring_after (Err refusal) old = old

-- of the call on candidates: room for other than five levels is refused too
unfoldable pub listed_code : Result Candidates Refusal → List ℤ → ℕ
listed_code found room = cond (eqb (length room) 5) (code_of found) 17

abbrev pub levels_in : Result Candidates Refusal → List ℤ → List ℤ
levels_in (Ok found) old = found.levels
levels_in (Err refusal) old = old

unfoldable pub levels_after : Result Candidates Refusal → List ℤ → List ℤ
levels_after found room = cond (eqb (length room) 5) (levels_in found room) room

abbrev pub count_in : Result Candidates Refusal → ℕ → ℕ
count_in (Ok found) old = found.count
count_in (Err refusal) old = old

unfoldable pub listed_count_after : Result Candidates Refusal → List ℤ → ℕ → ℕ
listed_count_after found room old = cond (eqb (length room) 5) (count_in found old) old
