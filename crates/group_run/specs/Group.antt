-- What a list of a group answers.
use Rattle.std.specs.Prelude.{ℕ, Result, Ok, Err}
use Rattle.refusals.specs.Numbers.{number_of}
use Rattle.group_run.specs.declared.Stopped as Declared

-- the number of blocks settled, all of them; or the number of the refusal at which the list stopped, and how many blocks were settled before
pub data Group : Type 0 where
  Settled : ℕ → Group
  Stopped : ℕ → ℕ → Group

-- what the code answers, by number
abbrev pub group_of : Result ℕ Declared.Stopped → Group
group_of (Ok settled) = Settled settled
group_of (Err stopped) = Stopped (number_of stopped.refusal) stopped.settled
