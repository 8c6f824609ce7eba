-- What a search answers, and what every lent buffer holds afterwards.
use Rattle.std.specs.Prelude.{ℕ, ◌≡◌, false, List, ℤ, length, replicate, Float}
use Rattle.std.specs.Float.{inf}
use Rattle.block.specs.Block.{Block}
use Rattle.block.specs.Answer.{Answer}
use Rattle.block.specs.Answer.{Refused}

-- what a search may write to
pub record Lent : Type 0 where
  pub levels : List ℤ
  pub choices : List ℕ
  pub row_a : List Float
  pub row_b : List Float

-- a search's answer, and what it leaves
pub record Result : Type 0 where
  pub answer : Answer
  pub lent : Lent

-- the arguments of a call as what is lent
abbrev pub lent_of : List ℤ → List ℕ → List Float → List Float → Lent
lent_of levels choices row_a row_b = record { levels = levels; choices = choices; row_a = row_a; row_b = row_b }

abbrev pub result_of : Answer → List ℤ → List ℕ → List Float → List Float → Result
result_of answer levels choices row_a row_b = record { answer = answer; lent = lent_of levels choices row_a row_b }

-- all of the working room, surplus included, at its fixed values
unfoldable pub cleared : Lent → Lent
cleared l =
    record {
      levels = l.levels;
      choices = replicate (length l.choices) 255;
      row_a = replicate (length l.row_a) (inf false);
      row_b = replicate (length l.row_b) (inf false);
    }

-- refused by one of the checks: nothing changes
abbrev pub refused : ℕ → Lent → Result
refused number l = record { answer = Refused number; lent = l }

-- A refused block keeps every level: what a search promises of the levels that it leaves, by its answer.
abbrev pub RefusedKeeps : Block → List ℤ → Answer → Type 0
RefusedKeeps b after answer = (number : ℕ) → answer ≡ Refused number → after ≡ b.levels
