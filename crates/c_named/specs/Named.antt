-- What an exported search returns, and what every lent variable and buffer holds afterwards. Assumes nothing.
use Rattle.std.specs.Prelude.{ℕ, cond, leb, Float}
use Rattle.block.specs.Outcome.{Lent, Result}
use Rattle.searches.specs.Named.{search_named}
use Rattle.searches.specs.declared.Search.{Search}
use Rattle.c_answers.specs.Told.{answer_code, cost_after, count_after}

-- the code, the caller's two variables, and the buffers
pub record Reply : Type 0 where
  pub code : ℕ
  pub cost : Float
  pub count : ℕ
  pub lent : Lent

abbrev pub reply_of : ℕ → Float → ℕ → Lent → Reply
reply_of code cost count lent = record { code = code; cost = cost; count = count; lent = lent }

-- an outcome as it is told over the variables' old values
unfoldable pub told : Result → Float → ℕ → Reply
told result cost count =
    reply_of (answer_code result.answer) (cost_after result.answer cost) (count_after result.answer count) result.lent

-- the outcome of the search that a number names; a number that names none gets 17, and nothing changes
unfoldable pub named_reply : (Search → Result) → ℕ → Lent → Float → ℕ → Reply
named_reply outcome search l cost count = cond (leb search 3) (told (outcome (search_named search)) cost count) (reply_of 17 cost count l)
