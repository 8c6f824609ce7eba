-- What a call on a block's tokens replies.
use Rattle.std.specs.Prelude.{ℕ, Result, Ok, Err}
use Rattle.refusals.specs.Numbers.{number_of}
use Rattle.refusals.specs.declared.Refusal.{Refusal}

-- how many tokens were written or read, or the number of the refusal
pub data Reply : Type 0 where
  Tokens : ℕ → Reply
  Refused : ℕ → Reply

-- what the code answers, by number
abbrev pub reply_of : Result ℕ Refusal → Reply
reply_of (Ok tokens) = Tokens tokens
reply_of (Err refusal) = Refused (number_of refusal)
