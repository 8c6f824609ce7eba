-- What a call on tokens tells a caller from C: a code, and the number of tokens behind a pointer where the code is 0.
use Rattle.std.specs.Prelude.{ℕ, ◌≡◌}
use Rattle.block_tokens.specs.Reply.{Reply, Tokens, Refused}

unfoldable pub reply_code : Reply → ℕ
reply_code (Tokens n) = 0
reply_code (Refused m) = m

unfoldable pub count_after : Reply → ℕ → ℕ
count_after (Tokens n) before = n
count_after (Refused m) before = before

-- Code and count tell a reply that keeps the call's promise.
pub record Told (Promised : Reply → Type 0) (before code count : ℕ) : Type 0 where
  pub reply : Reply
  pub promised : Promised reply
  pub code_is : code ≡ reply_code reply
  -- the caller's variable: the number of tokens, or what it held before
  pub count_is : count ≡ count_after reply before
  -- A refusal's number is never 0.
  pub numbered : reply ≡ Refused 0 → ⊥
