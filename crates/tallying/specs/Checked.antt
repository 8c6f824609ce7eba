-- What the checks of a call on a tally answer: code and tokens, or the refusal.
use Rattle.std.specs.Prelude.{ℕ, ◌≡◌, Result, MatchResult}
use Rattle.coding.specs.Checked.{coding_in}
use Rattle.coding.specs.Coding.{Coding}
use Rattle.coding.specs.declared.code.Code.{Code}
use Rattle.laws.specs.Refusals.{first_refused}
use Rattle.refusals.specs.Numbers.{number_of}
use Rattle.refusals.specs.declared.Refusal.{Refusal}
use Rattle.tallying.specs.Tally.{shared_checks}
use Rattle.tallying.specs.Uses.{Tokens, tokens_of}
use Rattle.tallying.specs.declared.tokens.Tokens as Checked

-- the tokens that checked tokens are
abbrev pub tokens_in : Checked.Tokens → Tokens
tokens_in t = tokens_of t.contexts.now t.values.now

abbrev pub IsChecked : Coding → Tokens → ℕ → Result (Code × Checked.Tokens) Refusal → Type 0
IsChecked k t places answer =
    MatchResult answer (λ both. ((coding_in both.0 ≡ k) × (tokens_in both.1 ≡ t)) × (first_refused (shared_checks k t places) 0 ≡ 0)) (λ refusal. number_of refusal ≡ first_refused (shared_checks k t places) 0)
