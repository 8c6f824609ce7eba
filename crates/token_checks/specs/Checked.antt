-- What the checks of a call on a block's tokens answer: the code, or the refusal.
use Rattle.std.specs.Prelude.{◌≡◌, List, ℤ, Result, MatchResult}
use Rattle.block_tokens.specs.Outcome.{Given, lent_refusal}
use Rattle.coding.specs.Checked.{coding_in}
use Rattle.coding.specs.declared.code.Code.{Code}
use Rattle.refusals.specs.Numbers.{number_of}
use Rattle.refusals.specs.declared.Refusal.{Refusal}

abbrev pub IsChecked : Given → List ℤ → Result Code Refusal → Type 0
IsChecked g levels answer =
    MatchResult answer (λ code. (coding_in code ≡ g.coding) × (lent_refusal g levels ≡ 0)) (λ refusal. number_of refusal ≡ lent_refusal g levels)
