-- What the check of a code answers: the code, or the refusal.
use Rattle.std.specs.Prelude.{◌≡◌, Bool, Result, MatchResult}
use Rattle.laws.specs.Refusals.{first_refused}
use Rattle.coding.specs.Coding.{Coding, coding_of, coding_checks}
use Rattle.coding.specs.declared.code.Code.{Code}
use Rattle.refusals.specs.Numbers.{number_of}
use Rattle.refusals.specs.declared.Refusal.{Refusal}

abbrev pub coding_in : Code → Coding
coding_in c = coding_of c.clusters c.map.now c.configs.now

abbrev pub IsChecked : Coding → Bool → Result Code Refusal → Type 0
IsChecked k others answer =
    MatchResult answer (λ code. (coding_in code ≡ k) × (first_refused (coding_checks k others) 0 ≡ 0)) (λ refusal. number_of refusal ≡ first_refused (coding_checks k others) 0)
