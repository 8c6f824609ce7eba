-- The search that a number names.
use Rattle.std.specs.Prelude.{ℕ, ◌≡◌, cond, eqb, leb, Result, Ok, Err}
use Rattle.refusals.specs.declared.Refusal.{Refusal}
use Rattle.refusals.specs.declared.Refusal.TheVariants.{Domain}
use Rattle.searches.specs.declared.Search.{Search}
use Rattle.searches.specs.declared.Search.TheVariants.{Greedy, Beam, Trellis, Unfactored}

-- the search that a number from 0 to 3 names
unfoldable pub search_named : ℕ → Search
search_named n = cond (eqb n 0) Greedy (cond (eqb n 1) Beam (cond (eqb n 2) Trellis Unfactored))

-- any other number names none
abbrev pub IsNamed : ℕ → Result Search Refusal → Type 0
IsNamed n answer = answer ≡ cond (leb n 3) (Ok (search_named n)) (Err Domain)
