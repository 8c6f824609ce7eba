-- What the parts of the code do: steps on the way to the candidates, of no interest of their own. Definitions only.
use Rattle.std.specs.Prelude.{◌+◌, cond, ◌||◌, [], ◌∷◌, set, ℤ, pos}
use Rattle.candidates.specs.Candidates.{eq_z, filled}
use Rattle.candidates.specs.declared.Candidates.{Candidates}

-- the current level and 0
unfoldable pub with_zero : ℤ → Candidates
unfolding filled
with_zero current = filled current (cond (eq_z current (pos 0)) (current ∷ []) (current ∷ pos 0 ∷ []))

-- one level more, unless it is 0 or the current one
unfoldable pub offer : Candidates → ℤ → ℤ → Candidates
offer to current level =
    cond (eq_z (pos 0) level || eq_z current level) to (record { levels = set to.levels to.count level; count = to.count + 1 })
