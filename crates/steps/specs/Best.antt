-- The first least of some costs.
use Rattle.std.specs.Prelude.{cond, Float}
use Rattle.std.specs.Float.Ieee.{lt}
use Rattle.steps.specs.declared.best.Best.{Best}

-- a cost that is below the least so far takes its place
unfoldable pub considered : {T : Type 0} → Best T → Float → T → Best T
considered best x choice = cond (lt x best.cost) (record { cost = x; choice = choice }) best
