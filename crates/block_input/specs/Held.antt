-- What is held of the input. Assumes nothing.
use Rattle.std.specs.Prelude.{◌-◌, ◌≤◌, IfOk}
use Rattle.block_file.specs.Within.{RecordInside}
use Rattle.block_input.specs.declared.Held.{Held}

-- what is held lies within the buffer, and the record within what is held
pub record HeldIn (h : Held) : Type 0 where
  pub order : h.start ≤ h.end
  pub room : h.end ≤ 1114112
  pub found : IfOk h.found (λ r. RecordInside r (h.end - h.start))
