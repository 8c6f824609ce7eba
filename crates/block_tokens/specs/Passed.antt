-- What the calls go by once the checks of what they are lent have passed.
use Rattle.std.specs.Prelude.{ℕ, ◌*◌, ◌≤◌, ◌≡◌, true, List, ℤ, length}
use Rattle.ac_context.specs.Contexts.{is_power_below}
use Rattle.block.specs.declared.Shape.{Shape}
use Rattle.coding.specs.Coding.{Codes}
use Rattle.scan.specs.Scan.{Perm}
use Rattle.block_tokens.specs.Tokens.{covered_by}
use Rattle.block_tokens.specs.Outcome.{Given}

-- checks 7 and 9
pub record Shaped (h : Shape) : Type 0 where
  pub first_side : is_power_below 6 h.cx ≡ true
  pub second_side : is_power_below 6 h.cy ≡ true
  pub strategy : h.strategy ≤ 26
  pub channel : h.channel ≤ 2

-- checks 8 and 11
pub record Scanned (h : Shape) (scan : List ℕ) (levels : List ℤ) : Type 0 where
  pub order : Perm scan (64 * covered_by h)
  pub long : length levels ≡ 64 * covered_by h

-- all of them
pub record Passed (g : Given) (levels : List ℤ) : Type 0 where
  pub codes : Codes g.coding
  pub shaped : Shaped g.shape
  pub scanned : Scanned g.shape g.scan levels
