-- The checks of a block in two parts: what is known without a look into the buffers, then what the buffers hold.
use Rattle.std.specs.Prelude.{ℕ}
use Rattle.block.specs.Block.{Block}
use Rattle.block.specs.Checks.{form_checks, content_checks}
use Rattle.laws.specs.Refusals.{first_refused}
use Rattle.weights.specs.declared.Window.{Window}

unfoldable pub form_refusal : Block → ℕ
form_refusal b = first_refused (form_checks b) 0

unfoldable pub content_refusal : Window → Block → ℕ
content_refusal v b = first_refused (content_checks v b) 0
