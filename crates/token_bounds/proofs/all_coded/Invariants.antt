use Prim.Native.Nat.{◌-◌}
use lib.ListN.{length}
use Rattle.block.specs.declared.Shape.{Shape}
use Rattle.block_tokens.specs.Code.{code_of}
use Rattle.block_tokens.specs.Passed.{Scanned}
use Rattle.token_steps.specs.Steps.{Numbered}
use Rattle.token_steps.proofs.Walk.{Counting}
use Rattle.token_bounds.proofs.all_coded.Given as given

abbrev pub invariant-loop-left : given.invariant-loop-left
invariant-loop-left l =
    (h : Shape) → Numbered h l.layout → Scanned h l.scan l.levels → Counting (code_of l.map l.configs) h l.scan l.levels l.k l.prev l.left

abbrev pub decreases-loop-left : given.decreases-loop-left
decreases-loop-left l = length l.scan - l.k
