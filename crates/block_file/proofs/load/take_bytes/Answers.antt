use mathlib.Core.Path.{◌∙◌}
use mathlib.Core.List.{List, ◌++◌}
use Prim.Native.Nat.{ℕ}
use lib.ListN.{drop}
use Rattle.std.proofs.Common.{ap}
use Rattle.block_file.proofs.Fill.{copied}
use Rattle.block_file.proofs.load.take_bytes.Goals as goal

pub returns : goal.returns
returns c = ap (λ (front : List ℕ). front ++ drop c.args.list.count c.args.out.now) (c.copy_from_slice.ensures.after ∙ copied c.args.list.start c.args.list.count c.args.bytes.now c.requires.0)
