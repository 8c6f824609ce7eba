use Rattle.std.proofs.Common.{◌≡◌, ◌++◌}
use lib.ListN.{drop}
use Rattle.block_file.specs.Word.{entries_from}
use Rattle.block_file.proofs.load.take_list.Given as given

abbrev pub invariant-loop-i : given.invariant-loop-i
invariant-loop-i g l = l.out ≡ entries_from g.T.Entry.held l.bytes l.list.start l.i ++ drop l.i l.initial.out
