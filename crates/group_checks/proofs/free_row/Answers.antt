use Prim.Native.Nat.{◌+◌, ◌-◌}
use mathlib.Core.Path.{◌∙◌}
use lib.Dec.{eqb}
use lib.ListN.{take, drop}
use Rattle.std.proofs.Common.{rules}
use Rattle.std.proofs.lemmas.Iterator.{YieldsList-from_slice}
use Rattle.std.proofs.lemmas.Iterator.Search.{all_from_yields_List}
use Rattle.group_checks.proofs.Marks.{row-free}
use Rattle.group_checks.proofs.free_row.Goals as goal

pub returns : goal.returns
returns c =
    let a = c.args in
    all_from_yields_List (λ m. eqb m 0) _ _ _ c.all.ensures.ran (YieldsList-from_slice (take (a.start + a.n - a.start) (drop a.start a.marks.now)) cc) (λ x b q k. search rules)
    ∙ row-free a.marks.now a.start a.n c.requires
