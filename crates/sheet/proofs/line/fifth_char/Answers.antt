use Rattle.std.proofs.Common.{◌∙◌, sym}
use Rattle.sheet.proofs.Columns.{column-at}
use Rattle.sheet.proofs.line.fifth_char.Goals as goal

pub returns-in-Ok : goal.returns-in-Ok
returns-in-Ok c = rw c.in-Ok.is (c.column_char.ensures ∙ sym (column-at _ _ c.requires))
