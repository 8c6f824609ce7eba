use Rattle.std.proofs.Common.{◌∙◌, ◌-◌, ℕ, sym, ap, get_or, Result, arith}
use Rattle.refusals.specs.declared.Refusal.{Refusal}
use Rattle.sheet.specs.Line.{fifth}
use Rattle.sheet.proofs.Lines.{from-fifth, from_end}
use Rattle.sheet.proofs.line.line_char.Goals as goal

pub returns-then-i-lt30 : goal.returns-then-i-lt30
returns-then-i-lt30 c =
    c.fifth_char.ensures
    ∙ ap (λ (n : Result ℕ Refusal). get_or (fifth n) (c.args.i - 24) 0) c.requires.1.1
    ∙ sym (from-fifth c.args.line.now c.requires.0 c.args.i c.if-i-lt24.false c.if-i-lt30.true)

pub returns-else-i-lt30 : goal.returns-else-i-lt30
returns-else-i-lt30 c = sym (from_end c.args.line.now c.requires.0 _ (omega arith))
