use Rattle.std.proofs.Common.{sym, refl}
use Rattle.coding.specs.Coding.{coding_of}
use Rattle.coding.proofs.Passed.{codes}
use Rattle.coding.proofs.checked_code.Goals as goal

pub invariant_of-result : goal.invariant_of-result
invariant_of-result c =
    record { codes = codes (coding_of c.args.clusters c.args.map.now c.args.configs.now) c.args.others (sym c.in_ok-check_coding.ensures) }

pub returns : goal.returns
returns c = (refl, sym c.in_ok-check_coding.ensures)
