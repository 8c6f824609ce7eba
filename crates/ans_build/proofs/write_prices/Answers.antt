use Rattle.std.proofs.Common.{refl}
use Rattle.book_build.specs.Paint.{paint}
use Rattle.ans_build.proofs.Built.{whole, quiet, more}
use Rattle.ans_build.proofs.write_prices.Goals as goal

pub loop-i-init : goal.loop-i-init
unfolding paint
loop-i-init c = refl

pub bounds-table-from : goal.bounds-table-from
bounds-table-from c = rw c.from.ensures (whole _ c.requires.freqs_value _ c.loop-i-test.true)

pub float_from_bits-symbols : goal.float_from_bits-symbols
float_from_bits-symbols c = rw c.from.ensures (quiet _ c.requires.price_table _ (whole _ c.requires.freqs_value _ c.loop-i-test.true))

pub loop-i-preserved : goal.loop-i-preserved
loop-i-preserved c = rw c.from.ensures (more _ c.requires.price_table _ _ _ (whole _ c.requires.freqs_value _ c.loop-i-test.true) c.loop-i.invariant)
