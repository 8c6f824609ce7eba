use mathlib.Core.Path.{◌≡◌, refl, ◌∙◌}
use native.Mathlib.Omega.{arith}
use borrow.Author.Rules.{rules}
use lib.ListN.{length}
use Rattle.scan.proofs.Marks.{marks-done}
use Rattle.scan.proofs.Bits.{bits_none}
use Rattle.scan.proofs.mark_bits.Goals as goal

pub loop-k-init : goal.loop-k-init
loop-k-init c =
    let entry = c.before.before in
    (search rules, (refl, bits_none entry.args.words.now entry.args.scan.now entry.requires.words_nonzero.1 entry.requires.by_index))
