use Prim.Native.Nat.{◌%◌, ◌<◌}
use mathlib.Core.Path.{refl}
use native.Mathlib.Omega.{arith}
use lib.ListN.{get_or}
use Rattle.scan.proofs.Bits.{bits-more, one_shl}
use Rattle.scan.proofs.Marks.{counted}
use Rattle.scan.proofs.mark_bit.Goals as goal

pub returns-clause-marks_after : goal.returns-clause-marks_after
returns-clause-marks_after c =
    let x = get_or c.args.scan.now c.args.k 0 in
    let below : x % 64 < 64 = omega arith in
    let out = counted in
    let enough = c.requires.words_nonzero.1 in
    rw (c.from.ensures, one_shl (x % 64) below, c.word_of-at.ensures.1) (bits-more c.args.words.now enough.0 c.requires.marks enough.1 refl out.0 out.1.0 out.1.1)
