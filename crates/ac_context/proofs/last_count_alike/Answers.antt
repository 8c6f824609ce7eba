use native.Mathlib.Omega.{arith}
use Rattle.ac_context.proofs.Bounds.{covered-some, covered-most}
use Rattle.ac_context.proofs.Same.{up-below, counts-alike, shl-up}
use Rattle.ac_context.proofs.last_count_alike.Goals as goal

pub overflow_add-nz : goal.overflow_add-nz
overflow_add-nz c = omega (arith, covered-most c.requires.0)

pub overflow_sub-nz : goal.overflow_sub-nz
overflow_sub-nz c = omega (arith, covered-some c.requires.0)

pub last_alike-requires : goal.last_alike-requires
last_alike-requires c = rw (← c.requires.0.power) (up-below _ (covered-some c.requires.0) _ c.requires.1)

pub returns : goal.returns
returns c =
    let cover = c.requires.0 in
    let table = c.last_alike.ensures in
    rw (shl-up cover _ table.most) (counts-alike _ (covered-some cover) _ _ (rw (← cover.power) at table))
