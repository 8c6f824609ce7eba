use native.Mathlib.Omega.{arith}
use Rattle.trellis.proofs.Whole.{tested, holds, walkable, count-few, cost-answered, levels-written, levels-kept, refused-15}
use Rattle.trellis.proofs.search.write_found.Goals as goal

pub write_levels-requires : goal.write_levels-requires
write_levels-requires c =
    let d = c.requires in
    walkable d (holds d (tested d c.infinity.ensures c.if-found-infinity.true))

pub overflow_cast-result : goal.overflow_cast-result
overflow_cast-result c =
    let d = c.requires in
    omega (arith, count-few d (tested d c.infinity.ensures c.if-found-infinity.true))

pub returns-then-found-infinity : goal.returns-then-found-infinity
returns-then-found-infinity c =
    λ d.
    let h = tested d c.infinity.ensures c.if-found-infinity.true in
    (cost-answered d h, levels-written d h c.write_levels.ensures)

pub returns : goal.returns
returns c =
    λ d.
    let h = tested d c.infinity.ensures c.if-found-infinity.false in
    (refused-15 d h, levels-kept d h)
