use mathlib.Core.Path.{refl}
use native.Mathlib.Omega.{arith}
use Rattle.beam.proofs.Whole.{tested, path-few, count-few, walkable, levels-written, cost-answered, levels-kept, refused-16}
use Rattle.beam.proofs.search.write_found.Goals as goal

pub offset_bounds-kept-path : goal.offset_bounds-kept-path
offset_bounds-kept-path c =
    let d = c.requires in
    let h = tested d c.infinity.ensures c.if-best-infinity.true in
    record { fits = omega (arith, path-few d h, d.reached.paths_are.few) }

pub bounds-kept-path : goal.bounds-kept-path
bounds-kept-path c =
    let d = c.requires in
    let h = tested d c.infinity.ensures c.if-best-infinity.true in
    omega (arith, path-few d h, d.reached.paths_are.few, d.reached.paths_are.three)

pub write_levels-requires : goal.write_levels-requires
write_levels-requires c =
    let d = c.requires in
    let h = tested d c.infinity.ensures c.if-best-infinity.true in
    walkable d h refl

pub overflow_cast-result : goal.overflow_cast-result
overflow_cast-result c =
    let d = c.requires in
    let h = tested d c.infinity.ensures c.if-best-infinity.true in
    record { fits = omega (arith, count-few d h refl, path-few d h, d.reached.paths_are.few) }

pub returns-then-best-infinity : goal.returns-then-best-infinity
returns-then-best-infinity c =
    λ d.
    let h = tested d c.infinity.ensures c.if-best-infinity.true in
    (cost-answered d h refl, levels-written d h refl c.write_levels.ensures)

pub returns : goal.returns
returns c =
    λ d.
    let h = tested d c.infinity.ensures c.if-best-infinity.false in
    (refused-16 d h, levels-kept d h)
