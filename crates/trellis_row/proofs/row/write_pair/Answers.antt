use mathlib.Core.Path.{◌≡◌, refl}
use mathlib.Core.List.{List}
use Prim.Native.Nat.{ℕ, ◌+◌, ◌*◌, ◌<◌}
use native.Mathlib.Omega.{arith}
use lib.ListN.{length}
use Rattle.half_bytes.specs.Packed.{unpacked}
use Rattle.half_bytes.proofs.Laws.{unpacked-length}
use Rattle.trellis_row.proofs.row.write_pair.Goals as goal

-- the byte lies inside
inside : (choices : List ℕ) (at k : ℕ) → 2 * at + 2 * k + 1 < length (unpacked choices) → at + k < length choices
inside choices at k h = omega (arith, h, unpacked-length choices)

pub overflow_add-at : goal.overflow_add-at
overflow_add-at c = record { fits = omega (arith, inside _ _ _ c.requires.1) }

pub put_pair-requires : goal.put_pair-requires
put_pair-requires c = inside _ _ _ c.requires.1

pub returns : goal.returns
returns c =
    let a = c.args in
    let two : 2 * (a.at + a.k) ≡ 2 * a.at + 2 * a.k = omega arith in
    (refl, rw two at c.put_pair.ensures)
