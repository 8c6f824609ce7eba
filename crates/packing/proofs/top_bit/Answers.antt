use Prim.Native.Nat.{ℕ, ◌-◌, ◌≤◌, ◌<◌, ◌^◌}
use mathlib.Core.Path.{◌≡◌}
use native.Mathlib.Omega.{arith}
use lib.Count.{count_leading_zeros, leading_top}
use Rattle.packing.specs.Hybrid.{top_bit}
use Rattle.packing.proofs.Hybrid.{top_unique}
use Rattle.packing.proofs.top_bit.Goals as goal

found : (v : ℕ) → 0 < v → v < 2 ^ 32 → (count_leading_zeros 32 v ≤ 31) × (31 - count_leading_zeros 32 v ≡ top_bit v)
found v pos h =
    let t = leading_top 32 v pos h in
    let e = top_unique v t.0 t.2 t.3 in
    omega (arith, t.1, e)

pub returns : goal.returns
returns c = (found c.args.v c.requires (omega arith)).1
