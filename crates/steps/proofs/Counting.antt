-- Nonzero levels counted. Assumes nothing.
use mathlib.Core.Path.{◌≡◌}
use mathlib.Core.List.{List}
use Prim.Native.Nat.{ℕ, zero, suc, ◌+◌, ◌-◌, ◌≤◌, ◌<◌, zero-le}
use native.Mathlib.Omega.{arith}
use native.Mathlib.Numerals.{add-one}
use lib.IntN.{ℤ}
use Rattle.block.specs.Block.{nonzeros_among}
use Rattle.least_cost.specs.Position.{nz}
use Rattle.least_cost.proofs.Trial.{nz-le}
use Rattle.scan.specs.Scan.{level_at}

pub among-most : (scan : List ℕ) (levels : List ℤ) (k n : ℕ) → nonzeros_among scan levels k n ≤ n
unfolding nonzeros_among
among-most scan levels k zero = zero-le
among-most scan levels k (suc n) = omega (arith, nz-le (level_at scan levels k), among-most scan levels (suc k) n)

pub among_none : (scan : List ℕ) (levels : List ℤ) (size : ℕ) → nonzeros_among scan levels size (size - size) ≡ 0
unfolding nonzeros_among
among_none scan levels size =
    let none : size - size ≡ 0 = omega arith in
    rw none

pub among_first : (scan : List ℕ) (levels : List ℤ) (size k : ℕ) → k < size → nonzeros_among scan levels k (size - k) ≡ nz (level_at scan levels k) + nonzeros_among scan levels (k + 1) (size - (k + 1))
unfolding nonzeros_among
among_first scan levels size k h =
    let one : size - k ≡ suc (size - (k + 1)) = omega arith in
    rw (one, add-one)

-- one position nearer to the front
pub among-back : (scan : List ℕ) (levels : List ℤ) (size k count n : ℕ) → 0 < k → k ≤ size → count ≡ nonzeros_among scan levels k (size - k) → n ≡ nz (level_at scan levels (k - 1))
    → count + n ≡ nonzeros_among scan levels (k - 1) (size - (k - 1))
among-back scan levels size k count n some most e f =
    let again : k - 1 + 1 ≡ k = omega arith in
    let first = rw again at (among_first scan levels size (k - 1) (omega arith)) in
    omega (arith, first)
