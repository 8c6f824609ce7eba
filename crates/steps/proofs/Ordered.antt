-- Nonzero levels counted through the scan are those counted in the list's own order. Assumes nothing.
use mathlib.Core.Path.{◌≡◌, refl, sym, ◌∙◌}
use mathlib.Core.List.{List}
use Prim.Native.Nat.{ℕ, zero, suc, ◌+◌, ◌-◌, ◌≤◌}
use native.Mathlib.Nat.{add-zero, zero-add, suc-add, add-suc}
use native.Mathlib.Numerals.{add-one}
use native.Mathlib.Omega.{arith}
use lib.IntN.{ℤ, pos}
use lib.ListN.{length, get_or}
use Rattle.block.specs.Block.{nonzeros_among}
use Rattle.least_cost.specs.Position.{nz}
use Rattle.scan.specs.Scan.{level_at, sum_to, Perm}
use Rattle.scan.proofs.Order.{sum_through}

module _ (scan : List ℕ) (levels : List ℤ) where
  pub among-split : (k a b : ℕ) → nonzeros_among scan levels k (a + b) ≡ nonzeros_among scan levels k a + nonzeros_among scan levels (k + a) b
  unfolding nonzeros_among
  among-split k zero b = rw (zero-add, add-zero) (sym (zero-add _))
  among-split k (suc a) b =
      let rest = rw suc-add at (among-split (suc k) a b) in
      rw (suc-add, add-suc) (omega arith)

  among-sum : (n : ℕ) → nonzeros_among scan levels 0 n ≡ sum_to (λ k. nz (level_at scan levels k)) n
  unfolding nonzeros_among sum_to
  among-sum zero = refl
  among-sum (suc n) =
      let last = rw (add-one, zero-add n, add-zero) at (among-split 0 n 1) in
      omega (arith, last, among-sum n)

  -- all levels, whatever their order
  pub among-all : {n : ℕ} → Perm scan n → nonzeros_among scan levels 0 n ≡ sum_to (λ i. nz (get_or levels i (pos 0))) n
  unfolding level_at
  among-all {n} scanned = among-sum n ∙ sum_through scanned (λ i. nz (get_or levels i (pos 0)))

  -- so those from a position on are all less those in front
  pub among-rest : Perm scan (length levels) → (from : ℕ) → from ≤ length scan
      → sum_to (λ i. nz (get_or levels i (pos 0))) (length levels) ≡ nonzeros_among scan levels 0 (from - 0) + nonzeros_among scan levels from (length scan - from)
  among-rest scanned from h =
      let none : from - 0 ≡ from = omega arith in
      let whole : from + (length scan - from) ≡ length levels = omega (arith, scanned.size) in
      let parts = rw (whole, zero-add) at (among-split 0 from (length scan - from)) in
      rw none (sym (among-all scanned) ∙ parts)
