-- What the shared steps ask of a block, from the checks that it passed. Assumes nothing.
use Prim.Native.Nat.{ℕ, ◌+◌, ◌*◌, ◌≤◌, ◌<◌}
use native.Mathlib.Omega.{arith}
use lib.ListN.{length, get_or}
use Rattle.ac_context.specs.Contexts.{Coefficient}
use Rattle.block.specs.Block.{Block, covered, input_at, ideal}
use Rattle.steps.specs.Plan.{Readable, Whole}
use Rattle.weights.specs.declared.Window.{Window}
use Rattle.block_checks.specs.Passed.{Passed}

module _ {v : Window} {b : Block} (P : Passed v b) where
  -- a scan position of the block
  module _ (k : ℕ) (h : k < 64 * covered b) where
    pub scan-has : k < length b.scan
    scan-has = omega (arith, P.scan_long)

    pub source-has : get_or b.scan k 0 < length b.source
    source-has = omega (arith, P.source_long, P.scanned.bound k h)

    pub inverse-has : get_or b.scan k 0 < length b.inverse
    inverse-has = omega (arith, P.inverse_long, P.scanned.bound k h)

    pub levels-has : get_or b.scan k 0 < length b.levels
    levels-has = omega (arith, P.levels_long, P.scanned.bound k h)

  in_block : (i : ℕ) → i < v.length → covered b + i < 64 * covered b
  in_block i h = omega (arith, P.window.fits)

  -- window position i
  pub readable : (i : ℕ) → i < v.length → Readable b.scan b.source b.inverse b.levels b.scale (covered b + i)
  unfolding ideal input_at
  readable i h =
      let k : ℕ = covered b + i in
      let l = in_block i h in
      record {
        scanned = scan-has k l;
        sourced = source-has k l;
        inverted = inverse-has k l;
        levelled = levels-has k l;
        ideal = P.ideals i h;
        level = P.current k (omega arith) l;
      }

  -- the levels from scan position `from` on
  pub whole : (from : ℕ) → covered b ≤ from → Whole (covered b) from b.scan b.levels
  unfolding input_at
  whole from h =
      let long = P.scan_long in
      record {
        size = long;
        within = λ k l. levels-has k (omega arith);
        level = λ k l m. P.current k (omega arith) (omega arith);
      }

  -- a coefficient context is defined where something remains, and no more than is left
  pub coefficient : (k remaining prev : ℕ) → covered b ≤ k → 1 ≤ remaining → remaining + k ≤ 64 * covered b → prev < 2 → Coefficient (covered b) remaining k prev
  coefficient k remaining prev l some fits flag = record { some = some; left = fits; coded = l; flag = flag }

  pub small-position : (i : ℕ) → i < v.length → covered b + i < 65536
  small-position i h = omega (arith, in_block i h, P.most)
