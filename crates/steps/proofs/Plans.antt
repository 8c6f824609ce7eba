-- A plan goes by a block's shape, settings, bias and scale, and by no list. Assumes nothing.
use mathlib.Core.List.{List}
use Prim.Native.Nat.{ℕ}
use lib.IntN.{ℤ}
use lib.Ieee.{Float}
use Rattle.block.specs.Block.{Block, block_of, covered, context_of}
use Rattle.steps.specs.Plan.{Planned, PlannedParts, parts_of}
use Rattle.steps.specs.declared.plan.Plan.{Plan}

pub planned-lists : (b : Block) {p : Plan} → Planned b p → (scan : List ℕ) (source inverse : List Float) (levels : List ℤ) → Planned (block_of b.shape b.settings b.bias b.scale scan source inverse levels) p
unfolding covered context_of
planned-lists b w scan source inverse levels =
    record {
      covered_is = w.covered_is;
      covers = w.covers;
      base_is = w.base_is;
      offset_is = w.offset_is;
      count_is = w.count_is;
      scale_is = w.scale_is;
      distance_is = w.distance_is;
      far_is = w.far_is;
      bias_is = w.bias_is;
      lambda_is = w.lambda_is;
      restore_is = w.restore_is;
      source_is = w.source_is;
    }

-- what is said of a plan is said of its parts
pub planned-parts : (b : Block) {p : Plan} → Planned b p → PlannedParts b (parts_of p)
planned-parts b w =
    record {
      covered_is = w.covered_is;
      covers = w.covers;
      base_is = w.base_is;
      offset_is = w.offset_is;
      count_is = w.count_is;
      scale_is = w.scale_is;
      distance_is = w.distance_is;
      far_is = w.far_is;
      bias_is = w.bias_is;
      lambda_is = w.lambda_is;
      restore_is = w.restore_is;
      source_is = w.source_is;
    }
