-- What is worked out once for a block, and what a search reads of it at one window position.
use Rattle.std.specs.Prelude.{ℕ, ◌+◌, ◌*◌, ◌≤◌, ◌<◌, ◌≡◌, List, ℤ, pos, length, get_or, take, T, Float}
use Rattle.std.specs.Float.{nan}
use Rattle.ac_context.specs.Contexts.{Covered, fine_non_zero_context, fine_zero_density_contexts_offset}
use Rattle.bias.specs.Level.{is_level}
use Rattle.block.specs.Block.{Block, covered, context_of, input_at, ideal, ideal_at, candidates_at}
use Rattle.candidates.specs.Candidates.{in_array, is_current}
use Rattle.candidates.specs.declared.Candidates.{Candidates}
use Rattle.candidates.specs.Nearest.{is_ideal}
use Rattle.scan.specs.Scan.{level_at}
use Rattle.weights.specs.Settings.{channel_scale, scaled_weight, restore_rate}
use Rattle.weights.specs.Window.{base_len}
use Rattle.weights.specs.declared.Window.{Window}
use Rattle.steps.specs.declared.reading.Offer.{Offer}
use Rattle.steps.specs.declared.plan.Plan.{Plan}
use Rattle.steps.specs.declared.plan.PlanParts.{PlanParts}

-- p is what a block's shape, settings, bias and scale give; its window is a choice of its own
pub record Planned (b : Block) (p : Plan) : Type 0 where
  pub covered_is : p.covered ≡ covered b
  pub covers : Covered p.covered p.log2
  pub base_is : p.base ≡ base_len (covered b)
  pub offset_is : p.offset ≡ fine_zero_density_contexts_offset (context_of b)
  pub count_is : p.count_context ≡ fine_non_zero_context b.shape.predicted (context_of b)
  pub scale_is : p.channel_scale ≡ channel_scale b.settings b.shape.channel
  pub distance_is : p.distance ≡ b.settings.distance
  pub far_is : p.far_weight ≡ scaled_weight p.channel_scale p.base p.base p.distance
  pub bias_is : p.bias ≡ b.bias
  pub lambda_is : p.lambda ≡ b.settings.lambda
  pub restore_is : p.restore_rate ≡ restore_rate b.settings
  pub source_is : p.scale ≡ b.scale

-- the same of parts by themselves
pub record PlannedParts (b : Block) (p : PlanParts) : Type 0 where
  pub covered_is : p.covered ≡ covered b
  pub covers : Covered p.covered p.log2
  pub base_is : p.base ≡ base_len (covered b)
  pub offset_is : p.offset ≡ fine_zero_density_contexts_offset (context_of b)
  pub count_is : p.count_context ≡ fine_non_zero_context b.shape.predicted (context_of b)
  pub scale_is : p.channel_scale ≡ channel_scale b.settings b.shape.channel
  pub distance_is : p.distance ≡ b.settings.distance
  pub far_is : p.far_weight ≡ scaled_weight p.channel_scale p.base p.base p.distance
  pub bias_is : p.bias ≡ b.bias
  pub lambda_is : p.lambda ≡ b.settings.lambda
  pub restore_is : p.restore_rate ≡ restore_rate b.settings
  pub source_is : p.scale ≡ b.scale

-- a plan's parts
abbrev pub parts_of : Plan → PlanParts
parts_of p =
    record {
      covered = p.covered;
      log2 = p.log2;
      window = p.window;
      base = p.base;
      offset = p.offset;
      count_context = p.count_context;
      channel_scale = p.channel_scale;
      distance = p.distance;
      far_weight = p.far_weight;
      bias = p.bias;
      lambda = p.lambda;
      restore_rate = p.restore_rate;
      scale = p.scale;
    }

-- these are the lists of a block
pub record Lists (b : Block) (scan : List ℕ) (source inverse : List Float) (levels : List ℤ) : Type 0 where
  pub scan_is : scan ≡ b.scan
  pub source_is : source ≡ b.source
  pub inverse_is : inverse ≡ b.inverse
  pub levels_is : levels ≡ b.levels

-- scan position k can be read, and what stands there is within the leaves' domains
pub record Readable (scan : List ℕ) (source inverse : List Float) (levels : List ℤ) (scale : Float) (k : ℕ) : Type 0 where
  pub scanned : k < length scan
  pub sourced : get_or scan k 0 < length source
  pub inverted : get_or scan k 0 < length inverse
  pub levelled : get_or scan k 0 < length levels
  pub ideal : T (is_ideal (ideal_at scan source inverse scale k))
  pub level : T (is_current (level_at scan levels k))

-- the levels that are listed
abbrev pub listed : Candidates → List ℤ
listed c = take c.count c.levels

-- at most five candidates, each within the levels that have a bias
pub record Usable (c : Candidates) : Type 0 where
  pub few : c.count ≤ 5
  pub five : length c.levels ≡ 5
  pub levels : (j : ℕ) → j < c.count → T (is_level (get_or c.levels j (pos 0)))

-- what a search may pick at a position: at most five levels, each of which has a bias
pub record Pickable (levels : List ℤ) : Type 0 where
  pub few : length levels ≤ 5
  pub level : (j : ℕ) → j < length levels → T (is_level (get_or levels j (pos 0)))

-- costs holds what g gives for each level
pub record Each (g : ℤ → Float) (levels : List ℤ) (costs : List Float) : Type 0 where
  pub at : (j : ℕ) → j < length levels → get_or costs j nan ≡ g (get_or levels j (pos 0))

-- what position i of the window v of a block offers, the candidates standing in an array
pub record Offered (v : Window) (b : Block) (i : ℕ) (o : Offer) (levels : List ℤ) : Type 0 where
  pub ideal_is : o.ideal ≡ ideal b i
  pub listed_is : listed (in_array o.count levels) ≡ candidates_at v b i
  pub level_is : o.level ≡ input_at b (covered b + i)

-- the levels of a whole block can be read through its scan, and from scan position `from` on each is within ±32,767
pub record Whole (c from : ℕ) (scan : List ℕ) (levels : List ℤ) : Type 0 where
  pub size : length scan ≡ 64 * c
  pub within : (k : ℕ) → k < length scan → get_or scan k 0 < length levels
  pub level : (k : ℕ) → from ≤ k → k < length scan → T (is_current (level_at scan levels k))
