-- What the shared steps give.
use Rattle.std.specs.Prelude.{ℕ, ◌+◌, ◌≤◌, ◌<◌, ◌≡◌, true, List, ℤ, nat_abs, length, get_or}
use Rattle.ac_context.specs.Contexts.{Covered, Coefficient, zero_density_context}
use Rattle.block.specs.declared.Shape.{Shape}
use Rattle.least_cost.specs.Position.{nz}
use Rattle.packing.specs.Signed.{pack_signed}
use Rattle.packing.specs.Hybrid.{valid_config}
use Rattle.packing.specs.declared.HybridUintConfig.{HybridUintConfig}
use Rattle.packing.specs.declared.Split.{Split}
use Rattle.scan.specs.Scan.{level_at}
use Rattle.block_tokens.specs.Tokens.{Token, count_context, level_context, block_tokens, coded_levels}
use Rattle.block_tokens.specs.Code.{Code, split_exponent, msb_in_token, lsb_in_token, symbol_in, extra_in, bits_in}
use Rattle.block_tokens.specs.Passed.{Scanned}
use Rattle.token_steps.specs.Layout.{LaidOut}
use Rattle.token_steps.specs.declared.Step.{Step}
use Rattle.token_steps.specs.declared.coded.Coded.{Coded}
use Rattle.token_steps.specs.declared.layout.LayoutNumbers.{LayoutNumbers}

-- the levels from scan position c on, and the block's tokens
abbrev pub levels_in : Coded → List ℤ
levels_in d = coded_levels d.layout.shape d.scan.now d.levels.now

abbrev pub tokens_in : Coded → List Token
tokens_in d = block_tokens d.layout.shape (levels_in d)

-- the first token: the count's
abbrev pub count_token : Coded → Token
count_token d = record { context = count_context d.layout.shape; value = d.count }

-- the token of scan position k, where `left` nonzero levels stand from k on
abbrev pub level_token : Shape → List ℕ → List ℤ → ℕ → ℕ → ℕ → Token
level_token h scan levels k left prev = record { context = level_context h left k prev; value = pack_signed (level_at scan levels k) }

-- the four numbers of a shape's layout
abbrev pub Numbered : Shape → LayoutNumbers → Type 0
Numbered h p = LaidOut h p.covered p.log2 p.offset p.count_context

-- such numbers, a scan and levels, all of some shape
pub record Placed (p : LayoutNumbers) (scan : List ℕ) (levels : List ℤ) : Type 0 where
  pub shape : Shape
  pub laid : Numbered shape p
  pub scanned : Scanned shape scan levels

-- scan position k has a token, and its level can be read and packed
pub record HasToken (p : LayoutNumbers) (scan : List ℕ) (levels : List ℤ) (k left prev : ℕ) : Type 0 where
  pub covers : Covered p.covered p.log2
  pub offset_most : p.offset + 457 < 14850
  pub coefficient : Coefficient p.covered left k prev
  pub scanned : k < length scan
  pub within : get_or scan k 0 < length levels
  pub small : nat_abs (level_at scan levels k) ≤ 32768

-- its token
abbrev pub placed_token : LayoutNumbers → List ℕ → List ℤ → ℕ → ℕ → ℕ → Token
placed_token p scan levels k left prev = record { context = p.offset + zero_density_context p.covered left k prev; value = pack_signed (level_at scan levels k) }

-- the configuration of a context's cluster
pub record ConfigAt (x : Code) (at : ℕ) (r : HybridUintConfig) : Type 0 where
  pub split_exponent_is : r.split_exponent ≡ split_exponent x at
  pub msb_is : r.msb_in_token ≡ msb_in_token x at
  pub lsb_is : r.lsb_in_token ≡ lsb_in_token x at
  pub valid : valid_config r.split_exponent r.msb_in_token r.lsb_in_token ≡ true

-- the split of a token's value
pub record SplitIn (x : Code) (t : Token) (r : Split) : Type 0 where
  pub symbol_is : r.symbol ≡ symbol_in x t
  pub extra_is : r.extra_bits ≡ extra_in x t
  pub bits_are : r.bits ≡ bits_in x t

-- a level's token, written, and whether the level is nonzero
pub record StepAt (x : Code) (t : Token) (level : ℤ) (r : Step) : Type 0 where
  pub context_is : r.context ≡ t.context
  pub context_most : r.context < 14850
  pub symbol_is : r.symbol ≡ symbol_in x t
  pub extra_is : r.extra_bits ≡ extra_in x t
  pub bits_are : r.bits ≡ bits_in x t
  pub nonzero_is : r.nonzero ≡ nz level
