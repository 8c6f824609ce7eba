-- What document 01 says of tokens, rates, `prev` and counts, of the definitions: by computing them. Assumes nothing.
use Prim.Native.Nat.{ℕ, suc, ◌*◌}
use mathlib.Core.Path.{◌≡◌, refl}
use mathlib.Core.Bool.{true, false}
use mathlib.Core.List.{List, [], ◌∷◌, map}
use lib.IntN.{ℤ, pos}
use lib.ListN.{replicate}
use lib.Ieee.{Float, nan, fin, mul}
use Rattle.ac_context.specs.Contexts.{is_power_below}
use Rattle.laws.specs.Refusals.{first_refused}
use Rattle.least_cost.specs.Position.{nz}
use Rattle.least_cost.specs.Search.{up_from}
use Rattle.prices.specs.Book.{Book}
use Rattle.scan.specs.Scan.{level_at}
use Rattle.weights.specs.Window.{window_of}
use Rattle.block.specs.Block.{Block, block_of, covered, input_at, nonzeros_among, input_remaining}
use Rattle.block.specs.Checks.{check7, check8, check9, check18, strategy_covered, form_checks, block_refusal}
use Rattle.block.specs.Cost.{distortion, rate, local_cost, tokens_from, first_prev}
use Rattle.block.specs.Band.{half_width, input_after, position_at, past_window, fewest_count, most_count}

-- remaining 0 costs no token, in the window and past it
pub no-token : (book : Book) (b : Block) (i prev : ℕ) (q : ℤ) → local_cost book b i 0 prev q ≡ distortion b i q
unfolding local_cost
no-token book b i prev q = refl

pub no-token-past : (book : Book) (b : Block) (n k prev : ℕ) (sum : Float) → tokens_from book b (suc n) 0 k prev sum ≡ sum
unfolding tokens_from
no-token-past book b n k prev sum = refl

-- One covered block with the scan in the block's order and the given levels from scan position 1 on, all zero after them; lambda 3, penalty 5.
abbrev small : List ℤ → Block
small levels =
    block_of (record { cx = 1; cy = 1; strategy = 0; channel = 1; qf_hi = false; predicted = 0 })
    (record { channel_weight = nan; lambda = fin false 3 (pos 0); penalty = fin false 5 (pos 0); distance = nan })
    (record { one = nan; numerator = nan })
    nan
    (up_from 0 64)
    []
    []
    (pos 0 ∷ levels)

-- `prev` at the first position is 1 up to a count of 64/16
pub first-prev : map (first_prev (small [])) (0 ∷ 1 ∷ 4 ∷ 5 ∷ 63 ∷ []) ≡ 1 ∷ 1 ∷ 1 ∷ 0 ∷ 0 ∷ []
unfolding first_prev covered
first-prev = refl

-- lambda * penalty for a nonzero level where the input has 0, else lambda
pub rates-of-zero : map (rate (small []) 0) (pos 0 ∷ pos 1 ∷ []) ≡ fin false 3 (pos 0) ∷ fin false 15 (pos 0) ∷ []
unfolding rate input_at level_at covered nz up_from mul
rates-of-zero = refl

pub rates-of-one : map (rate (small (pos 1 ∷ [])) 0) (pos 0 ∷ pos 1 ∷ []) ≡ fin false 3 (pos 0) ∷ fin false 3 (pos 0) ∷ []
unfolding rate input_at level_at covered nz up_from mul
rates-of-one = refl

-- the whole count may differ by 7 from the input's: seven nonzero levels may all be dropped, and seven may come where all was 0
pub fewest : fewest_count half_width (window_of 1) (small (replicate 7 (pos 1))) ≡ 0
unfolding fewest_count past_window input_after input_remaining nonzeros_among level_at covered nz up_from window_of
fewest = refl

pub most : most_count half_width (window_of 1) (small []) ≡ 7
unfolding most_count past_window input_after input_remaining nonzeros_among level_at covered nz up_from window_of
most = refl

-- it is what follows a position that is held within 6
pub band-of-eight :
    map (λ i. (position_at half_width (window_of 1) (record { clusters = 0; map = []; configs = []; symbols = []; ready = [] }) (small (replicate 8 (pos 1))) i).low) (0 ∷ 1 ∷ 7 ∷ [])
    ≡ 1 ∷ 0 ∷ 0 ∷ []
unfolding position_at input_after input_remaining nonzeros_among level_at covered nz up_from
band-of-eight = refl

-- one block's numbers under a strategy code and sides; every list holds 64 times the product of the sides
abbrev shaped : ℕ → ℕ → ℕ → Block
shaped strategy cx cy =
    block_of (record { cx = cx; cy = cy; strategy = strategy; channel = 1; qf_hi = false; predicted = 0 })
    (small []).settings
    (small []).bias
    nan
    (replicate (64 * (cx * cy)) 0)
    (replicate (64 * (cx * cy)) nan)
    (replicate (64 * (cx * cy)) nan)
    (replicate (64 * (cx * cy)) (pos 0))

-- The sides' product must be the strategy's, whichever side is the longer; a code that the standard does not have is refused as such.
pub refused-sides : map (λ b. block_refusal 6 (window_of 1) b 0) (shaped 4 1 1 ∷ shaped 27 1 1 ∷ []) ≡ 18 ∷ 9 ∷ []
unfolding block_refusal form_checks first_refused check7 check8 check9 check18 strategy_covered covered is_power_below
refused-sides = refl

pub fitting-sides : map check18 (shaped 4 4 1 ∷ shaped 4 2 2 ∷ []) ≡ true ∷ true ∷ []
unfolding check18 strategy_covered covered
fitting-sides = refl
