-- Every example holds, by computing it. Assumes nothing.
use mathlib.Core.Path.{◌≡◌, refl}
use mathlib.Core.Bool.{true, false, ◌&&◌}
use mathlib.Core.List.{map}
use lib.IntN.{pos}
use lib.ListN.{replicate}
use lib.Ieee.{eq, lt, sub, add, mul, div, neg, of_int, size, of_bits}
use Rattle.ac_context.specs.Contexts.{strategy_order, block_context_map, channel_row, block_context, fine_block_context, non_zero_bucket, fine_non_zero_context, fine_zero_density_contexts_offset, coeff_freq_context, coeff_num_nonzero_context, zero_density_context}
use Rattle.bias.specs.Level.{numerator0145, corrected, level_of, biased}
use Rattle.block.specs.Block.{covered, context_of, input_at, nonzeros_among, input_remaining, ideal_at, ideal, candidates_at}
use Rattle.block.specs.Cost.{distortion_of, distortion, rate, token_price, local_cost, tokens_from, tail_cost, first_prev, count_cost}
use Rattle.block.specs.Band.{input_after, position_at, positions_from, past_window, tail_of, fewest_count, most_count, problem_of}
use Rattle.candidates.specs.Candidates.{without, drop_repeats, abs, settled, kept_of, restored_of, candidates_of}
use Rattle.candidates.specs.Nearest.{nearest_of}
use Rattle.least_cost.specs.Position.{nz, within, allowed}
use Rattle.least_cost.specs.Choice.{remaining, in_band, cost_of}
use Rattle.least_cost.specs.Search.{count_of, whole_cost, least, holder, nonzeros, has_zero, trial, step, best, pick, walk, total, up_from, least_total, least_count, least_levels}
use Rattle.packing.specs.Hybrid.{top_bit, symbol_of, extra_bits_of}
use Rattle.packing.specs.Signed.{pack_signed}
use Rattle.prices.specs.Book.{symbol_at, cluster_symbol, cluster_extra, cluster_price, price}
use Rattle.scan.specs.Scan.{level_at}
use Rattle.weights.specs.Settings.{channel_scale, weight_at}
use Rattle.weights.specs.Weights.{clamp, chroma_weight, distortion_weight}
use Rattle.worked.specs.Cases.{answer_of, flat, apart, block_with, zeros}
use Rattle.worked.specs.Errors.{count_held, zero_first, best_zero, walk_zero, answer_zero, charged_cost, charged_from, always_charged, prev_zero, forward_from, forward_cost}
use Rattle.worked.specs.Rows.{computed, same_levels, differ, all_zero, ones, three_ones, outside, inside, long, rounded, falls_by_seven, falls_by_six, halves, nonzero_stays, zero_stays, three_tokens, lone, prev_one, prev_none, rows, computed_cost, differ_cost, left_out, first_local, four, three, three_long, fours_back, threes_back, fours_on, threes_on, cost_rows}

pub worked : map computed rows ≡ rows
unfolding rows computed answer_of least_total problem_of positions_from position_at
    lt sub add mul div neg of_int size of_bits
    strategy_order block_context_map channel_row block_context fine_block_context non_zero_bucket fine_non_zero_context fine_zero_density_contexts_offset coeff_freq_context coeff_num_nonzero_context zero_density_context
    numerator0145 corrected level_of biased
    covered context_of input_at nonzeros_among input_remaining ideal_at ideal candidates_at
    distortion_of distortion rate token_price local_cost tokens_from tail_cost first_prev count_cost
    input_after past_window tail_of fewest_count most_count
    without drop_repeats abs settled kept_of restored_of candidates_of nearest_of
    nz within allowed least holder nonzeros has_zero trial step best pick walk total up_from least_count least_levels
    top_bit symbol_of extra_bits_of pack_signed cluster_symbol cluster_extra symbol_at cluster_price price level_at channel_scale weight_at clamp chroma_weight distortion_weight
    flat apart block_with zeros count_held zero_first best_zero walk_zero answer_zero charged_cost charged_from always_charged prev_zero
    all_zero ones three_ones outside inside long rounded falls_by_seven falls_by_six halves nonzero_stays zero_stays three_tokens lone prev_one prev_none
worked = refl

pub worked-costs : map computed_cost cost_rows ≡ cost_rows
unfolding cost_rows computed_cost left_out four three fours_back threes_back fours_on threes_on three_long first_local whole_cost cost_of count_of remaining forward_from forward_cost
    problem_of positions_from position_at
    lt sub add mul div neg of_int size of_bits
    strategy_order block_context_map channel_row block_context fine_block_context non_zero_bucket fine_non_zero_context fine_zero_density_contexts_offset coeff_freq_context coeff_num_nonzero_context zero_density_context
    numerator0145 corrected level_of biased
    covered context_of input_at nonzeros_among input_remaining ideal_at ideal candidates_at
    distortion_of distortion rate token_price local_cost tokens_from tail_cost first_prev count_cost
    input_after past_window tail_of fewest_count most_count
    without drop_repeats abs settled kept_of restored_of candidates_of nearest_of
    nz within allowed least holder nonzeros has_zero trial step best pick walk total up_from least_count least_levels
    top_bit symbol_of extra_bits_of pack_signed cluster_symbol cluster_extra symbol_at cluster_price price level_at channel_scale weight_at clamp chroma_weight distortion_weight
    flat block_with ones three_ones long
worked-costs = refl

-- the errors give something else
pub errors-differ :
    differ falls_by_seven falls_by_six && differ nonzero_stays zero_stays && differ all_zero three_tokens && differ prev_one prev_none && differ_cost fours_back fours_on ≡ true
unfolding differ same_levels differ_cost falls_by_seven falls_by_six nonzero_stays zero_stays all_zero three_tokens prev_one prev_none fours_back fours_on eq of_int
errors-differ = refl

-- what `outside` leaves out is not in the band
pub not-in-band : in_band 0 (three_ones 1).positions (replicate 3 (pos 0)) ≡ false
unfolding in_band remaining within nz three_ones ones problem_of positions_from position_at input_after input_remaining nonzeros_among covered level_at block_with up_from
not-in-band = refl
