-- Document 01's all-zero block with its own window and half-width, ideals zero, split 4,2,0. Every symbol price 1: the levels stay 0, the count is 0, and the cost is
-- lambda. Every price +infinity: refusal 15 is due. From the theorems of least cost, for there are too many choices to compute. Assumes nothing.
use Prim.Native.Nat.{ℕ, zero, suc, ◌+◌, ◌<◌}
use mathlib.Core.Path.{◌≡◌, refl, ap, ◌∙◌, subst, subst⁻¹}
use mathlib.Core.Bool.{true, ◌&&◌}
use mathlib.Core.List.{List, [], ◌∷◌}
use native.Mathlib.Omega.{arith}
use lib.Dec.{T, ltb, leb, eqb, lit≤}
use lib.IntN.{ℤ, pos, negsuc}
use lib.ListN.{length, get_or, replicate, length-replicate, get_or-replicate}
use lib.Ieee.Fits.{add-fits}
use lib.Ieee.Scale.{finite}
use lib.Ieee.{Float, le, eq, lt, sub, add, mul, div, neg, of_int, size, of_bits, to_bits, fits, binary32}
use Rattle.ac_context.specs.Contexts.{is_power_below, strategy_order, block_context_map, channel_row, block_context, fine_block_context, non_zero_bucket, fine_non_zero_context, fine_zero_density_contexts_offset, coeff_freq_context, coeff_num_nonzero_context, zero_density_context}
use Rattle.bias.specs.Level.{numerator0145, corrected, level_of, biased, valid_bias}
use Rattle.block.specs.Block.{covered, context_of, input_at, nonzeros_among, input_remaining, ideal_at, ideal, candidates_at, input_from}
use Rattle.block.specs.Cost.{distortion_of, distortion, rate, token_price, local_cost, tokens_from, tail_cost, first_prev, count_cost}
use Rattle.block.specs.Band.{input_after, position_at, positions_from, past_window, tail_of, fewest_count, most_count, problem_of, half_width}
use Rattle.candidates.specs.Candidates.{without, drop_repeats, abs, settled, kept_of, restored_of, candidates_of}
use Rattle.candidates.specs.Nearest.{nearest_of, is_ideal}
use Rattle.least_cost.specs.Choice.{remaining, cost_of}
use Rattle.least_cost.specs.Position.{nz, within, allowed}
use Rattle.least_cost.specs.Search.{Problem, count_of, whole_cost, least, holder, nonzeros, has_zero, trial, step, best, pick, walk, total, up_from, least_total, least_count, least_levels, Banded}
use Rattle.packing.specs.Hybrid.{top_bit, symbol_of, extra_bits_of, valid_config}
use Rattle.packing.specs.Signed.{pack_signed}
use Rattle.prices.specs.Book.{Book, symbol_at, cluster_symbol, cluster_extra, cluster_price, price, cluster_valid}
use Rattle.scan.specs.Scan as Scan
use Rattle.scan.specs.Scan.{once_below, each_once, level_at}
use Rattle.weights.specs.Settings.{is_distance, valid_settings, channel_scale, weight_at}
use Rattle.weights.specs.Weights.{clamp, chroma_weight, distortion_weight}
use Rattle.laws.specs.Refusals.{first_refused}
use Rattle.block.specs.Checks.{form_checks, content_checks, strategy_covered, check7, check8, check9, check18, check10, check11, check12, check13, valid_width, block_refusal}
use Rattle.prices.specs.Checks.{each, symbol_price, same_bits, check1, check2, map_below, check3, check4, all_priced, check5, row_kept, check6, first_five, first_two, book_refusal}
use Rattle.prices.proofs.Each.{each_all}
use Rattle.block_checks.specs.Passed.{Passed}
use Rattle.block_checks.proofs.Laws.{passed}
use Rattle.costs.specs.Cost.{cost}
use Rattle.costs.proofs.Order.{le-finite, lt→not-le, le_antisymm}
use Rattle.costs.proofs.Sum.{add-comm-cost, add-inf, le-add}
use Rattle.least_cost.proofs.Whole.{Sound, Answer, least_total-cost, whole-infinite}
use Rattle.least_cost.proofs.Best.{choice-cost}
use Rattle.problem.proofs.Problem.{sound}
use Rattle.problem.proofs.Main as Least
use Rattle.problem.specs.Tokens.{needs_infinite}
use Rattle.weights.specs.Window.{window_of}
use Rattle.weights.specs.declared.Window.{Window}
use Rattle.weights.proofs.Lengths.{whole-window}
use Rattle.worked.specs.Cases.{whole, never, checked, zeros, block_with}

-- ---- the book passes checks 1 to 6

passes : (b : Book) → check1 b ≡ true → check2 b ≡ true → check3 b ≡ true → check4 b ≡ true → check5 b ≡ true → check6 b ≡ true → book_refusal b ≡ 0
unfolding book_refusal first_five first_two
passes b c1 c2 c3 c4 c5 c6 = rw (c1, c2, c3, c4, c5, c6)

one-cluster : (n : ℕ) → map_below 1 (replicate n 0) ≡ true
unfolding map_below
one-cluster n =
    each_all (λ i. ltb (get_or (replicate n 0) i 0) 1) (length (replicate n 0))
    (λ i h. ap (λ (k : ℕ). ltb k 1) (get_or-replicate n i 0 0 (subst (λ (m : ℕ). i < m) (length-replicate n 0) h)))

first-check : (x : Float) → check1 (checked x) ≡ true
unfolding check1 checked
first-check x = ap (λ (n : ℕ). eqb n 14850 && leb 1 1 && leb 1 256) (length-replicate {A = ℕ} 14850 0)

pub priced-one : book_refusal (checked (whole 1)) ≡ 0
unfolding checked check2 check3 check4 check5 check6 each all_priced symbol_price row_kept same_bits cluster_valid valid_config up_from symbol_at cluster_price cluster_symbol cluster_extra symbol_of extra_bits_of top_bit size of_int add le lt eq to_bits
priced-one = passes (checked (whole 1)) (first-check (whole 1)) refl (one-cluster 14850) refl refl refl

pub priced-never : book_refusal (checked never) ≡ 0
unfolding checked check2 check3 check4 check5 check6 each all_priced symbol_price row_kept same_bits cluster_valid valid_config up_from symbol_at cluster_price cluster_symbol cluster_extra symbol_of extra_bits_of top_bit size of_int add le lt eq to_bits
priced-never = passes (checked never) (first-check never) refl (one-cluster 14850) refl refl refl

-- ---- the block passes its checks

zeros-pass : block_refusal half_width (window_of (covered zeros)) zeros 0 ≡ 0
unfolding block_refusal form_checks content_checks valid_width first_refused strategy_covered check7 check8 check9 check18 check10 check11 check12 check13 each is_power_below valid_settings is_distance valid_bias each_once once_below Scan.count_of is_ideal
    input_at ideal ideal_at covered level_at zeros block_with up_from window_of numerator0145 of_bits of_int le lt eq mul
zeros-pass = refl

zeros-passed : Passed (window_of (covered zeros)) zeros
zeros-passed =
    subst (λ (v : Window). block_refusal half_width v zeros 0 ≡ 0 → Passed v zeros) (whole-window (covered zeros)) (passed half_width 1024 zeros (lit≤ tt)) zeros-pass

-- the problem, every symbol at price x
abbrev pub problem_at : Float → Problem
problem_at x = problem_of half_width (window_of (covered zeros)) (checked x) zeros

abbrev pub problem : Problem
problem = problem_at (whole 1)

zeros-sound : Sound problem
zeros-sound = sound (checked (whole 1)) priced-one (window_of (covered zeros)) zeros zeros-passed half_width

-- ---- what is computed

-- the counts from 0 to 7 are tried, and no nonzero level follows the window
tried : (x : Float) → (problem_at x).fewest + (problem_at x).width ≡ 8
unfolding problem_of fewest_count most_count past_window input_after input_remaining nonzeros_among level_at covered nz up_from window_of zeros block_with
tried x = refl

none-past : problem.tail.count ≡ 0
unfolding problem_of tail_of past_window input_remaining nonzeros_among level_at covered nz up_from window_of zeros block_with
none-past = refl

-- the token of each of these counts costs lambda
count-cost : (n : ℕ) → n < 8 → problem.count_cost n ≡ whole 3
unfolding problem_of count_cost price symbol_at cluster_price cluster_symbol cluster_extra symbol_of extra_bits_of top_bit size context_of fine_block_context block_context channel_row block_context_map strategy_order fine_non_zero_context non_zero_bucket checked zeros block_with up_from add mul of_int
count-cost zero h = refl
count-cost (suc zero) h = refl
count-cost (suc (suc zero)) h = refl
count-cost (suc (suc (suc zero))) h = refl
count-cost (suc (suc (suc (suc zero)))) h = refl
count-cost (suc (suc (suc (suc (suc zero))))) h = refl
count-cost (suc (suc (suc (suc (suc (suc zero)))))) h = refl
count-cost (suc (suc (suc (suc (suc (suc (suc zero))))))) h = refl
count-cost (suc (suc (suc (suc (suc (suc (suc (suc n)))))))) h = absurd (omega arith)

-- the levels as they are: none is nonzero, and they cost lambda
abbrev input : List ℤ
input = input_from zeros (covered zeros) (window_of (covered zeros)).length

input-count : count_of problem input ≡ 0
unfolding problem_of tail_of past_window input_remaining nonzeros_among level_at covered nz up_from window_of zeros block_with input_from input_at count_of remaining
input-count = refl

input-cost : whole_cost problem input ≡ whole 3
unfolding whole_cost cost_of count_of remaining input_from problem_of positions_from position_at window_of
    lt sub add mul div neg of_int size of_bits
    strategy_order block_context_map channel_row block_context fine_block_context non_zero_bucket fine_non_zero_context fine_zero_density_contexts_offset coeff_freq_context coeff_num_nonzero_context zero_density_context
    numerator0145 corrected level_of biased
    covered context_of input_at nonzeros_among input_remaining ideal_at ideal candidates_at
    distortion_of distortion rate token_price local_cost tokens_from tail_cost first_prev count_cost
    input_after past_window tail_of fewest_count most_count
    without drop_repeats abs settled kept_of restored_of candidates_of nearest_of
    nz within allowed least holder nonzeros has_zero trial step best pick walk total up_from least_count least_levels
    top_bit symbol_of extra_bits_of pack_signed cluster_symbol cluster_extra symbol_at cluster_price price level_at channel_scale weight_at clamp chroma_weight distortion_weight
    checked zeros block_with
input-cost = refl

-- ---- what the theorems of least cost give

three-cost : T (cost (whole 3))
unfolding cost of_int
three-cost = tt

three-finite : T (finite (whole 3))
unfolding of_int
three-finite = tt

three-fits : T (fits binary32 (whole 3))
unfolding fits of_int
three-fits = tt

input-banded : Banded problem input
input-banded = Least.input-in-band half_width (window_of (covered zeros)) (checked (whole 1)) priced-one zeros zeros-passed

at_most : T (le (least_total problem) (whole 3))
at_most =
    subst (λ (x : Float). T (le (least_total problem) x)) input-cost
    (Least.none-cheaper half_width (window_of (covered zeros)) (checked (whole 1)) priced-one zeros zeros-passed input input-banded)

answer : Answer problem
answer =
    Least.found half_width (window_of (covered zeros)) (checked (whole 1)) priced-one zeros zeros-passed
    (le-finite (least_total problem) (whole 3) (least_total-cost problem zeros-sound) three-cost at_most three-finite)

count-below : count_of problem (least_levels problem) < 8
count-below = subst (λ (k : ℕ). count_of problem (least_levels problem) < k) (tried (whole 1)) (zeros-sound.covers (least_levels problem) answer.banded).under

-- whatever the levels cost, with the count's token it is lambda at least
with-count : (x y : Float) → T (cost x) → y ≡ whole 3 → T (le (whole 3) (add binary32 x y))
with-count x y h e =
    subst⁻¹ (λ (z : Float). T (le (whole 3) (add binary32 x z))) e
    (subst (λ (z : Float). T (le (whole 3) z)) (add-comm-cost binary32 (whole 3) x three-cost h) (le-add binary32 (whole 3) x three-cost h three-fits))

at_least : T (le (whole 3) (least_total problem))
unfolding whole_cost
at_least =
    let cs = least_levels problem in
    let n = count_of problem cs in
    subst (λ (x : Float). T (le (whole 3) x)) answer.costs
    (with-count (cost_of problem.tail problem.positions (problem.first_prev n) cs) (problem.count_cost n)
    (choice-cost problem.tail (problem.first_prev n) zeros-sound.priced (zeros-sound.firsts n) answer.banded.choice answer.banded.band) (count-cost n count-below))

total-fits : T (fits binary32 (least_total problem))
unfolding whole_cost
total-fits = subst (λ (x : Float). T (fits binary32 x)) answer.costs (add-fits binary32 _ _)

-- ---- the answer

pub cost-is-lambda : least_total problem ≡ zeros.settings.lambda
unfolding zeros block_with
cost-is-lambda = le_antisymm binary32 (least_total problem) (whole 3) (least_total-cost problem zeros-sound) three-cost total-fits three-fits at_most at_least

pub count-is-none : least_count problem ≡ 0
count-is-none = go (least_count problem) refl
  where
    go : (n : ℕ) → least_count problem ≡ n → least_count problem ≡ 0
    go zero e = e
    go (suc n) e =
        let fewer : count_of problem input < least_count problem = subst⁻¹ (λ (k : ℕ). k < least_count problem) input-count (omega (arith, e)) in
        absurd (lt→not-le (least_total problem) (whole 3) (least_total-cost problem zeros-sound) three-cost
        (subst (λ (x : Float). T (lt (least_total problem) x)) input-cost (answer.smallest input input-banded fewer)) at_least)

-- levels of which none is nonzero
all-zero : (cs : List ℤ) → remaining 0 cs ≡ 0 → (i : ℕ) → get_or cs i (pos 0) ≡ pos 0
unfolding remaining nz
all-zero [] e i = refl
all-zero (pos zero ∷ cs) e zero = refl
all-zero (pos zero ∷ cs) e (suc i) = all-zero cs (omega (arith, e)) i
all-zero (pos (suc n) ∷ cs) e i = absurd (omega (arith, e))
all-zero (negsuc n ∷ cs) e i = absurd (omega (arith, e))

pub levels-are-zero : (i : ℕ) → get_or (least_levels problem) i (pos 0) ≡ pos 0
unfolding count_of
levels-are-zero =
    all-zero (least_levels problem) (subst (λ (s : ℕ). remaining s (least_levels problem) ≡ 0) none-past (answer.count ∙ count-is-none))

-- ---- Every price +infinity: so is the least cost, and each choice in the band needs a token of infinite price.

never-sound : Sound (problem_at never)
never-sound = sound (checked never) priced-never (window_of (covered zeros)) zeros zeros-passed half_width

count-infinite : (n : ℕ) → n < 8 → (problem_at never).count_cost n ≡ never
unfolding problem_of count_cost price symbol_at cluster_price cluster_symbol cluster_extra symbol_of extra_bits_of top_bit size context_of fine_block_context block_context channel_row block_context_map strategy_order fine_non_zero_context non_zero_bucket checked zeros block_with up_from add mul of_int
count-infinite zero h = refl
count-infinite (suc zero) h = refl
count-infinite (suc (suc zero)) h = refl
count-infinite (suc (suc (suc zero))) h = refl
count-infinite (suc (suc (suc (suc zero)))) h = refl
count-infinite (suc (suc (suc (suc (suc zero))))) h = refl
count-infinite (suc (suc (suc (suc (suc (suc zero)))))) h = refl
count-infinite (suc (suc (suc (suc (suc (suc (suc zero))))))) h = refl
count-infinite (suc (suc (suc (suc (suc (suc (suc (suc n)))))))) h = absurd (omega arith)

choice-infinite : (cs : List ℤ) → Banded (problem_at never) cs → whole_cost (problem_at never) cs ≡ never
unfolding whole_cost
choice-infinite cs B =
    let p = problem_at never in
    let n = count_of p cs in
    let below : n < 8 = subst (λ (k : ℕ). n < k) (tried never) (never-sound.covers cs B).under in
    let rest = choice-cost p.tail (p.first_prev n) never-sound.priced (never-sound.firsts n) B.choice B.band in
    ap (λ (x : Float). add binary32 (cost_of p.tail p.positions (p.first_prev n) cs) x) (count-infinite n below)
    ∙ add-inf binary32 (cost_of p.tail p.positions (p.first_prev n) cs) rest

pub cost-is-infinite : least_total (problem_at never) ≡ never
cost-is-infinite = (whole-infinite (problem_at never) never-sound).1 choice-infinite

pub each-needs-infinite : (cs : List ℤ) → Banded (problem_at never) cs → T (needs_infinite (window_of (covered zeros)) (checked never) zeros cs)
each-needs-infinite =
    (Least.each-needs-infinite half_width (window_of (covered zeros)) (checked never) priced-never zeros zeros-passed).0 cost-is-infinite
