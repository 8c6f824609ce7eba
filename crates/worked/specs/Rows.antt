-- The examples. A row states what a reading of document 01 answers to a problem. Definitions only.
use Rattle.std.specs.Prelude.{ℕ, Bool, true, false, not, ◌&&◌, List, [], ◌∷◌, ◌++◌, eqb, ℤ, pos, negsuc, get_or, replicate, Float}
use Rattle.std.specs.Float.{fin}
use Rattle.std.specs.Float.Ieee.{eq}
use Rattle.block.specs.Block.{Block}
use Rattle.block.specs.Cost.{local_cost}
use Rattle.block.specs.Band.{problem_of, half_width}
use Rattle.candidates.specs.Candidates.{eq_z}
use Rattle.least_cost.specs.Search.{Problem, whole_cost}
use Rattle.worked.specs.Cases.{Answer, answered, answer_of, whole, quarter, half, window, flat, apart, block_with, zeros}
use Rattle.worked.specs.Errors.{count_held, answer_zero, always_charged, prev_zero, forward_cost}

pub data Row : Type 0 where
  row : (reading : Problem → Answer) (p : Problem) (a : Answer) → Row

-- The row with what the reading gives. A row holds where that changes nothing.
unfoldable pub computed : Row → Row
computed (row f p a) = row f p (f p)

-- two rows state different answers
unfoldable pub same_levels : List ℤ → List ℤ → Bool
same_levels [] [] = true
same_levels [] (d ∷ ds) = false
same_levels (c ∷ cs) [] = false
same_levels (c ∷ cs) (d ∷ ds) = eq_z c d && same_levels cs ds

unfoldable pub differ : Row → Row → Bool
differ (row f p a) (row g q b) = not (eq a.cost b.cost && eqb a.count b.count && same_levels a.levels b.levels)

-- Document 01: one block, all zero, ideals zero, every symbol price 1, split 4,2,0. The cost is lambda, here 3. (A window of 3; `Zeros` has document 01's.)
unfoldable pub all_zero : Row
all_zero = row answer_of (problem_of half_width (window 3 2) (flat (whole 1)) zeros) (answered (whole 3) 0 (pos 0 ∷ pos 0 ∷ pos 0 ∷ []))

-- The band: three levels of 1 where the ideals are 0. Zeros are the cheapest, but with half-width 1 a nonzero level has to follow the first position.
unfoldable pub ones : ℕ → Block
ones n = block_with (whole 3) [] (replicate n (pos 1))

unfoldable pub three_ones : ℕ → Problem
three_ones w = problem_of w (window 3 0) (flat (whole 1)) (ones 3)

unfoldable pub outside : Row
outside = row answer_of (three_ones 1) (answered (whole 10) 1 (pos 0 ∷ pos 1 ∷ pos 0 ∷ []))

unfoldable pub inside : Row
inside = row answer_of (three_ones 2) (answered (whole 3) 0 (pos 0 ∷ pos 0 ∷ pos 0 ∷ []))

-- Rounding: a level of 4 and an ideal of 3 before 32 tokens at 2^20. The local cost of 3 is below that of 4, the sums with the tail are equal, and 4 stays.
unfoldable pub long : ℕ → Block
long n = block_with (fin false 1 (pos 20)) (replicate n (whole 3)) (replicate n (pos 4) ++ replicate 32 (pos 1))

unfoldable pub rounded : Row
rounded = row answer_of (problem_of half_width (window 1 0) (flat (whole 1)) (long 1)) (answered (fin false 37 (pos 20)) 33 (pos 4 ∷ []))

-- ---- Document 01's plausible errors, but summing forward: first what is right, then what the error gives

-- Holding the whole count within 6. Seven levels of 1 where the ideals are 0: all may be dropped.
unfoldable pub falls_by_seven : Row
falls_by_seven = row answer_of (problem_of half_width (window 7 0) (flat (whole 1)) (ones 7)) (answered (whole 3) 0 (replicate 7 (pos 0)))

unfoldable pub falls_by_six : Row
falls_by_six = row answer_of (count_held half_width (window 7 0) (flat (whole 1)) (ones 7)) (answered (whole 7) 1 (pos 1 ∷ replicate 6 (pos 0)))

-- Letting zero win a tie. Two levels of 1 with ideals of 1/2 before a third, 2 being the cheapest count: which of the first two stays makes no difference in cost.
unfoldable pub halves : Problem
halves =
    problem_of half_width (window 2 0) (apart (1 ∷ []) (whole 1) (whole 8 ∷ whole 8 ∷ whole 0 ∷ replicate 125 (whole 8)))
    (block_with (whole 3) (half ∷ half ∷ []) (pos 1 ∷ pos 1 ∷ pos 1 ∷ []))

unfoldable pub nonzero_stays : Row
nonzero_stays = row answer_of halves (answered (fin false 19 (negsuc 0)) 2 (pos 1 ∷ pos 0 ∷ []))

unfoldable pub zero_stays : Row
zero_stays = row answer_zero halves (answered (fin false 19 (negsuc 0)) 2 (pos 0 ∷ pos 1 ∷ []))

-- Charging a token when nothing remains. All zero again (`all_zero` is right): three tokens at 3 too many.
unfoldable pub three_tokens : Row
three_tokens = row answer_of (always_charged half_width (window 3 2) (flat (whole 1)) zeros) (answered (whole 12) 0 (pos 0 ∷ pos 0 ∷ pos 0 ∷ []))

-- Taking `prev` as 0 at the first position. A level of 1 with an ideal of 1: its token costs 1 with `prev` 1, 1/4 with 0, so that it is dropped, and would be kept.
unfoldable pub lone : Problem
lone =
    problem_of half_width (window 1 0) (apart (replicate 1111 0 ++ (1 ∷ [])) quarter (replicate 128 (whole 1)))
    (block_with (whole 3) (whole 1 ∷ []) (pos 1 ∷ []))

unfoldable pub prev_one : Row
prev_one = row answer_of lone (answered (fin false 7 (negsuc 1)) 0 (pos 0 ∷ []))

unfoldable pub prev_none : Row
prev_none = row answer_of (prev_zero lone) (answered (fin false 3 (negsuc 0)) 1 (pos 1 ∷ []))

unfoldable pub rows : List Row
rows =
    all_zero ∷ outside ∷ inside ∷ rounded ∷ falls_by_seven ∷ falls_by_six ∷ nonzero_stays ∷ zero_stays ∷ three_tokens ∷ prev_one ∷ prev_none ∷ []

-- ---- costs of single choices, in rows of their own: a reading of the cost, a choice, and what is stated

pub data CostRow : Type 0 where
  costs : (reading : List ℤ → Float) (levels : List ℤ) (x : Float) → CostRow

unfoldable pub computed_cost : CostRow → CostRow
computed_cost (costs f levels x) = costs f levels (f levels)

unfoldable pub differ_cost : CostRow → CostRow → Bool
differ_cost (costs f c x) (costs g d y) = not (eq x y)

-- The choice that the band leaves out in `outside`.
unfoldable pub left_out : CostRow
left_out = costs (whole_cost (three_ones 1)) (replicate 3 (pos 0)) (whole 3)

-- The local costs of 4 and 3 in `rounded`, where 33 remain: 2^20 + 7/8 and 2^20.
unfoldable pub first_local : List ℤ → Float
first_local levels = local_cost (flat (whole 1)) (long 1) 0 33 0 (get_or levels 0 (pos 0))

unfoldable pub four : CostRow
four = costs first_local (pos 4 ∷ []) (fin false 8388615 (negsuc 2))

unfoldable pub three : CostRow
three = costs first_local (pos 3 ∷ []) (fin false 1 (pos 20))

-- Summing the window forward. Three levels of 4 with ideals of 3 before 32 tokens at 2^20: from the end back, each local cost's fraction is lost in the tail, and fours cost
-- what threes do; from the front on, the fractions add up to 4 more.
unfoldable pub three_long : Problem
three_long = problem_of half_width (window 3 0) (flat (whole 1)) (long 3)

unfoldable pub fours_back : CostRow
fours_back = costs (whole_cost three_long) (replicate 3 (pos 4)) (fin false 39 (pos 20))

unfoldable pub threes_back : CostRow
threes_back = costs (whole_cost three_long) (replicate 3 (pos 3)) (fin false 39 (pos 20))

unfoldable pub fours_on : CostRow
fours_on = costs (forward_cost three_long) (replicate 3 (pos 4)) (fin false 10223617 (pos 2))

unfoldable pub threes_on : CostRow
threes_on = costs (forward_cost three_long) (replicate 3 (pos 3)) (fin false 39 (pos 20))

unfoldable pub cost_rows : List CostRow
cost_rows = left_out ∷ four ∷ three ∷ fours_back ∷ threes_back ∷ fours_on ∷ threes_on ∷ []
