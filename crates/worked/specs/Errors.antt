-- Five plausible errors in reading document 01 (its "Plausible errors to exclude"), each as the definition would be with it. Definitions only.
use Rattle.std.specs.Prelude.{ℕ, suc, ◌+◌, ◌-◌, max, min, false, cond, List, [], ◌∷◌, ◌++◌, eqb, ℤ, pos, Float}
use Rattle.std.specs.Float.{inf, binary32}
use Rattle.std.specs.Float.Ieee.{add, mul}
use Rattle.block.specs.Block.{Block, covered, input_remaining}
use Rattle.block.specs.Cost.{distortion, rate, token_price}
use Rattle.block.specs.Band.{past_window, problem_of}
use Rattle.least_cost.specs.Position.{Position, Tail, nz}
use Rattle.least_cost.specs.Choice.{remaining}
use Rattle.least_cost.specs.Search.{Problem, least, holder, nonzeros, has_zero, step, up_from, count_of}
use Rattle.prices.specs.Book.{Book}
use Rattle.weights.specs.declared.Window.{Window}
use Rattle.worked.specs.Cases.{Answer, answered, whole}

-- the whole count is held within the half-width
unfoldable pub count_held : ℕ → Window → Book → Block → Problem
count_held w v book b =
    let p = problem_of w v book b in
    let input = input_remaining b (covered b) in
    let fewest = max (past_window v b) (input - w) in
    record {
      positions = p.positions;
      tail = p.tail;
      first_prev = p.first_prev;
      count_cost = p.count_cost;
      fewest = fewest;
      width = suc (min (past_window v b + v.length) (input + w)) - fewest;
    }

-- zero wins a tie: it is tried first
unfoldable pub zero_first : List ℤ → List ℤ
zero_first cs = cond (has_zero cs) (pos 0 ∷ []) [] ++ nonzeros cs

unfoldable pub best_zero : Tail → List Position → ℕ → ℕ → Float
best_zero t [] r p = cond (eqb r t.count) (t.cost p) (inf false)
best_zero t (q ∷ qs) r p = least (step q r p (best_zero t qs)) (inf false) (zero_first q.candidates)

unfoldable pub walk_zero : Tail → List Position → ℕ → ℕ → List ℤ
walk_zero t [] r p = []
walk_zero t (q ∷ qs) r p =
    let c = holder (step q r p (best_zero t qs)) (inf false) (pos 0) (zero_first q.candidates) in
    c ∷ walk_zero t qs (r - nz c) (nz c)

unfoldable pub answer_zero : Problem → Answer
answer_zero w =
    let total : ℕ → Float = λ n. add binary32 (best_zero w.tail w.positions n (w.first_prev n)) (w.count_cost n) in
    let counts = up_from w.fewest w.width in
    let n = holder total (inf false) w.fewest counts in
    answered (least total (inf false) counts) n (walk_zero w.tail w.positions n (w.first_prev n))

-- a token is charged where nothing remains
unfoldable pub charged_cost : Book → Block → ℕ → ℕ → ℕ → ℤ → Float
charged_cost book b i remaining prev q =
    add binary32 (distortion b i q) (mul binary32 (rate b i q) (token_price book b remaining (covered b + i) prev q))

unfoldable pub charged_from : Book → Block → ℕ → List Position → List Position
charged_from book b i [] = []
charged_from book b i (q ∷ qs) =
    record { candidates = q.candidates; low = q.low; high = q.high; price = charged_cost book b i } ∷ charged_from book b (suc i) qs

unfoldable pub always_charged : ℕ → Window → Book → Block → Problem
always_charged w v book b =
    let p = problem_of w v book b in
    record {
      positions = charged_from book b 0 p.positions;
      tail = p.tail;
      first_prev = p.first_prev;
      count_cost = p.count_cost;
      fewest = p.fewest;
      width = p.width;
    }

-- `prev` is 0 at the first position
unfoldable pub prev_zero : Problem → Problem
prev_zero p =
    record {
      positions = p.positions;
      tail = p.tail;
      first_prev = λ n. 0;
      count_cost = p.count_cost;
      fewest = p.fewest;
      width = p.width;
    }

-- the window is summed forward: the local costs from the first position on, the tail last
unfoldable pub forward_from : Tail → Float → List Position → ℕ → List ℤ → Float
forward_from t sum [] p cs = add binary32 sum (t.cost p)
forward_from t sum (q ∷ qs) p [] = inf false
forward_from t sum (q ∷ qs) p (c ∷ cs) = forward_from t (add binary32 sum (q.price (remaining t.count (c ∷ cs)) p c)) qs (nz c) cs

unfoldable pub forward_cost : Problem → List ℤ → Float
forward_cost w cs =
    add binary32 (forward_from w.tail (whole 0) w.positions (w.first_prev (count_of w cs)) cs) (w.count_cost (count_of w cs))
