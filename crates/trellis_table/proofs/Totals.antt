-- The last step: the least cost over the counts. Assumes nothing.
use mathlib.Core.Path.{◌≡◌, refl, ap, ◌∙◌, subst⁻¹}
use mathlib.Core.Bool.{Bool, true, false, cond}
use mathlib.Core.List.{List}
use Prim.Native.Nat.{ℕ, suc, ◌+◌, ◌-◌, ◌*◌, ◌/◌, ◌≤◌, ◌<◌, min}
use native.Mathlib.Omega.{arith}
use native.Mathlib.Nat.{le_trans}
use native.Mathlib.Numerals.{add-one}
use lib.Dec.{leb}
use lib.ListN.{get_or}
use lib.Ieee.{Float, nan, inf, lt, add, binary32}
use Rattle.block.specs.Block.{Block, covered, input_remaining}
use Rattle.block.specs.Band.{positions_from, tail_of, past_window, input_after, fewest_count, most_count, problem_of}
use Rattle.block.specs.Cost.{first_prev, count_cost}
use Rattle.least_cost.specs.Search.{Problem, best, least, holder, up_from, total, least_total, least_count}
use Rattle.prices.specs.Book.{Book}
use Rattle.problem.proofs.Problem.{past-most}
use Rattle.problem.specs.Tokens.{past_length}
use Rattle.steps.specs.declared.plan.Plan.{Plan}
use Rattle.weights.specs.declared.Window.{Window}
use Rattle.search_checks.proofs.Checked.{bit-few, window-some, first_is}
use Rattle.trellis_table.specs.Rows.{Rowable, RowAt, CountsAt}
use Rattle.trellis_table.specs.Rows as Rows
use Rattle.steps.specs.Best.{considered}
use Rattle.steps.specs.declared.best.Best.{Best}
use Rattle.trellis_table.specs.declared.position.Counts.{Counts}
use Rattle.trellis_table.proofs.Steps.{room-left, past_after, least-most}

module _ {hw : ℕ} {book : Book} {b : Block} {p : Plan} (K : Rowable hw book b p) where
  pub counts_some : (c : Counts) → CountsAt hw p.window b 0 c → c.least ≤ c.most + 1
  unfolding Rows.least_count
  counts_some c w = let q = past_after K 0 (window-some K.checked) in le_trans (least-most hw _ _ _ _ _ w.least (w.most refl) q.0 q.1) (omega arith)

  pub count-few : (c : Counts) → CountsAt hw p.window b 0 c → (n : ℕ) → n ≤ c.most → n ≤ 65536
  unfolding past_length
  count-few c w n h =
      let fits = room-left _ _ _ _ _ _ (w.most refl) (window-some K.checked) (past-most p.window b) K.checked.passed.window.fits in
      omega (arith, K.checked.passed.most)

  -- one count's cost
  pub total-is : (live : List Float) (c : Counts) → RowAt hw p.window book b 0 live c → (n prev : ℕ) (count : Float) → c.least ≤ n → n ≤ c.most → prev ≡ cond (leb n (64 * p.covered / 16)) 1 0 → count ≡ count_cost book b n
      → add binary32 (get_or live (2 * (n - c.least) + prev) nan) count ≡ total (problem_of hw p.window book b) n
  unfolding total problem_of first_prev
  total-is live c R n prev count l h e f =
      let small : prev ≤ 1 = subst⁻¹ (λ (k : ℕ). k ≤ 1) e (bit-few (leb n (64 * p.covered / 16))) in
      let value = R.stands.values n prev l h small in
      let first = first_is K.checked n e in
      let all : p.window.length - 0 ≡ p.window.length = omega arith in
      let same = ap (λ (k : ℕ). best (tail_of p.window book b) (positions_from hw p.window book b 0 k) n prev) all in
      cc

-- ---- the counts one after the other: k of them are left from n on
pub record Sofar (w : Problem) (n k : ℕ) (x : Best ℕ) : Type 0 where
  pub cost-left : least (total w) x.cost (up_from n k) ≡ least_total w
  pub count_left : holder (total w) x.cost x.choice (up_from n k) ≡ least_count w

most-same : (hw s a w : ℕ) → 0 < w → min (a + hw) (s + (w - 1 - 0)) + 1 ≡ min (s + w) (a + hw + 1)
most-same hw s a w h = omega arith

pub sofar-start : (hw : ℕ) (v : Window) (book : Book) (b : Block) (c : Counts) → CountsAt hw v b 0 c → 0 < v.length → (x : Float) → x ≡ inf false → Sofar (problem_of hw v book b) c.least (c.most + 1 - c.least) (record { cost = x; choice = c.least })
unfolding least_total least_count problem_of fewest_count most_count input_after Rows.least_count
sofar-start hw v book b c w some x e =
    let same : covered b + 0 + 1 ≡ covered b + 1 = omega arith in
    let after = ap (input_remaining b) same in
    let first = w.least in
    let last = w.most refl ∙ most-same hw (past_window v b) (input_remaining b (covered b + 1)) v.length some in
    let wide : c.most + 1 - c.least ≡ suc c.most - c.least = ap (λ (k : ℕ). k - c.least) (add-one c.most) in
    record { cost-left = cc; count_left = cc }

pub sofar-more : {w : Problem} {n k : ℕ} {x y : Best ℕ} {cost : Float} → 0 < k → cost ≡ total w n → y ≡ considered x cost n → Sofar w n k x → Sofar w (n + 1) (k - 1) y
unfolding up_from least holder considered
sofar-more {w} {n} {k} {x} {y} {cost} some e f s =
    let one : k ≡ suc (k - 1) = omega arith in
    rw (f, e, add-one) (go (lt (total w n) x.cost) (rw one at s.cost-left) (rw one at s.count_left))
  where
    go : (t : Bool) → least (total w) (cond t (total w n) x.cost) (up_from (suc n) (k - 1)) ≡ least_total w
        → holder (total w) (cond t (total w n) x.cost) (cond t n x.choice) (up_from (suc n) (k - 1)) ≡ least_count w
        → Sofar w (suc n) (k - 1) (cond {A = Best ℕ} t (record { cost = total w n; choice = n }) x)
    go true p q = record { cost-left = p; count_left = q }
    go false p q = record { cost-left = p; count_left = q }

pub sofar-end : {w : Problem} {n k : ℕ} {x : Best ℕ} → k ≡ 0 → Sofar w n k x → (x.cost ≡ least_total w) × (x.choice ≡ least_count w)
unfolding up_from least holder
sofar-end e s = (rw e at s.cost-left, rw e at s.count_left)
