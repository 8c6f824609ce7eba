-- The run in front of a position, one level after the other. Assumes nothing.
use mathlib.Core.Path.{◌≡◌, refl, ◌∙◌}
use mathlib.Core.List.{List}
use Prim.Native.Nat.{ℕ, suc, ◌+◌, ◌-◌, ◌<◌}
use native.Mathlib.Omega.{arith}
use native.Mathlib.Numerals.{add-one}
use lib.IntN.{ℤ, pos}
use lib.Ieee.{Float, add, binary32}
use Rattle.block.specs.Block.{Block, covered}
use Rattle.block.specs.Cost.{token_price}
use Rattle.least_cost.specs.Position.{nz}
use Rattle.prices.specs.Book.{Book}
use Rattle.scan.specs.Scan.{level_at}
use Rattle.steps.specs.Plan.{Planned}
use Rattle.steps.specs.declared.plan.Plan.{Plan}
use Rattle.greedy_cost.specs.Run.{run_start, zeros_from}

module _ (scan : List ℕ) (levels : List ℤ) (c : ℕ) where
  pub start_first : run_start scan levels c 0 ≡ 0
  unfolding run_start
  start_first = refl

  pub start-here : (i : ℕ) → nz (level_at scan levels (c + i)) ≡ 1 → run_start scan levels c (i + 1) ≡ i + 1
  unfolding run_start
  start-here i e = rw (add-one, e)

  pub start-more : (i : ℕ) → nz (level_at scan levels (c + i)) ≡ 0 → run_start scan levels c (i + 1) ≡ run_start scan levels c i
  unfolding run_start
  start-more i e = rw (add-one, e)

pub zeros-next : (book : Book) (b : Block) (plan : Plan) (end j prev : ℕ) (sum token : Float) (q : ℤ) → Planned b plan → j < end → q ≡ pos 0 → token ≡ token_price book b 1 (plan.covered + j) prev q
    → zeros_from book b (end - (j + 1)) (j + 1) 0 (add binary32 sum token) ≡ zeros_from book b (end - j) j prev sum
unfolding zeros_from
zeros-next book b plan end j prev sum token q w h z e =
    let one : end - j ≡ suc (end - (j + 1)) = omega arith in
    let priced : token ≡ token_price book b 1 (covered b + j) prev (pos 0) = e ∙ rw (w.covered_is, z) in
    rw (one, priced, add-one)

pub zeros-last : (book : Book) (b : Block) (end j prev : ℕ) (sum : Float) → j ≡ end → zeros_from book b (end - j) j prev sum ≡ sum
unfolding zeros_from
zeros-last book b end j prev sum e =
    let over : end - j ≡ 0 = omega arith in
    rw over
