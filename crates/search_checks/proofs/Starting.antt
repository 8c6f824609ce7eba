-- What follows the window, by a plan and the lists. Assumes nothing.
use mathlib.Core.Path.{◌≡◌, ap, ◌∙◌}
use mathlib.Core.Bool.{false}
use mathlib.Core.List.{List}
use Prim.Native.Nat.{ℕ, ◌+◌, ◌-◌, ◌*◌}
use lib.IntN.{ℤ, pos}
use lib.ListN.{length}
use lib.Ieee.{Float, fin}
use Rattle.block.specs.Block.{Block, covered, nonzeros_among, input_remaining}
use Rattle.block.specs.Band.{tail_of, past_window}
use Rattle.block.specs.Cost.{tokens_from, tail_cost}
use Rattle.prices.specs.Book.{Book}
use Rattle.steps.specs.Plan.{Planned}
use Rattle.steps.specs.declared.plan.Plan.{Plan}

module _ {b : Block} {p : Plan} {scan : List ℕ} {levels : List ℤ} (es : scan ≡ b.scan) (el : levels ≡ b.levels) (long : length b.scan ≡ 64 * covered b) (w : Planned b p) where
  from_is : p.covered + p.window.length ≡ covered b + p.window.length
  from_is = ap (λ (c : ℕ). c + p.window.length) w.covered_is

  size_is : length scan ≡ 64 * covered b
  size_is = ap length es ∙ long

  module _ {r : ℕ} (e : r ≡ nonzeros_among scan levels (p.covered + p.window.length) (length scan - (p.covered + p.window.length))) where
    pub past_is : r ≡ past_window p.window b
    unfolding past_window input_remaining
    past_is = rw (from_is, size_is, es, el) at e

    pub tail_is : (book : Book) (q : ℕ) {x : Float} → x ≡ tokens_from book b (length scan - (p.covered + p.window.length)) r (p.covered + p.window.length) q (fin false 0 (pos 0))
        → x ≡ (tail_of p.window book b).cost q
    unfolding tail_of tail_cost past_window
    tail_is book q f = rw (from_is, size_is, past_is) at f
