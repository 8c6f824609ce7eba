use Prim.Native.Nat.{ℕ, ◌+◌, ◌-◌, ◌*◌, ◌/◌, ◌<◌, ◌≤◌}
use mathlib.Core.Path.{◌≡◌, ap, ◌∙◌}
use native.Mathlib.Nat.{div-mul-le_self, div-le_self}
use native.Mathlib.Omega.{arith}
use lib.ListN.{get_or}
use Rattle.ac_context.specs.Contexts.{zero_density_context, Coefficient}
use Rattle.ac_context.proofs.Bounds.{covered-some, covered-most, pair-below, next-context}
use Rattle.prices.proofs.Held.{known}
use Rattle.steps.proofs.Stretches.{end-most, shared}
use Rattle.steps.specs.declared.plan.Plan.{Plan}
use Rattle.steps.proofs.tail.stretch_at.Goals as goal

-- the end of the stretch is within the block
ends : (p : Plan) {n k : ℕ} → Coefficient p.covered n k 0 → (k / p.covered + 1) * p.covered ≤ 64 * p.covered
ends p w = end-most p.covered (covered-some p.coded.covers) _ _ w

below : (p : Plan) {n k : ℕ} → Coefficient p.covered n k 0 → zero_density_context p.covered n k 0 + 1 < 458
below p w = pair-below (covered-some p.coded.covers) w

pub overflow_add-end : goal.overflow_add-end
overflow_add-end c =
    omega (arith, c.requires.left, covered-most c.args.plan.coded.covers, div-le_self c.args.k c.args.plan.covered)

pub overflow_mul-end : goal.overflow_mul-end
overflow_mul-end c =
    omega (arith, ends c.args.plan c.requires, covered-most c.args.plan.coded.covers)

pub overflow_mul-least : goal.overflow_mul-least
overflow_mul-least c =
    omega (arith, div-mul-le_self (c.args.remaining - 1) c.args.plan.covered, c.requires.left, covered-most c.args.plan.coded.covers)

pub overflow_add-least : goal.overflow_add-least
overflow_add-least c =
    omega (arith, div-mul-le_self (c.args.remaining - 1) c.args.plan.covered, c.requires.left, covered-most c.args.plan.coded.covers)

pub bounds-book-context : goal.bounds-book-context
bounds-book-context c =
    omega (arith, (known c.args.book.now).sound.contexts, c.args.plan.coded.offset, c.zero_density_context.ensures.1)

pub bounds-book-context-2 : goal.bounds-book-context-2
bounds-book-context-2 c =
    omega (arith, (known c.args.book.now).sound.contexts, c.args.plan.coded.offset, c.zero_density_context.ensures.0, below c.args.plan c.requires)

pub returns : goal.returns
returns c =
    let plan = c.args.plan in
    let map = c.args.book.now.map.now in
    let at = c.zero_density_context.ensures.0 in
    let r = c.zero_density_context.result in
    let next : plan.offset + r + 1 ≡ plan.offset + zero_density_context plan.covered c.args.remaining c.args.k 1 =
    omega (arith, at, next-context plan.covered c.args.remaining c.args.k) in
    shared plan map c.args.remaining c.args.k _ _ (covered-some plan.coded.covers) c.requires (c.from-zero.ensures ∙ ap (λ (x : ℕ). get_or map (plan.offset + x) 0) at) (c.from-one.ensures ∙ ap (λ (x : ℕ). get_or map x 0) next)
