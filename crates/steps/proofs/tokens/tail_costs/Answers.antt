use Rattle.steps.proofs.Tails.{tokens-done, tokens-step}
use Rattle.steps.proofs.Counting.{among-most, among_first}
use Rattle.steps.proofs.Zero.{handed-back, handed-current}
use Rattle.least_cost.proofs.Trial.{nz-le}
use Rattle.least_cost.specs.Position.{nz}
use lib.Ieee.{of_bits}
use lib.Dec.{lit≤}
use lib.IntN.{ℤ}
use lib.ListN.{length}
use mathlib.Core.List.{List}
use native.Mathlib.Nat.{le_refl}
use Rattle.ac_context.specs.Contexts.{Coefficient}
use Rattle.block.specs.Block.{nonzeros_among}
use Rattle.steps.specs.Plan.{Whole}
use native.Mathlib.Omega.{arith}
use Prim.Native.Nat.{ℕ, ◌≤◌, ◌<◌, ◌-◌}
use mathlib.Core.Path.{◌≡◌, sym, ◌∙◌, ap}
use borrow.Author.Rules.{rules}
use Rattle.steps.proofs.tokens.tail_costs.Goals as goal

pub returns-then-count-eq0 : goal.returns-then-count-eq0
unfolding of_bits
returns-then-count-eq0 c = λ b es el w. rw c.if-count-eq0.true (sym (tokens-done _ b _ _ _ _), sym (tokens-done _ b _ _ _ _))

-- a nonzero level is left, so a position is
some_left : (scan : List ℕ) (levels : List ℤ) (from count : ℕ) → count ≡ nonzeros_among scan levels from (length scan - from) → (count ≡ 0 → ⊥) → (count ≤ length scan - from) × (from < length scan)
some_left scan levels from count e some =
    let most : count ≤ length scan - from = rw e (among-most scan levels from (length scan - from)) in
    (most, omega (arith, some, most))

pub level_at-level-requires : goal.level_at-level-requires
level_at-level-requires c =
    let here = (some_left _ _ _ _ c.requires.count_value c.if-count-eq0.false).1 in
    record { k_in_bounds = here; k_in_bounds_2 = c.requires.whole.within _ here }

-- so the first token has a context
first-coded : {c from count prev : ℕ} {scan : List ℕ} {levels : List ℤ} → Whole c from scan levels → c ≤ from → count ≡ nonzeros_among scan levels from (length scan - from) → (count ≡ 0 → ⊥) → prev ≤ 1
    → Coefficient c count from prev
first-coded w coded e some flag =
    let left = some_left _ _ _ _ e some in
    record { some = omega (arith, some); left = omega (arith, w.size, left.0, left.1); coded = coded; flag = omega arith }

pub token_cost-zero-requires : goal.token_cost-zero-requires
token_cost-zero-requires c = let pre = c.requires in
    let whole = pre.whole in
    let some = c.if-count-eq0.false in
    let level = whole.level _ (le_refl _) (some_left _ _ _ _ pre.count_value some).1 in
    record { coefficient = first-coded whole pre.covered_le_from.0 pre.count_value some (lit≤ tt); t = handed-current _ _ c.level_at-level.ensures level }

pub token_cost-one-requires : goal.token_cost-one-requires
token_cost-one-requires c = let pre = c.requires in
    let whole = pre.whole in
    let some = c.if-count-eq0.false in
    let level = whole.level _ (le_refl _) (some_left _ _ _ _ pre.count_value some).1 in
    record { coefficient = first-coded whole pre.covered_le_from.0 pre.count_value some (lit≤ tt); t = handed-current _ _ c.level_at-level.ensures level }

pub overflow_add-k : goal.overflow_add-k
overflow_add-k c =
    let here = (some_left _ _ _ _ c.requires.count_value c.if-count-eq0.false).1 in
    search rules

pub overflow_sub-remaining : goal.overflow_sub-remaining
overflow_sub-remaining c =
    let some = c.if-count-eq0.false in
    let level = c.requires.whole.level _ (le_refl _) (some_left _ _ _ _ c.requires.count_value some).1 in
    let one = c.nonzero-nonzero.ensures ∙ ap nz (handed-back _ _ c.level_at-level.ensures level) in
    let small : c.nonzero-nonzero.result ≤ 1 = rw one (nz-le _) in
    omega (arith, some, small)

pub add_tokens-requires : goal.add_tokens-requires
add_tokens-requires c =
    let whole = c.requires.whole in
    let some = c.if-count-eq0.false in
    let here = (some_left _ _ _ _ c.requires.count_value some).1 in
    let one = c.nonzero-nonzero.ensures ∙ ap nz (handed-back _ _ c.level_at-level.ensures (whole.level _ (le_refl _) here)) in
    let first = among_first c.args.scan.now c.args.levels.now (length c.args.scan.now) c.args.from here in
    record { scan_len = whole.size; standing = record { ended = omega (arith, here); flag = rw one (nz-le _); left = omega (arith, c.requires.count_value, one, first); within = whole.within; level = λ k h. whole.level k (omega (arith, h)) }; covered_le_k = omega (arith, c.requires.covered_le_from.0) }

pub returns : goal.returns
unfolding of_bits
returns c =
    λ b es el w.
    let some = c.if-count-eq0.false in
    let here = (some_left _ _ _ _ c.requires.count_value some).1 in
    let back = handed-back _ _ c.level_at-level.ensures (c.requires.whole.level _ (le_refl _) here) in
    let counted = c.nonzero-nonzero.ensures in
    let sums = c.add_tokens.ensures b es el w in (
      sums.0 ∙ tokens-step _ b _ _ _ _ _ _ _ _ _ _ _ es el w back (c.token_cost-zero.ensures b w) counted here some,
      sums.1 ∙ tokens-step _ b _ _ _ _ _ _ _ _ _ _ _ es el w back (c.token_cost-one.ensures b w) counted here some,
    )
