use Rattle.std.proofs.Common.{◌≡◌, ◌≤◌, ℕ, length, length-take, get_or, sym, ap, arith}
use Rattle.coding.specs.Checked.{coding_in}
use Rattle.tallying.specs.Checked.{tokens_in}
use Rattle.tallying.specs.Tally.{Tally, tally_of}
use Rattle.tallying.proofs.Checks.{countable, places-are, same-lengths}
use Rattle.tallying.proofs.Taken.{first-tokens, restored}
use Rattle.tallying.proofs.Settled.{own, stopped, finished}
use Rattle.tally_calls.proofs.change_tally.Goals as goal

pub count_tokens-requires : goal.count_tokens-requires
count_tokens-requires c = places-are _ _ _ c.requires

pub slice_bounds-counted-end-in-Err : goal.slice_bounds-counted-end-in-Err
slice_bounds-counted-end-in-Err c =
    omega (arith, length-take {A = ℕ}, c.in-Err.ensures.stopped_early, same-lengths (tokens_in c.args.tokens.now) c.args.tokens.now.passed)

pub invariant_of-counted : goal.invariant_of-counted
invariant_of-counted c = record { passed = first-tokens (tokens_in c.args.tokens.now) c.in-Err.done (omega (arith, c.in-Err.ensures.stopped_early)) c.args.tokens.now.passed }

pub count_tokens-requires-in-Err : goal.count_tokens-requires-in-Err
count_tokens-requires-in-Err c = rw c.count_tokens.auto.counts (places-are _ _ _ c.requires)

pub returns-in-Add : goal.returns-in-Add
returns-in-Add c =
    let t = tokens_in c.args.tokens.now in
    let k = coding_in c.args.code.now in
    let small : (s : ℕ) → get_or c.args.counts.now s 0 ≤ 4294967295 = λ s. grind arith in
    let total : c.args.extra.now ≤ 18446744073709551615 = omega arith in
    let K = countable c.args.code.now c.args.tokens.now (places-are k t (length c.args.counts.now) c.requires) in
    let back = restored c.args.change k.map k.configs t c.args.counts.now c.args.extra.now c.in-Err.done _ _ (tally_of c.count_tokens-in-Err.new.counts c.count_tokens-in-Err.new.extra)
    K small total c.in-Err.ensures.counted (rw c.opposite.ensures at c.count_tokens-in-Err.ensures.counted) in
    rw (ap (λ (z : Tally). z.counts) back, sym (ap own c.in-Add.is)) (stopped k t c.args.counts.now c.args.extra.now c.requires small total c.args.change c.in-Err.done _ c.in-Err.ensures.counted c.in-Err.ensures.stopped_early)

pub returns-in-Remove : goal.returns-in-Remove
returns-in-Remove c =
    let t = tokens_in c.args.tokens.now in
    let k = coding_in c.args.code.now in
    let small : (s : ℕ) → get_or c.args.counts.now s 0 ≤ 4294967295 = λ s. grind arith in
    let total : c.args.extra.now ≤ 18446744073709551615 = omega arith in
    let K = countable c.args.code.now c.args.tokens.now (places-are k t (length c.args.counts.now) c.requires) in
    let back = restored c.args.change k.map k.configs t c.args.counts.now c.args.extra.now c.in-Err.done _ _ (tally_of c.count_tokens-in-Err.new.counts c.count_tokens-in-Err.new.extra)
    K small total c.in-Err.ensures.counted (rw c.opposite.ensures at c.count_tokens-in-Err.ensures.counted) in
    rw (ap (λ (z : Tally). z.counts) back, sym (ap own c.in-Remove.is)) (stopped k t c.args.counts.now c.args.extra.now c.requires small total c.args.change c.in-Err.done _ c.in-Err.ensures.counted c.in-Err.ensures.stopped_early)

pub returns : goal.returns
returns c = finished _ _ c.args.counts.now c.args.extra.now c.requires (λ s. grind arith) (omega arith) c.args.change _ c.in_default.ensures.counted
