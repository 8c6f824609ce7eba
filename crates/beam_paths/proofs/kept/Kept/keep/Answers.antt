use borrow.Author.Tests.{le-leb, lt-leb}
use native.Mathlib.Omega.{arith}
use Prim.Native.Nat.{◌≤◌}
use Rattle.beam_paths.proofs.kept.Kept.keep.Goals as goal

pub push-requires : goal.push-requires
push-requires c = c.requires (omega (arith, c.if-counts-le3.true))

pub returns-then-counts-le3 : goal.returns-then-counts-le3
returns-then-counts-le3 c =
    let fits : c.args.counts ≤ 3 = omega (arith, c.if-counts-le3.true) in
    let call = c.push.ensures in
    record { count_value = λ _. call.count_value; kept_is = λ q xs ys y Y w. rw (le-leb _ 3 fits) (call.kept_is q xs ys y Y w) }

pub returns : goal.returns
returns c =
    record { count_value = λ h. absurd (omega (arith, h, c.if-counts-le3.false)); kept_is = λ q xs ys y Y w. rw (lt-leb _ 3 c.if-counts-le3.false) (c.insert.ensures q xs ys y Y w) }
