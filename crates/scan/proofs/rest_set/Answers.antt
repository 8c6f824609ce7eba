use mathlib.Core.Path.{◌≡◌, sym}
use native.Mathlib.Omega.{arith}
use Rattle.scan.proofs.Bits.{set_at, set_more, set-done, not_set}
use Rattle.scan.proofs.rest_set.Goals as goal

pub loop-i-init : goal.loop-i-init
loop-i-init c = set_at c.args.words.now _ c.requires.words_value

pub returns-then-words-i-eq0 : goal.returns-then-words-i-eq0
returns-then-words-i-eq0 c = sym (not_set c.args.words.now c.loop-i.i c.args.n c.loop-i-test.true c.if-words-i-eq0.true)

pub returns : goal.returns
returns c =
    let end : c.loop-i.i ≡ c.args.n = omega arith in
    sym (set-done c.args.words.now _ (rw end at c.loop-i.invariant))
