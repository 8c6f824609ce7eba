use Rattle.std.proofs.Common.{◌≤◌, ◌≡◌, ℕ, Bool, true, false, eqb, leb, ltb, get_or, length, refl, sym, arith}
use mir.Val.{bool_byte}
use borrow.Author.Tests.{le-leb, lt-leb, ltb-true, ltb-false}
use Rattle.prices.specs.Checks.{each}
use Rattle.prices.proofs.Each.{each-count}
use Rattle.ans_build.specs.Ans.{all_whole}
use Rattle.ans_build.proofs.all_whole.Goals as goal

-- the number that is added for a frequency
added : (f : ℕ) → (bool_byte (ltb 4096 f) ≤ 1) × (leb f 4096 ≡ eqb (bool_byte (ltb 4096 f)) 0)
added f = go (ltb 4096 f) refl
  where
    go : (above : Bool) → ltb 4096 f ≡ above → (bool_byte above ≤ 1) × (leb f 4096 ≡ eqb (bool_byte above) 0)
    go true e = (omega arith, lt-leb _ _ (ltb-true 4096 f e))
    go false e = (omega arith, le-leb _ _ (ltb-false 4096 f e))

pub loop-frequency-init : goal.loop-frequency-init
unfolding each
loop-frequency-init c = (omega arith, refl)

pub loop-frequency-preserved : goal.loop-frequency-preserved
loop-frequency-preserved c =
    let loop = c.loop-frequency in
    let more = added (get_or c.args.freqs.now loop.frequency-index 0) in
    rw c.from-bad.ensures (omega (arith, more.0, loop.invariant.0), each-count (λ j. leb (get_or c.args.freqs.now j 0) 4096) loop.frequency-index loop.bad _ loop.invariant.1 more.1)

pub returns : goal.returns
unfolding all_whole
returns c =
    let all : c.loop-frequency.frequency-index ≡ length c.args.freqs.now = omega arith in
    sym (rw all at c.loop-frequency.invariant.1)
