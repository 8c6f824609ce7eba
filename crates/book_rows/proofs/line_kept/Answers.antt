use Rattle.std.proofs.Common.{◌≤◌, ◌≡◌, Bool, true, false, not, eqb, refl, sym, ◌∙◌, arith}
use mir.Val.{bool_byte}
use Rattle.prices.specs.Checks.{each}
use Rattle.prices.proofs.Each.{each-count}
use Rattle.book_rows.specs.Row.{line_kept}
use Rattle.book_rows.proofs.line_kept.Goals as goal

-- the number that is added for a price
added : (b : Bool) → (bool_byte (not b) ≤ 1) × (b ≡ eqb (bool_byte (not b)) 0)
added true = (omega arith, refl)
added false = (omega arith, refl)

pub loop-i-init : goal.loop-i-init
unfolding each
loop-i-init c = (omega arith, refl)

pub loop-i-preserved : goal.loop-i-preserved
unfolding line_kept
loop-i-preserved c =
    let a = c.args in
    let loop = c.loop-i in
    let more = added c.same_bits.result in
    rw c.from-bad.ensures (omega (arith, more.0, loop.invariant.0), each-count (line_kept a.symbols.now a.ready.now a.from a.to a.extra) loop.i loop.bad _ loop.invariant.1 (sym c.same_bits.ensures ∙ more.1))
