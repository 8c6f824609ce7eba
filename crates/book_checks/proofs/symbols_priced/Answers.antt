use Rattle.std.proofs.Common.{Bool, true, false, ◌≤◌, ◌≡◌, not, eqb, length, refl, sym, ◌∙◌, arith}
use mir.Val.{bool_byte}
use Rattle.prices.specs.Checks.{each, all_priced}
use Rattle.prices.proofs.Each.{each-count}
use Rattle.book_checks.proofs.symbols_priced.Goals as goal

-- the number that is added for a float
added : (b : Bool) → (bool_byte (not b) ≤ 1) × (b ≡ eqb (bool_byte (not b)) 0)
added true = (omega arith, refl)
added false = (omega arith, refl)

pub loop-x-init : goal.loop-x-init
unfolding each
loop-x-init c = (omega arith, refl)

pub loop-x-preserved : goal.loop-x-preserved
loop-x-preserved c =
    let more = added c.is_symbol_price.result in
    let inv = c.loop-x.invariant in
    rw c.from-bad.ensures (omega (arith, more.0, inv.0), each-count _ c.loop-x.x-index c.loop-x.bad _ inv.1 (sym c.is_symbol_price.ensures ∙ more.1))

pub returns : goal.returns
unfolding all_priced
returns c =
    let all : c.loop-x.x-index ≡ length c.args.symbols.now = omega arith in
    sym (rw all at c.loop-x.invariant.1)
