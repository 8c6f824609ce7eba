use mathlib.Core.Path.{sym, ap, ◌∙◌, subst}
use lib.Dec.{T}
use lib.IntN.{ℤ, pos, negsuc}
use lib.Ieee.{binary32, in_float, of_bits, of_int, sub, div}
use mir.Syntax.{w32}
use mir.ValLaws.{to_z-of_z}
use Rattle.bias.specs.Level.{biased, corrected}
use Rattle.bias.proofs.Cases.{level-sfits, level-exact, from_bits, far}
use Rattle.bias.proofs.DequantBias.level.Goals as goal

pub returns-then-quant-eq0 : goal.returns-then-quant-eq0
unfolding biased of_bits
returns-then-quant-eq0 c =
    let b = c.args.self in
    sym (ap (λ (z : ℤ). biased b z) (from_bits c.args.quant (pos 0) c.requires tt c.if-quant-eq0.true))

pub returns-then-quant-eq1 : goal.returns-then-quant-eq1
unfolding biased
returns-then-quant-eq1 c =
    let b = c.args.self in
    sym (ap (λ (z : ℤ). biased b z) (from_bits c.args.quant (pos 1) c.requires tt c.if-quant-eq1.true))

pub returns-then-quant-eqminus1 : goal.returns-then-quant-eqminus1
unfolding biased
returns-then-quant-eqminus1 c =
    let b = c.args.self in
    sym (ap (λ (z : ℤ). biased b z) (from_bits c.args.quant (negsuc 0) c.requires tt c.if-quant-eqminus1.true))

pub returns-else-quant-eqminus1 : goal.returns-else-quant-eqminus1
unfolding biased corrected
returns-else-quant-eqminus1 c =
    let b = c.args.self in
    let q = c.args.quant in
    ap (λ (z : ℤ). sub binary32 (of_int binary32 z) (div binary32 b.numerator (of_int binary32 z))) (to_z-of_z w32 q (level-sfits q c.requires))
    ∙ sym (far b.one b.numerator q c.if-quant-eq0.false c.if-quant-eq1.false c.if-quant-eqminus1.false)
