use Rattle.std.proofs.Common.{◌≡◌, Bool, true, false, refl, sym, ◌∙◌, arith}
use mathlib.Core.Bool.{false≢true}
use Rattle.packing.proofs.Hybrid.{valid, read_small}
use Rattle.packing.proofs.Decoded.{symbol-none, small-splits, small-none, octave-none, octave-bits-none, value-is, value-most, octave-splits}
use Rattle.packing.proofs.uint_decode_with_config.Goals as goal

none : {b : Bool} → b ≡ false → b ≡ true → ⊥
none e d = false≢true (sym e ∙ d)

pub returns-then-symbol-gt127 : goal.returns-then-symbol-gt127
returns-then-symbol-gt127 c = none (symbol-none _ _ _ _ _ c.if-symbol-gt127.true)

pub returns-then-bits-eq0 : goal.returns-then-bits-eq0
returns-then-bits-eq0 c =
    let small = rw c.power-small.ensures at c.if-symbol-small.true in
    (small-splits _ _ _ _ _ (omega (arith, c.if-symbol-gt127.false)) small c.if-bits-eq0.true, sym (read_small _ _ _ _ small _))

pub returns-else-bits-eq0 : goal.returns-else-bits-eq0
returns-else-bits-eq0 c = none (small-none _ _ _ _ _ (rw c.power-small.ensures at c.if-symbol-small.true) c.if-bits-eq0.false)

pub returns-then-s-above-gt16 : goal.returns-then-s-above-gt16
returns-then-s-above-gt16 c =
    let big = rw c.power-small.ensures at c.if-symbol-small.false in
    none (octave-none _ _ _ _ _ (valid _ _ _ c.requires).within big _ (rw c.power-small.ensures refl) c.if-s-above-gt16.true)

pub returns-then-bits-power : goal.returns-then-bits-power
returns-then-bits-power c =
    let big = rw c.power-small.ensures at c.if-symbol-small.false in
    none (octave-bits-none _ _ _ _ _ (valid _ _ _ c.requires).within big _ (rw c.power-small.ensures refl) (rw c.power.ensures at c.if-bits-power.true))

pub joined-requires : goal.joined-requires
joined-requires c =
    let o = valid _ _ _ c.requires in
    let big = rw c.power-small.ensures at c.if-symbol-small.false in
    let fits = rw c.power.ensures at c.if-bits-power.false in
    record {
      m_bound = (omega (arith, o), (omega (arith, o), omega (arith, c.if-s-above-gt16.false)));
      l_bound = rw (← value-is _ _ _ _ _ o.within big _ (rw c.power-small.ensures refl) fits) (value-most _ _ _ _ _ o.within big _ (rw c.power-small.ensures refl) fits c.if-s-above-gt16.false);
    }

pub returns : goal.returns
returns c =
    let o = valid _ _ _ c.requires in
    let big = rw c.power-small.ensures at c.if-symbol-small.false in
    let fits = rw c.power.ensures at c.if-bits-power.false in (
      octave-splits _ _ _ _ _ o.within big _ (rw c.power-small.ensures refl) fits (omega (arith, c.if-symbol-gt127.false)) c.if-s-above-gt16.false,
      c.joined.ensures ∙ sym (value-is _ _ _ _ _ o.within big _ (rw c.power-small.ensures refl) fits),
    )
