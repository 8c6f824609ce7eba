use Rattle.std.proofs.Common.{◌≡◌, ℕ, ◌+◌, ◌-◌, ◌/◌, ◌^◌, sym, ap, ◌∙◌, arith}
use Rattle.packing.proofs.Hybrid.{valid, read_small}
use Rattle.packing.proofs.Decoded.{value-is, value-most, split-bits, split-octave}
use Rattle.packing.proofs.uint_read_with_config.Goals as goal

-- how many octaves above 2 ^ s
above : {p q : ℕ} (t m l : ℕ) → p ≡ q → (t - p) / 2 ^ (m + l) ≡ (t - q) / 2 ^ (m + l)
above t m l e = ap (λ (n : ℕ). (t - n) / 2 ^ (m + l)) e

pub returns-then-symbol-small : goal.returns-then-symbol-small
returns-then-symbol-small c = sym (read_small _ _ _ _ (rw c.power-small.ensures at c.if-symbol-small.true) _)

pub overflow_add-s : goal.overflow_add-s
overflow_add-s c =
    let o = valid _ _ _ c.requires.lsb_in_token_value in
    let big = rw c.power-small.ensures at c.if-symbol-small.false in
    let up = above c.args.symbol c.args.config.msb_in_token c.args.config.lsb_in_token c.power-small.ensures in
    record { fits = omega (arith, split-octave _ _ _ _ _ o.within c.requires.bits_value big _ up) }

pub joined-requires : goal.joined-requires
joined-requires c =
    let o = valid _ _ _ c.requires.lsb_in_token_value in
    let big = rw c.power-small.ensures at c.if-symbol-small.false in
    let up = above c.args.symbol c.args.config.msb_in_token c.args.config.lsb_in_token c.power-small.ensures in
    let octave = split-octave _ _ _ _ _ o.within c.requires.bits_value big _ up in
    let fits = split-bits _ _ _ _ _ o.within c.requires.bits_value big _ up in
    record {
      m_bound = (omega (arith, o), (omega (arith, o), omega (arith, octave)));
      l_bound = rw (← value-is _ _ _ _ _ o.within big _ up fits) (value-most _ _ _ _ _ o.within big _ up fits octave);
    }

pub returns : goal.returns
returns c =
    let o = valid _ _ _ c.requires.lsb_in_token_value in
    let big = rw c.power-small.ensures at c.if-symbol-small.false in
    let up = above c.args.symbol c.args.config.msb_in_token c.args.config.lsb_in_token c.power-small.ensures in
    let fits = split-bits _ _ _ _ _ o.within c.requires.bits_value big _ up in
    c.joined.ensures ∙ sym (value-is _ _ _ _ _ o.within big _ up fits)
