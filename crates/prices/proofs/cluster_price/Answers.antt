use Prim.Native.Nat.{ℕ}
use mathlib.Core.Path.{ap, ap₂, ◌∙◌}
use lib.IntN.{pos}
use lib.Ieee.{Float, add, of_int, binary32}
use Rattle.prices.specs.Book.{symbol_at, cluster_price}
use Rattle.prices.proofs.Costs.{extra-few, extra-exact}
use Rattle.prices.proofs.cluster_price.Goals as goal

pub int_to_float-result : goal.int_to_float-result
int_to_float-result c =
    let split = c.before.before in
    let start = split.before.before.before in
    rw split.cluster_split-split.ensures.extra_bits_value
    (extra-exact _ (extra-few start.args.configs.now start.args.cluster start.args.value start.requires.value_bound))

pub returns : goal.returns
unfolding cluster_price
returns c =
    let split = c.before.before in
    let a = split.args in
    ap₂ (λ (x : Float) (e : ℕ). add binary32 x (of_int binary32 (pos e)))
    (c.symbol_at.ensures ∙ ap (symbol_at a.symbols.now a.cluster) split.cluster_split-split.ensures.symbol_value)
    split.cluster_split-split.ensures.extra_bits_value
