use Prim.Native.Nat.{◌+◌, ◌*◌}
use native.Mathlib.Omega.{arith}
use Rattle.prices.proofs.Passed.{same_float, cluster-price-fits}
use Rattle.prices.proofs.cluster_bits.Goals as goal

pub returns-then-value-lt256 : goal.returns-then-value-lt256
returns-then-value-lt256 c =
    let start = c.before.before.before.before.before in
    let k = start.args.cluster in
    let v = start.args.value in
    same_float
    (c.shared_slice_known-then-value-lt256-1.given (256 * k + v))
    (cluster-price-fits start.args.configs.now start.args.symbols.now k v)
    (start.requires.cluster_passed.kept v c.if-value-lt256.true)
