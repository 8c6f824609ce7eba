use lib.Dec.{leb→le}
use Rattle.steps.proofs.Stretches.{cluster-by}
use Rattle.steps.proofs.Zero.{current-level, current-back, packed-value}
use Rattle.steps.proofs.tail.stretch_cost.Goals as goal

pub pack_signed-value-requires : goal.pack_signed-value-requires
pack_signed-value-requires c =
    let h = c.requires.t in
    rw (current-back _ h) (leb→le _ 32768 (current-level c.args.level h))

pub cluster_bits-requires : goal.cluster_bits-requires
cluster_bits-requires c =
    let h = c.requires.t in
    let value = rw (current-back _ h) at c.pack_signed-value.ensures in
    record { cluster_bound = cluster-by _ c.args.zero c.args.one c.args.prev _ c.by_prev-cluster.ensures c.requires.clusters.0 c.requires.clusters.1; value_bound = rw value (packed-value c.args.level (current-level c.args.level h)) }

pub returns : goal.returns
returns c =
    let value = rw (current-back _ c.requires.t) at c.pack_signed-value.ensures in
    let cluster = c.by_prev-cluster.ensures in
    let bits = c.cluster_bits.ensures in
    cc
