use Rattle.std.proofs.Common.{sym, ◌∙◌, arith}
use Rattle.prices.proofs.Passed.{parts1, parts2}
use Rattle.prices.proofs.Costs.{cluster-cost}
use Rattle.price_leaves.proofs.entry_price.Goals as goal

pub bounds-view-context : goal.bounds-view-context
bounds-view-context c = omega (arith, parts1 _ c.requires.counts)

pub bounds-configs-at : goal.bounds-configs-at
bounds-configs-at c = omega (arith, parts2 _ c.requires.lengths)

pub bounds-configs-at-2 : goal.bounds-configs-at-2
bounds-configs-at-2 c = omega (arith, parts2 _ c.requires.lengths)

pub bounds-configs-at-3 : goal.bounds-configs-at-3
bounds-configs-at-3 c = omega (arith, parts2 _ c.requires.lengths)

pub cluster_split-split-requires-clause-configs_in_bounds : goal.cluster_split-split-requires-clause-configs_in_bounds
cluster_split-split-requires-clause-configs_in_bounds c = omega (arith, parts2 _ c.requires.lengths)

pub symbol_at-requires : goal.symbol_at-requires
symbol_at-requires c = omega (arith, parts2 _ c.requires.lengths)

pub cluster_price-price-requires-clause-configs_in_bounds : goal.cluster_price-price-requires-clause-configs_in_bounds
cluster_price-price-requires-clause-configs_in_bounds c = omega (arith, parts2 _ c.requires.lengths)

pub cluster_price-price-requires-clause-symbols_in_bounds : goal.cluster_price-price-requires-clause-symbols_in_bounds
cluster_price-price-requires-clause-symbols_in_bounds c = omega (arith, parts2 _ c.requires.lengths)

pub bounds-view-cluster : goal.bounds-view-cluster
bounds-view-cluster c = omega (arith, parts2 _ c.requires.lengths)

pub same_bits-requires : goal.same_bits-requires
same_bits-requires c =
    let priced = sym c.is_symbol_price.ensures ∙ c.if-not-is_symbol_price.false in
    rw c.cluster_price-price.ensures
    (cluster-cost c.args.view.now.configs.now c.args.view.now.symbols.now c.from-cluster.result c.args.value c.requires.value_bound
    (rw (c.symbol_at.ensures, c.cluster_split-split.ensures.symbol_value) at priced))
