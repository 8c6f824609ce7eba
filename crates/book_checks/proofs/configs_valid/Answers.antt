use Rattle.std.proofs.Common.{refl, sym, ◌∙◌, arith}
use Rattle.prices.specs.Book.{cluster_valid}
use Rattle.prices.specs.Checks.{each}
use Rattle.prices.proofs.Each.{each_more, each-fails}
use Rattle.book_checks.proofs.configs_valid.Goals as goal

pub loop-k-init : goal.loop-k-init
unfolding each
loop-k-init c = refl

pub returns-then-not-valid_config : goal.returns-then-not-valid_config
unfolding cluster_valid
returns-then-not-valid_config c =
    sym (each-fails _ _ c.loop-k.k (omega arith) (sym c.valid_config.ensures ∙ c.if-not-valid_config.true))

pub loop-k-preserved : goal.loop-k-preserved
unfolding cluster_valid
loop-k-preserved c = each_more _ _ c.loop-k.invariant (sym c.valid_config.ensures ∙ c.if-not-valid_config.false)
