use Rattle.std.proofs.Common.{◌/◌, ℕ, List, set, sym, ap, ap₂, zero-add, ◌∙◌, refl, arith}
use lib.Ieee.{Float}
use Rattle.book_build.specs.Paint.{paint}
use Rattle.book_build.specs.Fill.{ready_entry}
use Rattle.book_build.proofs.Painted.{paint-more}
use Rattle.book_build.proofs.write_ready.Goals as goal

pub loop-i-init : goal.loop-i-init
unfolding paint
loop-i-init c = refl

pub cluster_price-requires : goal.cluster_price-requires
cluster_price-requires c =
    let row = c.requires (c.loop-i.i / 256) (omega arith) in
    record { configs_in_bounds = row.configured; symbols_in_bounds = row.priced; cluster_value = row.valid; value_bound = omega arith }

pub loop-i-preserved : goal.loop-i-preserved
unfolding ready_entry
loop-i-preserved c =
    let a = c.args in
    let loop = c.loop-i in
    let f = ready_entry a.configs.now a.symbols.now in
    ap₂ (λ (l : List Float) (x : Float). set l loop.i x) loop.invariant c.cluster_price.ensures
    ∙ ap (λ (k : ℕ). set (paint f 0 loop.i a.ready.now) k (f k)) (sym (zero-add loop.i))
    ∙ paint-more f 0 loop.i a.ready.now
