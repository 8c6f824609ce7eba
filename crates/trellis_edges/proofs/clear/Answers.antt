use Rattle.std.proofs.Common.{◌≡◌, ◌*◌, ◌∙◌, arith}
use Rattle.half_bytes.proofs.Laws.{kept-none}
use Rattle.trellis_edges.proofs.Tried.{clearing-none, clearing-pair}
use Rattle.trellis_edges.proofs.clear.Goals as goal

pub loop-k-init : goal.loop-k-init
loop-k-init c = clearing-none _ _ _ _

pub loop-k-preserved : goal.loop-k-preserved
loop-k-preserved c =
    let none = c.unreachable.ensures in
    let pair = c.write_pair.ensures in
    clearing-pair c.loop-k-test.true c.requires.0 c.requires.1 none.0 none.1.0 (kept-none _ none.1.1.0 ∙ none.1.1.0) (kept-none _ none.1.1.1 ∙ none.1.1.1) pair.0 pair.1 c.loop-k.invariant

pub returns-clause-cleared : goal.returns-clause-cleared
returns-clause-cleared c =
    let last : 2 * c.loop-k.k ≡ 2 * c.args.n = omega arith in
    rw last at c.loop-k.invariant.cleared
