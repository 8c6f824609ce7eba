use Prim.Native.Nat.{ℕ}
use lib.ListN.{take, drop}
use Rattle.block.specs.Block.{block_of, covered}
use Rattle.group_list.specs.Heads.{head_at}
use Rattle.prices.specs.Contents.{contents}
use Rattle.rooms.specs.Lending.{lent_in}
use Rattle.searches.specs.Outcome.{search_outcome}
use Rattle.searches.proofs.Results.{whole}
use Rattle.weights.specs.Window.{window_of}
use Rattle.group_block.specs.Lists.{head_in}
use Rattle.group_block.specs.Part.{part, in_place}
use Rattle.group_block.proofs.Parts.{of_parts, part-result}
use Rattle.group_block.proofs.search_at.Goals as goal

pub returns-clause-outcome : goal.returns-clause-outcome
unfolding head_at
returns-clause-outcome c =
    let a = c.args in
    let lists = a.lists.now in
    let at = a.part.at in
    let n = a.part.n in
    let levels = a.levels.now in
    let h = head_in lists a.part.index in
    of_parts
    (λ shape settings bias.
    let b = block_of shape settings bias h.scale (part at n lists.scans.now) (part at n lists.sources.now) (part at n lists.inv_qms.now) (part at n levels) in
    in_place at n levels (search_outcome h.half_width (window_of (covered b)) a.search (contents a.book.now) b (lent_in (part at n levels) a.room.now)))
    (part-result at n levels
    (λ (k : ℕ).
    let b = block_of c.shape_at.result c.settings_at.result c.bias_at.result h.scale (take k (drop at lists.scans.now)) (take k (drop at lists.sources.now)) (take k (drop at lists.inv_qms.now)) (take k (drop at levels)) in
    search_outcome h.half_width (window_of (covered b)) a.search (contents a.book.now) b (lent_in (take k (drop at levels)) a.room.now))
    (whole c.rdoq_block_checked.ensures.outcome).outcome)
    c.shape_at.ensures
    c.settings_at.ensures
    c.bias_at.ensures
