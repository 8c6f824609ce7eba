use Rattle.std.proofs.Common.{ap, not}
use Rattle.laws.proofs.Tests.{held}
use Rattle.block_checks.proofs.Laws.{formed}
use Rattle.block_checks.proofs.Returns.{few, scan-short, scanned, levels-held, source-held, inverse-held, window-held}
use Rattle.block_checks.proofs.check_content.Goals as goal

pub covered_blocks-covered-requires : goal.covered_blocks-covered-requires
covered_blocks-covered-requires c = let f = formed _ c.requires in (f.first, f.second)

pub each_once-requires : goal.each_once-requires
each_once-requires c = scan-short _ c.requires c.covered_blocks-covered.ensures

pub levels_within-requires : goal.levels_within-requires
levels_within-requires c =
    let ok = c.requires in
    let blocks = c.covered_blocks-covered.ensures in
    record { perm = (scanned _ ok blocks (held c.each_once.ensures (ap not c.if-not-each_once.false)), few _ ok blocks); levels_len = levels-held _ ok blocks }

pub window_under-window-requires : goal.window_under-window-requires
window_under-window-requires c = few _ c.requires c.covered_blocks-covered.ensures

pub ideals_within-requires : goal.ideals_within-requires
ideals_within-requires c =
    let ok = c.requires in
    let blocks = c.covered_blocks-covered.ensures in
    record { perm = scanned _ ok blocks (held c.each_once.ensures (ap not c.if-not-each_once.false)); window_bound = window-held _ ok blocks _ c.window_under-window.ensures; source_len = source-held _ ok blocks; inv_qm_len = inverse-held _ ok blocks }
