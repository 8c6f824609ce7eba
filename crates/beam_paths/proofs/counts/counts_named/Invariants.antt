use Rattle.std.proofs.Common.{◌≡◌, ◌≤◌, ◌*◌, List, [], length, take}
use Rattle.beam_paths.specs.Path.{Path}
use Rattle.beam_paths.specs.Step.{counts_named}
use Rattle.beam_paths.specs.Held.{PathsFor}
use Rattle.beam_paths.proofs.counts.counts_named.Given as given

abbrev pub invariant-loop-own : given.invariant-loop-own
invariant-loop-own l = record {
  few : l.many ≤ 2 * l.own-index;
  six : length l.counts ≡ 6;
  named : (xs : List Path) → PathsFor xs l.fn.paths → take l.many l.counts ≡ counts_named [] (take l.own-index xs);
}
