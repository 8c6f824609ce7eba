use Rattle.std.proofs.Common.{◌<◌, ℕ, [], length-take, sym, refl, arith}
use lib.Seq.{get_or-take}
use Rattle.beam_paths.proofs.Naming.{counts-none, counts-next}
use Rattle.beam_paths.proofs.counts.counts_named.Goals as goal

pub loop-own-init : goal.loop-own-init
loop-own-init c = record { few = omega arith; six = refl; named = λ xs w. sym (counts-none []) }

pub loop-own-preserved : goal.loop-own-preserved
loop-own-preserved c =
    let paths = c.args.paths in
    let inv = c.loop-own.invariant in
    let own = c.name-many.ensures in
    let next = c.name-many-in-loop-own.ensures in
    let here : c.loop-own.own-index < paths.count = omega (arith, length-take {A = ℕ}) in
    let read = get_or-take paths.count paths.remaining c.loop-own.own-index 0 here in
    record {
      few = omega (arith, own.upper_bound.0, next.upper_bound.0, inv.few);
      six = next.upper_bound.1;
      named = λ xs w. counts-next _ w here (inv.named xs w) (rw read at own.counts_after) (rw read at next.counts_after);
    }
