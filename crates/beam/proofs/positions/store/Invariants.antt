use Prim.Native.Nat.{◌-◌, ◌≤◌}
use Rattle.beam.proofs.Storing.{StoredTo}
use Rattle.beam.proofs.positions.store.Given as given

abbrev pub invariant-loop-j : given.invariant-loop-j
invariant-loop-j l = (l.j ≤ 6) × StoredTo l.j l.at l.six l.initial.choices l.choices

abbrev pub decreases-loop-j : given.decreases-loop-j
decreases-loop-j l = 6 - l.j
