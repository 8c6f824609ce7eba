use Rattle.std.proofs.Common.{◌≡◌, length, get_or, pos}
use lib.Ieee.{nan}
use Rattle.steps.proofs.Arrays.{Front}
use Rattle.steps.specs.Place.{distortion_at}
use Rattle.steps.proofs.reading.distortions.Given as given

abbrev pub invariant-loop-j : given.invariant-loop-j
invariant-loop-j l =
    (length l.distortion ≡ 5) × Front nan (λ k. distortion_at l.place (get_or l.candidates.levels.now k (pos 0))) l.j l.distortion
