use Rattle.beam_paths.proofs.Closing.{paths-closed, bytes-closed}
use Rattle.beam_paths.proofs.kept.Kept.step.Goals as goal

pub returns : goal.returns
returns c =
    λ q xs ys few w. (paths-closed w, rw (c.byte_of.ensures, c.byte_of-2.ensures, c.byte_of-3.ensures, c.byte_of-4.ensures, c.byte_of-5.ensures, c.byte_of-6.ensures) (bytes-closed w few))
