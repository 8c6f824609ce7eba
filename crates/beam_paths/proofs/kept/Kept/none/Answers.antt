use Rattle.beam_paths.proofs.Keeping.{kept-none}
use mathlib.Core.Path.{refl}
use Rattle.beam_paths.proofs.kept.Kept.none.Goals as goal

pub returns : goal.returns
returns c = record { count_value = refl; kept_is = λ q xs. kept-none refl }
