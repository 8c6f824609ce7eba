use mathlib.Core.Path.{sym, ap, ◌∙◌, subst}
use lib.Dec.{T}
use lib.IntN.{ℤ}
use Rattle.candidates.specs.Candidates.{is_current, filled, filler, candidates_of}
use Rattle.candidates.proofs.Levels.{current-size, in-back, wider}
use Rattle.candidates.proofs.rdoq_candidates.Goals as goal

pub list_candidates-count-requires : goal.list_candidates-count-requires
list_candidates-count-requires c = let q = c.args.current in
    record { is_ideal = c.requires.is_ideal; is_current = subst (λ (z : ℤ). T (is_current z)) (sym (in-back q (wider (current-size q c.requires.is_current)))) c.requires.is_current }

pub returns : goal.returns
returns c =
    let q = c.args.current in
    c.list_candidates-count.ensures
    ∙ ap (λ (z : ℤ). filled (filler z c.args.restore) (candidates_of c.args.ideal z c.args.restore)) (in-back q (wider (current-size q c.requires.is_current)))
