use mathlib.Core.Path.{sym, ap, ◌∙◌, subst}
use mathlib.Core.Bool.{Bool}
use lib.Dec.{T}
use lib.IntN.{ℤ, pos}
use Rattle.candidates.specs.Candidates.{is_current, filled, filler, candidates_of, kept_of, restored_of}
use Rattle.candidates.proofs.Levels.{current-size, in-back, wider}
use Rattle.candidates.proofs.list_candidates.Goals as goal

pub restored-requires : goal.restored-requires
restored-requires c = let q = c.args.current in
    record { is_ideal = c.requires.is_ideal; is_current = subst (λ (z : ℤ). T (is_current z)) (sym (in-back q (wider (current-size q c.requires.is_current)))) c.requires.is_current }

pub kept-requires : goal.kept-requires
kept-requires c =
    let q = c.args.current in
    subst (λ (z : ℤ). T (is_current z)) (sym (in-back q (wider (current-size q c.requires.is_current)))) c.requires.is_current

pub returns-then-restore : goal.returns-then-restore
unfolding candidates_of
returns-then-restore c =
    let q = c.args.current in
    c.restored.ensures
    ∙ ap (λ (z : ℤ). filled z (restored_of c.args.ideal z)) (in-back q (wider (current-size q c.requires.is_current)))
    ∙ sym (ap (λ (b : Bool). filled (filler q b) (candidates_of c.args.ideal q b)) c.if-restore.true)

pub returns-else-restore : goal.returns-else-restore
unfolding candidates_of
returns-else-restore c =
    let q = c.args.current in
    c.kept.ensures
    ∙ ap (λ (z : ℤ). filled (pos 0) (kept_of z)) (in-back q (wider (current-size q c.requires.is_current)))
    ∙ sym (ap (λ (b : Bool). filled (filler q b) (candidates_of c.args.ideal q b)) c.if-restore.false)
