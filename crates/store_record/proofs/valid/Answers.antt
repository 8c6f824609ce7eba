use mathlib.Core.Path.{refl, ◌∙◌}
use mathlib.Core.Bool.{and-false}
use borrow.Author.Tests.{eq-eqb, ne_eqb, lt-leb, le-leb}
use lib.ListN.{length, get_or}
use Rattle.store_record.specs.Runs.{valid_record, runs_of}
use Rattle.store_record.proofs.Marks.{pass-valid}
use Rattle.store_record.proofs.valid.Goals as goal

pub returns-then-rec-ne-RECORD : goal.returns-then-rec-ne-RECORD
unfolding valid_record runs_of
returns-then-rec-ne-RECORD c = simp (ne_eqb _ _ c.if-rec-ne-RECORD.true)

pub returns-then-count-gt-RUNS : goal.returns-then-count-gt-RUNS
unfolding valid_record runs_of
returns-then-count-gt-RUNS c = simp (lt-leb _ _ c.if-count-gt-RUNS.true, and-false)

pub returns : goal.returns
unfolding valid_record runs_of
returns c =
    let rec = c.args.rec.now in
    rw (eq-eqb (length rec) 3073 c.if-rec-ne-RECORD.false, le-leb (get_or rec 0 0) 1024 c.if-count-gt-RUNS.false)
    (c.runs_pass.ensures ∙ pass-valid _ _ _ refl)
