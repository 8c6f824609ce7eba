use Rattle.beam_row.proofs.Trying.{leads-zero, leads_one, path-past}
use mathlib.Core.Path.{refl}
use Rattle.beam_row.proofs.ways.try_path.Goals as goal

pub returns-then-remaining-entry : goal.returns-then-remaining-entry
returns-then-remaining-entry c = let call = c.try_levels.ensures in
    let own = c.if-remaining-entry.true in
    record { remaining_value = call.remaining_value; both_of = λ q xs ws S P b. call.both_of q xs ws S (leads-zero P own) b }

pub returns-then-remaining-entry-2 : goal.returns-then-remaining-entry-2
returns-then-remaining-entry-2 c = let call = c.try_levels-then-remaining-entry-2.ensures in
    let next = c.if-remaining-entry-2.true in
    record { remaining_value = call.remaining_value; both_of = λ q xs ws S P b. call.both_of q xs ws S (leads_one P next) b }

pub returns : goal.returns
returns c = record { remaining_value = refl; both_of = λ q xs ws S P b. path-past P c.if-remaining-entry.false c.if-remaining-entry-2.false b }
