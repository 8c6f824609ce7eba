use Rattle.group_checks.proofs.Marks.{marks-none}
use Rattle.group_checks.proofs.places.Goals as goal

pub places_on-requires : goal.places_on-requires
places_on-requires c = record { marks = marks-none _; tested = c.requires }
