use Rattle.prices.specs.Contents.{contents}
use Rattle.steps.specs.Place.{local_in}
use Rattle.trellis_choice.proofs.Noting.{Partly}
use Rattle.trellis_choice.proofs.locals.locals_in.Given as given

abbrev pub invariant-loop-j : given.invariant-loop-j
invariant-loop-j l =
    let book = contents l.book in
    Partly (local_in book l.place l.context 0) (local_in book l.place l.context 1) l.candidates.levels.now l.j l.first l.second l.locals
