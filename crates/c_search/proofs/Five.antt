-- There are at most five candidates. Assumes nothing.
use Rattle.std.proofs.Common.{◌≡◌, ◌≤◌, Bool, true, false, ◌&&◌, ℤ, Ok, refl}
use lib.Ieee.{Float}
use Rattle.candidates.specs.declared.Candidates.{Candidates}
use Rattle.candidates.specs.Nearest.{is_ideal}
use Rattle.candidates.specs.Candidates.{candidates_of, filled, filler, is_current}
use Rattle.candidates.proofs.Laws.{candidates-listed, filled-count}
use Rattle.refusals.specs.Numbers.{answered}
use Rattle.level_calls.specs.Levels.{candidates_reply}

module _ (ideal : Float) (current : ℤ) (restore : Bool) (found : Candidates) where
  abbrev list : Candidates
  list = filled (filler current restore) (candidates_of ideal current restore)

  few : (i j : Bool) → is_ideal ideal ≡ i → is_current current ≡ j → Ok found ≡ answered (i && j) list → found.count ≤ 5
  few true true p q e =
      let same : found ≡ list = cc in
      rw (same, filled-count (filler current restore) (candidates_of ideal current restore)) (candidates-listed ideal current restore (rw p tt) (rw q tt)).five
  few true false p q e = cc
  few false j p q e = cc

  pub at-most-five : Ok found ≡ candidates_reply ideal current restore → found.count ≤ 5
  unfolding candidates_reply
  at-most-five e = few (is_ideal ideal) (is_current current) refl refl e
