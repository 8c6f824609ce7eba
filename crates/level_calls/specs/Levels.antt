-- What the call on candidates answers (document 01, module 6).
use Rattle.std.specs.Prelude.{Bool, ◌&&◌, ℤ, Float, Result}
use Rattle.refusals.specs.declared.Refusal.{Refusal}
use Rattle.refusals.specs.Numbers.{answered}
use Rattle.candidates.specs.declared.Candidates.{Candidates}
use Rattle.candidates.specs.Nearest.{is_ideal}
use Rattle.candidates.specs.Candidates.{candidates_of, filled, filler, is_current}

-- an ideal and a level within ±32,767
unfoldable pub candidates_reply : Float → ℤ → Bool → Result Candidates Refusal
candidates_reply ideal current restore =
    answered (is_ideal ideal && is_current current) (filled (filler current restore) (candidates_of ideal current restore))
