-- What the calls on lambda, weights and the window answer (document 01, module 5).
use Rattle.std.specs.Prelude.{ℕ, not, ◌&&◌, leb, Float, Result}
use Rattle.std.specs.Float.Ieee.{is_nan}
use Rattle.ac_context.specs.Contexts.{is_covered}
use Rattle.weights.specs.declared.Window.{Window}
use Rattle.weights.specs.Window.{window_of}
use Rattle.weights.specs.Weights.{lambda_of, chroma_weight, distortion_weight}
use Rattle.weights.specs.Settings.{is_distance}
use Rattle.refusals.specs.declared.Refusal.{Refusal}
use Rattle.refusals.specs.Numbers.{answered}

-- any ratio but a NaN
unfoldable pub lambda_reply : Float → Float → Float → Result Float Refusal
lambda_reply rd tuning ratio = answered (not (is_nan ratio)) (lambda_of rd tuning ratio)

-- a distance from 0 to 25
unfoldable pub chroma_reply : Float → Result Float Refusal
chroma_reply distance = answered (is_distance distance) (chroma_weight distance)

-- an index of at most the length, a length of at most 1,024 and a distance from 0 to 25
unfoldable pub distortion_reply : ℕ → ℕ → Float → Result Float Refusal
distortion_reply index len distance = answered (leb index len && leb len 1024 && is_distance distance) (distortion_weight index len distance)

-- covered blocks as in module 2
unfoldable pub window_reply : ℕ → Result Window Refusal
window_reply c = answered (is_covered c) (window_of c)
