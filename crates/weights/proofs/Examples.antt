-- The definitions compute on some base lengths and weights. Assumes nothing.
use mathlib.Core.Path.{◌≡◌, refl}
use mathlib.Core.Bool.{false}
use mathlib.Core.List.{[], ◌∷◌, map}
use lib.IntN.{pos, negsuc}
use lib.Ieee.{fin, of_int, add, sub, mul, div, lt}
use Rattle.weights.specs.Window.{base_len}
use Rattle.weights.specs.Weights.{chroma_weight, distortion_weight}

bases : map base_len (1 ∷ 2 ∷ 16 ∷ 32 ∷ []) ≡ 24 ∷ 48 ∷ 64 ∷ 64 ∷ []
bases = refl

-- at a distance of 3 the first position of a window weighs 2, and one in the middle 1.25
first : distortion_weight 0 24 (fin false 3 (pos 0)) ≡ fin false 1 (pos 1)
unfolding distortion_weight of_int add sub mul div lt
first = refl

middle : distortion_weight 12 24 (fin false 3 (pos 0)) ≡ fin false 5 (negsuc 1)
unfolding distortion_weight of_int add sub mul div lt
middle = refl

-- chroma weighs 2 up to 2.25, 1.5 at 3.125 and 1 from 4
near : chroma_weight (fin false 9 (negsuc 1)) ≡ fin false 1 (pos 1)
unfolding chroma_weight add sub mul div lt
near = refl

between : chroma_weight (fin false 25 (negsuc 2)) ≡ fin false 3 (negsuc 0)
unfolding chroma_weight add sub mul div lt
between = refl

far : chroma_weight (fin false 25 (pos 0)) ≡ fin false 1 (pos 0)
unfolding chroma_weight add sub mul div lt
far = refl
