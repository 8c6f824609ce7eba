-- The definitions compute to document 02's numbers. Assumes nothing.
use Prim.Native.Nat.{◌*◌}
use mathlib.Core.Path.{◌≡◌, refl}
use mathlib.Core.List.{[], ◌∷◌, map}
use Rattle.block.specs.Band.{half_width}
use Rattle.searches.specs.Outcome.{asked_by}
use Rattle.searches.specs.declared.Search.{Search}
use Rattle.searches.specs.declared.Search.TheVariants.{Greedy, Beam, Trellis, Unfactored}
use Rattle.weights.specs.Window.{window_for}

-- 32 positions; 20 of them, or all, may be restored
one-covered : window_for 32 1 ≡ record { length = 32; restoring = 20 }
unfolding window_for
one-covered = refl

two-covered : window_for 32 2 ≡ record { length = 32; restoring = 32 }
unfolding window_for
two-covered = refl

-- check 14 asks for so many choice bytes
choice-bytes : map (λ (search : Search). (asked_by half_width search).bytes * 32) (Greedy ∷ Beam ∷ Trellis ∷ Unfactored ∷ []) ≡ 0 ∷ 192 ∷ 448 ∷ 448 ∷ []
unfolding asked_by
choice-bytes = refl
