-- A quicker way to the first least where every sum has one last term in common: the least of the first terms is found once, and a tie between the rounded sums is looked for only
-- where the best so far before the last change ties. Assumes nothing.
use Rattle.std.specs.Prelude.{cond, List, [], ◌∷◌, Float}
use Rattle.std.specs.Float.Ieee.{lt, eq}

-- what the last change of `least g v` took the place of; u where nothing was changed
unfoldable pub runner_up : {A : Type 0} → (A → Float) → Float → Float → List A → Float
runner_up g v u [] = u
runner_up g v u (c ∷ cs) = runner_up g (cond (lt (g c) v) (g c) v) (cond (lt (g c) v) v u) cs

-- the first element whose value equals x; d where there is none
unfoldable pub first_equal : {A : Type 0} → (A → Float) → Float → A → List A → A
first_equal g x d [] = d
first_equal g x d (c ∷ cs) = cond (eq (g c) x) c (first_equal g x d cs)
