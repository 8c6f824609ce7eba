-- What is read at a window position is what the block's definitions give. Assumes nothing.
use mathlib.Core.Path.{◌≡◌, refl, ap, ◌∙◌}
use mathlib.Core.Bool.{Bool, cond}
use mathlib.Core.List.{List, [], ◌∷◌, ◌++◌}
use Prim.Native.Nat.{ℕ, ◌+◌}
use lib.Dec.{T, eqb, ltb, le→leb}
use lib.IntN.{ℤ}
use lib.ListN.{length, take}
use lib.Ieee.{Float}
use Rattle.block.specs.Block.{Block, covered, input_at, ideal, ideal_at, candidates_at}
use Rattle.candidates.specs.Candidates.{candidates_of, filled, filler, is_current}
use Rattle.candidates.specs.Nearest.{is_ideal}
use Rattle.candidates.specs.declared.Candidates.{Candidates}
use Rattle.candidates.proofs.Laws.{candidates-listed, inside-at, filled_at, filled-length, filled-count}
use Rattle.least_cost.specs.Position.{nz}
use Rattle.scan.specs.Scan.{level_at}
use Rattle.weights.specs.Settings.{weight_at, scaled_weight}
use Rattle.steps.specs.Place.{place_of, nonzero_rate}
use Rattle.steps.specs.Plan.{PlannedParts, Lists, Offered, Usable, listed}
use Rattle.steps.specs.declared.plan.PlanParts.{PlanParts}

-- the candidates as the leaf hands them over
pub filled-usable : (x : Float) (q : ℤ) (restore : Bool) (c : Candidates) → T (is_ideal x) → T (is_current q) → c ≡ filled (filler q restore) (candidates_of x q restore) → Usable c
filled-usable x q restore c X Q e =
    let l = candidates-listed x q restore X Q in
    rw e
    (record {
      few = rw (filled-count (filler q restore) (candidates_of x q restore)) l.five;
      five = filled-length (filler q restore) (candidates_of x q restore) l.five;
      levels = λ j h.
          let k = rw (filled-count (filler q restore) (candidates_of x q restore)) at h in
          rw (filled_at (filler q restore) (candidates_of x q restore) j k) (le→leb _ 32768 (inside-at l j k));
    })

whole : (xs ys : List ℤ) → take (length xs) (xs ++ ys) ≡ xs
whole [] ys = refl
whole (x ∷ xs) ys = ap (λ (l : List ℤ). x ∷ l) (whole xs ys)

pub filled-listed : (x : Float) (q : ℤ) (restore : Bool) (c : Candidates) → c ≡ filled (filler q restore) (candidates_of x q restore) → listed c ≡ candidates_of x q restore
unfolding filled
filled-listed x q restore c e = ap listed e ∙ whole (candidates_of x q restore) _

-- what the code reads at a window position, by a plan and the lists
pub offered : (b : Block) (p : PlanParts) (i : ℕ) (scan : List ℕ) (source inverse : List Float) (levels : List ℤ) (restoring : Bool) (x : Float) (q : ℤ) (c : Candidates)
    → Lists b scan source inverse levels → PlannedParts b p → restoring ≡ ltb i p.window.restoring
    → x ≡ ideal_at scan source inverse p.scale (p.covered + i) → q ≡ level_at scan levels (p.covered + i) → c ≡ filled (filler q restoring) (candidates_of x q restoring)
    → Offered p.window b i (record { ideal = x; count = c.count; level = q }) c.levels
unfolding ideal input_at candidates_at
offered b p i scan source inverse levels restoring x q c l w r ex eq ec =
    let at : p.covered + i ≡ covered b + i = ap (λ (n : ℕ). n + i) w.covered_is in
    let level : q ≡ level_at b.scan b.levels (covered b + i) = cc in
    let value : x ≡ ideal_at b.scan b.source b.inverse b.scale (covered b + i) = cc in
    record {
      ideal_is = value;
      listed_is = filled-listed x q restoring c ec ∙ cc;
      level_is = level;
    }

-- what the code works out there
pub placed : (b : Block) (p : PlanParts) (i : ℕ) (x weight rate : Float) (q : ℤ)
    → PlannedParts b p → x ≡ ideal b i → q ≡ input_at b (covered b + i) → weight ≡ scaled_weight p.channel_scale i p.base p.distance
    → rate ≡ cond (eqb (nz q) 0) p.restore_rate p.lambda
    → record { k = p.covered + i; covered = p.covered; log2 = p.log2; offset = p.offset; weight = weight; ideal = x; bias = p.bias; lambda = p.lambda; nonzero_rate = rate } ≡ place_of b p.log2 i
unfolding place_of nonzero_rate weight_at
placed b p i x weight rate q w ex eq ew er =
    let at : p.covered + i ≡ covered b + i = ap (λ (n : ℕ). n + i) w.covered_is in
    cc
