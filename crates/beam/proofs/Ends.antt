-- The last step: the first least over the paths that are left. Assumes nothing.
use mathlib.Core.Path.{◌≡◌, refl, ap, ap₂, ◌∙◌, subst, subst⁻¹}
use mathlib.Core.Bool.{Bool, true, false, cond}
use mathlib.Core.List.{List, [], ◌∷◌}
use Prim.Native.Nat.{ℕ, zero, suc, ◌+◌, ◌*◌, ◌/◌, ◌≤◌, ◌<◌}
use native.Mathlib.Omega.{arith}
use native.Mathlib.Nat.{not-suc-le-zero, le_of_suc-le-suc}
use native.Mathlib.Numerals.{add-one}
use lib.Dec.{T, leb}
use lib.ListN.{length, get_or, drop}
use lib.Ieee.{Float, nan, inf, lt, add, binary32}
use lib.Ieee.Scale.{finite}
use Rattle.beam_paths.specs.Held.{no_path, PathsFor}
use Rattle.beam_paths.specs.Path.{Path}
use Rattle.beam_paths.specs.declared.Paths.{Paths}
use Rattle.block.specs.Band.{problem_of}
use Rattle.block.specs.Block.{Block}
use Rattle.block.specs.Cost.{first_prev, count_cost}
use Rattle.least_cost.specs.Search.{Problem, least, holder}
use Rattle.prices.specs.Book.{Book}
use Rattle.steps.specs.Plan.{Planned}
use Rattle.steps.specs.declared.plan.Plan.{Plan}
use Rattle.beam.specs.Beam.{path_total, beam_cost, beam_path, problem}
use Rattle.beam.specs.Held.{paths, Ended}
use Rattle.steps.specs.Best.{considered}
use Rattle.steps.specs.declared.best.Best.{Best}
use Rattle.search_checks.proofs.Checked.{bit-few}
use Rattle.weights.specs.declared.Window.{Window}
use Rattle.beam.proofs.Priced.{all-paths}

pub first-few : (n c : ℕ) {r : ℕ} → r ≡ cond (leb n (64 * c / 16)) 1 0 → r ≤ 1
first-few n c e = rw e (bit-few (leb n (64 * c / 16)))

-- ---- one path's cost
pub total_here : (v : Window) (book : Book) (b : Block) {plan : Plan} (xs : List Path) (s : Paths) (j prev : ℕ) (count : Float) → Planned b plan → PathsFor xs s → j < s.count
    → prev ≡ cond (leb (get_or s.remaining j 0) (64 * plan.covered / 16)) 1 0 → count ≡ count_cost book b (get_or s.remaining j 0)
    → add binary32 (get_or s.costs (2 * j + prev) nan) count ≡ path_total (problem v book b) (get_or xs j no_path)
unfolding path_total problem_of first_prev
total_here v book b {plan} xs s j prev count w F h e f =
    let l : j < length xs = omega (arith, F.count_is) in
    let small : prev ≤ 1 = subst⁻¹ (λ (k : ℕ). k ≤ 1) e (bit-few (leb (get_or s.remaining j 0) (64 * plan.covered / 16))) in
    let value = F.cost_is j prev l small in
    let count-here = F.remaining_is j l in
    let here = w.covered_is in
    cc

-- ---- the paths one after the other, from j on
pub record Sofar (w : Problem) (xs : List Path) (j : ℕ) (best : Best ℕ) : Type 0 where
  pub cost-left : least (path_total w) best.cost (drop j xs) ≡ least (path_total w) (inf false) xs
  pub path-left : holder (path_total w) best.cost (get_or xs best.choice no_path) (drop j xs) ≡ holder (path_total w) (inf false) no_path xs
  pub inside : T (finite best.cost) → best.choice < length xs

past : (xs : List Path) (j : ℕ) → length xs ≤ j → get_or xs j no_path ≡ no_path
past [] j h = refl
past (x ∷ xs) zero h = absurd (not-suc-le-zero h)
past (x ∷ xs) (suc j) h = past xs j (le_of_suc-le-suc h)

pub sofar-start : (w : Problem) (xs : List Path) (x : Float) → x ≡ inf false → length xs ≤ 3 → Sofar w xs 0 (record { cost = x; choice = 3 })
sofar-start w xs x e h =
    record {
      cost-left = ap (λ (y : Float). least (path_total w) y xs) e;
      path-left = ap₂ (λ (y : Float) (d : Path). holder (path_total w) y d xs) e (past xs 3 h);
      inside = λ f. absurd (subst (λ (y : Float). T (finite y)) e f);
    }

drop_here : (xs : List Path) (j : ℕ) → j < length xs → drop j xs ≡ get_or xs j no_path ∷ drop (suc j) xs
drop_here [] j h = absurd (not-suc-le-zero h)
drop_here (x ∷ xs) zero h = refl
drop_here (x ∷ xs) (suc j) h = drop_here xs j (le_of_suc-le-suc h)

pub sofar-more : {w : Problem} {xs : List Path} {j : ℕ} {x y : Best ℕ} {cost : Float} → j < length xs → cost ≡ path_total w (get_or xs j no_path) → y ≡ considered x cost j → Sofar w xs j x → Sofar w xs (j + 1) y
unfolding least holder considered
sofar-more {w} {xs} {j} {x} {y} {cost} h e f s =
    rw (f, e, add-one) (go (lt (path_total w (get_or xs j no_path)) x.cost) (rw (drop_here xs j h) at s.cost-left) (rw (drop_here xs j h) at s.path-left))
  where
    go : (t : Bool) → least (path_total w) (cond t (path_total w (get_or xs j no_path)) x.cost) (drop (suc j) xs) ≡ least (path_total w) (inf false) xs
        → holder (path_total w) (cond t (path_total w (get_or xs j no_path)) x.cost) (cond t (get_or xs j no_path) (get_or xs x.choice no_path)) (drop (suc j) xs) ≡ holder (path_total w) (inf false) no_path xs
        → Sofar w xs (suc j) (cond {A = Best ℕ} t (record { cost = path_total w (get_or xs j no_path); choice = j }) x)
    go true p q = record { cost-left = p; path-left = q; inside = λ k. h }
    go false p q = record { cost-left = p; path-left = q; inside = s.inside }

drop_all : (xs : List Path) (j : ℕ) → length xs ≤ j → drop j xs ≡ []
drop_all [] zero h = refl
drop_all [] (suc j) h = refl
drop_all (x ∷ xs) zero h = absurd (not-suc-le-zero h)
drop_all (x ∷ xs) (suc j) h = drop_all xs j (le_of_suc-le-suc h)

pub sofar-end : (v : Window) (book : Book) (b : Block) {j : ℕ} {best : Best ℕ} → length (paths v book b 0) ≤ j → Sofar (problem v book b) (paths v book b 0) j best → Ended v book b best
unfolding least holder beam_cost beam_path
sofar-end v book b {j} {best} h s =
    let none = drop_all (paths v book b 0) j h in
    record {
      cost_is = (rw none at s.cost-left) ∙ ap (least (path_total (problem v book b)) (inf false)) (all-paths v book b);
      path_is = (rw none at s.path-left) ∙ ap (holder (path_total (problem v book b)) (inf false) no_path) (all-paths v book b);
      inside = s.inside;
    }
