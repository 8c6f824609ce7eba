-- The band of a search problem plays no part in the beam: any half-width gives the same cost, count and levels. Assumes nothing.
use mathlib.Core.Path.{◌≡◌, refl, ap, ap₂, ◌∙◌}
use mathlib.Core.Bool.{false, cond}
use mathlib.Core.List.{List, [], ◌∷◌}
use Prim.Native.Nat.{ℕ, zero, suc}
use lib.Dec.{eqb}
use lib.IntN.{ℤ, pos}
use lib.ListN.{length, get_or}
use lib.Ieee.{Float, inf}
use Rattle.beam_paths.specs.Path.{Path, Way, way_cost, way_remaining, way_levels, ways, no_way}
use Rattle.beam_paths.specs.Step.{extended, counts_named, merged, merged_at, kept, stepped}
use Rattle.block.specs.Band.{position_at, positions_from, tail_of, problem_of}
use Rattle.block.specs.Block.{Block, candidates_at}
use Rattle.block.specs.Cost.{local_cost, first_prev}
use Rattle.least_cost.specs.Position.{Position, Tail}
use Rattle.least_cost.specs.Search.{least, holder}
use Rattle.prices.specs.Book.{Book}
use Rattle.weights.specs.declared.Window.{Window}
use Rattle.beam.specs.Beam.{beam_paths, path_total, paths_of, beam_cost, beam_path, beam_count, beam_levels}

-- a position with another band
abbrev banded : List ℤ → (ℕ → ℕ → ℤ → Float) → ℕ → ℕ → Position
banded cs price low high = record { candidates = cs; low = low; high = high; price = price }

module _ (cs : List ℤ) (price : ℕ → ℕ → ℤ → Float) (l h l' h' : ℕ) where
  abbrev one : ℤ → Path → Path
  one c x =
      record {
        remaining = way_remaining (record { path = x; level = c });
        cost = λ p. way_cost (banded cs price l h) p (record { path = x; level = c });
        levels = λ p. way_levels (record { path = x; level = c });
      }

  extended-same : (c : ℤ) (xs : List Path) → extended (banded cs price l h) c xs ≡ extended (banded cs price l' h') c xs
  unfolding extended way_cost
  extended-same c [] = refl
  extended-same c (x ∷ xs) = ap (λ (ys : List Path). one c x ∷ ys) (extended-same c xs)

  merged-same : (ws : List Way) (ns : List ℕ) → merged_at (banded cs price l h) ws ns ≡ merged_at (banded cs price l' h') ws ns
  unfolding merged_at merged way_cost
  merged-same ws [] = refl
  merged-same ws (n ∷ ns) = ap (λ (ys : List Path). merged (banded cs price l h) ws n ∷ ys) (merged-same ws ns)

  stepped_same : (xs : List Path) → stepped (banded cs price l h) xs ≡ stepped (banded cs price l' h') xs
  unfolding stepped
  stepped_same xs =
      ap₂ (λ (a b : List Path). cond (eqb (length cs) 1) a b) (extended-same (get_or cs 0 (pos 0)) xs) (ap kept (merged-same (ways xs cs) (counts_named [] xs)))

module _ (v : Window) (book : Book) (b : Block) (w w' : ℕ) where
  paths-same : (t : Tail) (n i : ℕ) → beam_paths t (positions_from w v book b i n) ≡ beam_paths t (positions_from w' v book b i n)
  unfolding beam_paths positions_from position_at
  paths-same t zero i = refl
  paths-same t (suc n) i =
      stepped_same (candidates_at v b i) (local_cost book b i) _ _ _ _ (beam_paths t (positions_from w v book b (suc i) n))
      ∙ ap (stepped (position_at w' v book b i)) (paths-same t n (suc i))

  all_same : paths_of (problem_of w v book b) ≡ paths_of (problem_of w' v book b)
  unfolding problem_of
  all_same = paths-same (tail_of v book b) v.length 0

  pub any-cost : beam_cost (problem_of w v book b) ≡ beam_cost (problem_of w' v book b)
  unfolding beam_cost path_total problem_of
  any-cost = ap (least (path_total (problem_of w v book b)) (inf false)) all_same

  any-path : beam_path (problem_of w v book b) ≡ beam_path (problem_of w' v book b)
  unfolding beam_path path_total problem_of
  any-path = ap (holder (path_total (problem_of w v book b)) (inf false) no_way.path) all_same

  pub any-count : beam_count (problem_of w v book b) ≡ beam_count (problem_of w' v book b)
  unfolding beam_count
  any-count = ap (λ (x : Path). x.remaining) any-path

  pub any-levels : beam_levels (problem_of w v book b) ≡ beam_levels (problem_of w' v book b)
  unfolding beam_levels beam_count problem_of
  any-levels = ap (λ (x : Path). x.levels (first_prev b x.remaining)) any-path
