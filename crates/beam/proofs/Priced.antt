-- The paths of a block that passes its checks, with a book that passes its own: what they carry, and what the cheapest of them is. Assumes nothing.
use mathlib.Core.Path.{◌≡◌, refl, sym, ap, ◌∙◌, subst, subst⁻¹}
use mathlib.Core.Bool.{Bool, true, false}
use mathlib.Core.List.Memᴰ.{head as here}
use mathlib.Core.List.Memᴰ.{tail as there}
use mathlib.Core.List.{List, [], ◌∷◌, Memᴰ as Mem}
use Prim.Native.Nat.{ℕ, zero, suc, ◌+◌, ◌-◌, ◌*◌, ◌≤◌, ◌<◌}
use native.Mathlib.Omega.{arith}
use native.Mathlib.Nat.{not-suc-le-zero, le_of_suc-le-suc}
use lib.Dec.{T}
use lib.ListN.{length, get_or}
use lib.Ieee.{Float, inf, binary32, add, le}
use lib.Ieee.Scale.{finite}
use Rattle.beam_paths.specs.Held.{no_path}
use Rattle.beam_paths.specs.Path.{Path}
use Rattle.block.specs.Band.{position_at, positions_from, tail_of, problem_of, half_width}
use Rattle.block.specs.Block.{Block, covered}
use Rattle.block.specs.Cost.{first_prev, count_cost}
use Rattle.block_checks.specs.Passed.{Passed}
use Rattle.costs.specs.Cost.{cost}
use Rattle.costs.proofs.Bound.{capped-cost}
use Rattle.costs.proofs.Order as Order
use Rattle.costs.proofs.Sum.{add-cost, finite-terms}
use Rattle.costs.proofs.View.{at-inf, viewed}
use Rattle.least_cost.specs.Choice.{Choice, cost_of}
use Rattle.least_cost.specs.Search.{Problem, count_of, whole_cost}
use Rattle.least_cost.proofs.First.{Found, found-mem, finite-found, least-cost, least-le}
use Rattle.prices.specs.Book.{Book}
use Rattle.prices.specs.Checks.{book_refusal}
use Rattle.problem.proofs.Local.{candidates-level, local-capped, count-capped}
use Rattle.problem.proofs.Problem.{tail-capped, past-most, positions-length}
use Rattle.problem.specs.Tokens.{past_length}
use Rattle.search_checks.specs.Checked.{positions}
use Rattle.search_checks.proofs.Checked.{first_bit}
use Rattle.weights.specs.declared.Window.{Window}
use Rattle.beam.specs.Beam.{beam_paths, path_total, paths_of, beam_cost, beam_path, beam_count, beam_levels, problem}
use Rattle.beam.specs.Held.{paths, path_at}
use Rattle.beam.proofs.Carried.{Priced, AllPriced, none-priced, more-priced, Carried, Stands, carried}

-- an element of a list stands in it
pub at_listed : {A : Type 0} (xs : List A) (d : A) (j : ℕ) → j < length xs → Mem (get_or xs j d) xs
at_listed [] d j h = absurd (not-suc-le-zero h)
at_listed (x ∷ xs) d zero h = here refl
at_listed (x ∷ xs) d (suc j) h = there (at_listed xs d j (le_of_suc-le-suc h))

-- the paths of the whole window
pub all-paths : (v : Window) (book : Book) (b : Block) → paths v book b 0 ≡ paths_of (problem v book b)
unfolding problem_of
all-paths v book b =
    let all : v.length - 0 ≡ v.length = omega arith in
    ap (λ (n : ℕ). beam_paths (tail_of v book b) (positions_from half_width v book b 0 n)) all

module _ (v : Window) (book : Book) (ok : book_refusal book ≡ 0) (b : Block) (P : Passed v b) where
  pub local-cost : (i : ℕ) → i < v.length → Priced (position_at half_width v book b i)
  unfolding position_at
  local-cost i h = record { prices = λ r q c Q m. capped-cost binary32 1 194 _ (local-capped book ok v b P i h c (candidates-level book ok v b P i h c m) r q) }

  tail-costs : (q : ℕ) → q ≤ 1 → T (cost ((tail_of v book b).cost q))
  unfolding tail_of
  tail-costs q Q = capped-cost binary32 _ 194 _ (tail-capped book ok v b P q)

  all-priced : (n i : ℕ) → i + n ≤ v.length → AllPriced (tail_of v book b) (positions_from half_width v book b i n)
  unfolding positions_from
  all-priced zero i h = none-priced tail-costs
  all-priced (suc n) i h = more-priced (local-cost i (omega arith)) (all-priced n (suc i) (omega arith))

  -- ---- the paths from i on
  pub carried_here : (i : ℕ) → i ≤ v.length → (x : Path) → Mem x (paths v book b i) → Carried (tail_of v book b) (positions half_width v book b i) x
  carried_here i h x m = carried (tail_of v book b) (positions half_width v book b i) (all-priced (v.length - i) i (omega arith)) x m

  pub carried-at : (i j : ℕ) → i ≤ v.length → j < length (paths v book b i) → Carried (tail_of v book b) (positions half_width v book b i) (path_at v book b i j)
  carried-at i j h k = carried_here i h _ (at_listed (paths v book b i) no_path j k)

  fits-here : (i : ℕ) → i ≤ v.length → (x : Path) → Carried (tail_of v book b) (positions half_width v book b i) x → x.remaining + (covered b + i) ≤ 64 * covered b
  unfolding tail_of past_length
  fits-here i h x C = omega (arith, C.most, positions-length half_width v book b i (v.length - i), past-most v b, P.window.fits)

  -- a count fits behind its position
  pub count_fits : (i j : ℕ) → i ≤ v.length → j < length (paths v book b i) → (path_at v book b i j).remaining + (covered b + i) ≤ 64 * covered b
  count_fits i j h k = fits-here i h _ (carried-at i j h k)

  -- ---- the paths of the whole window
  abbrev whole : Problem
  whole = problem v book b

  whole-carried : (x : Path) → Mem x (paths_of whole) → Carried whole.tail whole.positions x
  unfolding problem_of
  whole-carried x m = carried (tail_of v book b) _ (all-priced v.length 0 (omega arith)) x m

  count-cost : (x : Path) → Mem x (paths_of whole) → T (cost (count_cost book b x.remaining))
  count-cost x m =
      let fits = fits-here 0 (omega arith) x (carried_here 0 (omega arith) x (subst⁻¹ (Mem x) (all-paths v book b) m)) in
      capped-cost binary32 1 194 _ (count-capped book ok v b P x.remaining (omega (arith, P.most)))

  total-cost : (x : Path) → Mem x (paths_of whole) → T (cost (path_total whole x))
  unfolding path_total problem_of
  total-cost x m = add-cost binary32 _ _ ((whole-carried x m).costs (first_prev b x.remaining) (first_bit b x.remaining)) (count-cost x m)

  pub beam-cost : T (cost (beam_cost whole))
  unfolding beam_cost
  beam-cost = least-cost (path_total whole) (inf false) (paths_of whole) (viewed at-inf) total-cost

  -- no path costs less, and where the least is infinite, so is each
  pub least_kept : (x : Path) → Mem x (paths_of whole) → T (le (beam_cost whole) (path_total whole x))
  unfolding beam_cost
  least_kept x m = least-le (path_total whole) (inf false) (paths_of whole) (viewed at-inf) total-cost x m

  pub each-infinite : finite (beam_cost whole) ≡ false → (x : Path) → Mem x (paths_of whole) → path_total whole x ≡ inf false
  each-infinite e x m =
      let none = Order.infinite (beam_cost whole) beam-cost (rw e tt) in
      Order.inf-le (path_total whole x) (total-cost x m) (subst (λ (y : Float). T (le y (path_total whole x))) none (least_kept x m))

  -- ---- the cheapest path, where its cost is finite
  module _ (h : T (finite (beam_cost whole))) where
    found : Found (path_total whole) (inf false) (paths_of whole) (beam_cost whole) (beam_path whole)
    unfolding beam_cost beam_path
    found = finite-found (path_total whole) no_path (paths_of whole) total-cost h

    listed : Mem (beam_path whole) (paths_of whole)
    listed = found-mem (path_total whole) (inf false) (paths_of whole) _ _ found

    pub path-finite : T (finite ((beam_path whole).cost (first_prev b (beam_path whole).remaining)))
    unfolding path_total problem_of
    path-finite =
        (finite-terms binary32 _ _ ((whole-carried _ listed).costs (first_prev b (beam_path whole).remaining) (first_bit b (beam_path whole).remaining)) (count-cost _ listed)
        (subst (λ (x : Float). T (finite x)) found.value h)).0

    stands : Stands whole.tail whole.positions (first_prev b (beam_path whole).remaining) (beam_path whole).remaining ((beam_path whole).cost (first_prev b (beam_path whole).remaining)) ((beam_path whole).levels (first_prev b (beam_path whole).remaining))
    stands = (whole-carried _ listed).stands (first_prev b (beam_path whole).remaining) (first_bit b (beam_path whole).remaining) path-finite

    -- the levels found are a choice, and the count and the cost found are theirs
    pub levels-choice : Choice whole.positions (beam_levels whole)
    unfolding beam_levels beam_count problem_of
    levels-choice = stands.choice

    pub levels-count : count_of whole (beam_levels whole) ≡ beam_count whole
    unfolding beam_levels beam_count count_of problem_of
    levels-count = stands.count

    pub levels-cost : whole_cost whole (beam_levels whole) ≡ beam_cost whole
    unfolding beam_levels beam_count whole_cost count_of problem_of path_total
    levels-cost =
        ap (λ (n : ℕ). add binary32 (cost_of (tail_of v book b) (positions_from half_width v book b 0 v.length) (first_prev b n) (beam_levels whole)) (count_cost book b n)) levels-count
        ∙ ap (λ (x : Float). add binary32 x (count_cost book b (beam_path whole).remaining)) stands.costs
        ∙ sym found.value

  -- where each path's cost is infinite, so is the least
  pub least-infinite : ((x : Path) → Mem x (paths_of whole) → path_total whole x ≡ inf false) → finite (beam_cost whole) ≡ false
  least-infinite f = go (finite (beam_cost whole)) refl
    where
      go : (t : Bool) → finite (beam_cost whole) ≡ t → finite (beam_cost whole) ≡ false
      go false e = e
      go true e =
          let h : T (finite (beam_cost whole)) = rw e tt in
          absurd (subst (λ (y : Float). T (finite y)) ((found h).value ∙ f (beam_path whole) (listed h)) h)
