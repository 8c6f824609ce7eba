-- A wider band holds every choice of a narrower one, at the same cost; so it is never dearer, and answers wherever the narrower did. Assumes nothing.
use mathlib.Core.Path.{◌≡◌, refl, sym, ap, ap₂, ◌∙◌, subst, subst⁻¹}
use mathlib.Core.Bool.{Bool, true, false, not, ◌&&◌}
use mathlib.Core.List.{List, [], ◌∷◌}
use Prim.Native.Nat.{ℕ, zero, suc, ◌+◌, ◌-◌, ◌≤◌, ◌<◌}
use native.Mathlib.Omega.{arith}
use lib.Dec.{T, leb, leb→le, le→leb}
use lib.IntN.{ℤ}
use lib.Ieee.{Float, inf, le, add, binary32}
use lib.Ieee.Fits.{and_i, and_l, and_r}
use lib.Ieee.Scale.{finite}
use Rattle.block.specs.Block.{Block}
use Rattle.block.specs.Band.{position_at, positions_from, tail_of, past_window, problem_of, input_after}
use Rattle.block.specs.Cost.{first_prev, count_cost}
use Rattle.block_checks.specs.Passed.{Passed}
use Rattle.costs.proofs.Order as Order
use Rattle.least_cost.specs.Position.{Tail, nz, within}
use Rattle.least_cost.specs.Choice.{Choice, done, takes, remaining, in_band, cost_of}
use Rattle.least_cost.specs.Search.{Banded, count_of, whole_cost, least_total, least_levels}
use Rattle.least_cost.proofs.Whole.{least_total-cost}
use Rattle.prices.specs.Book.{Book}
use Rattle.prices.specs.Checks.{book_refusal}
use Rattle.weights.specs.declared.Window.{Window}
use Rattle.problem.proofs.Problem.{sound}
use Rattle.problem.proofs.Main.{found, none-cheaper}

module _ (v : Window) (book : Book) (b : Block) (w w' : ℕ) (h : w ≤ w') where
  choice-same : (n i : ℕ) (cs : List ℤ) → Choice (positions_from w v book b i n) cs → Choice (positions_from w' v book b i n) cs
  unfolding positions_from position_at
  choice-same zero i [] done = done
  choice-same (suc n) i (c ∷ cs) (takes m k) = takes m (choice-same n (suc i) cs k)
  choice-same zero i (c ∷ cs) x'' = elim x'' [ ]
  choice-same (suc n) i [] x3 = elim x3 [ ]

  part : (i r : ℕ) → T (within (position_at w v book b i) r) → T (within (position_at w' v book b i) r)
  unfolding within position_at
  part i r t =
      let a = input_after b i in
      let low = leb→le (a - w) r (and_l (leb (a - w) r) (leb r (a + w)) t) in
      let high = leb→le r (a + w) (and_r (leb (a - w) r) (leb r (a + w)) t) in
      and_i (leb (a - w') r) (leb r (a + w')) (le→leb (a - w') r (omega arith)) (le→leb r (a + w') (omega arith))

  band-wider : (s n i : ℕ) (cs : List ℤ) → T (in_band s (positions_from w v book b i n) cs) → T (in_band s (positions_from w' v book b i n) cs)
  unfolding positions_from in_band
  band-wider s zero i cs t = tt
  band-wider s (suc n) i [] t = t
  band-wider s (suc n) i (c ∷ cs) t =
      let p = within (position_at w v book b i) (remaining s cs) in
      let q = in_band s (positions_from w v book b (suc i) n) cs in
      and_i (within (position_at w' v book b i) (remaining s cs)) (in_band s (positions_from w' v book b (suc i) n) cs)
      (part i (remaining s cs) (and_l p q t)) (band-wider s n (suc i) cs (and_r p q t))

  cost-same : (t : Tail) (n i p : ℕ) (cs : List ℤ) → cost_of t (positions_from w v book b i n) p cs ≡ cost_of t (positions_from w' v book b i n) p cs
  unfolding positions_from position_at cost_of
  cost-same t zero i p cs = refl
  cost-same t (suc n) i p [] = refl
  cost-same t (suc n) i p (c ∷ cs) = ap (add binary32 _) (cost-same t n (suc i) (nz c) cs)

  banded-wider : (cs : List ℤ) → Banded (problem_of w v book b) cs → Banded (problem_of w' v book b) cs
  unfolding problem_of tail_of
  banded-wider cs B = record { choice = choice-same v.length 0 cs B.choice; band = band-wider (past_window v b) v.length 0 cs B.band }

  whole_same : (cs : List ℤ) → whole_cost (problem_of w v book b) cs ≡ whole_cost (problem_of w' v book b) cs
  unfolding whole_cost count_of problem_of
  whole_same cs = ap (λ (x : Float). add binary32 x (count_cost book b (remaining (tail_of v book b).count cs))) (cost-same (tail_of v book b) v.length 0 (first_prev b (remaining (tail_of v book b).count cs)) cs)

  module _ (ok : book_refusal book ≡ 0) (P : Passed v b) where
    pub never_dearer : T (finite (least_total (problem_of w v book b))) → T (le (least_total (problem_of w' v book b)) (least_total (problem_of w v book b)))
    never_dearer f =
        let a = found w v book ok b P f in
        let cs = least_levels (problem_of w v book b) in
        subst (λ (x : Float). T (le (least_total (problem_of w' v book b)) x)) (sym (whole_same cs) ∙ a.costs) (none-cheaper w' v book ok b P cs (banded-wider cs a.banded))

    pub still-answers : T (finite (least_total (problem_of w v book b))) → T (finite (least_total (problem_of w' v book b)))
    still-answers f =
        Order.le-finite (least_total (problem_of w' v book b)) (least_total (problem_of w v book b)) (least_total-cost _ (sound book ok v b P w')) (least_total-cost _ (sound book ok v b P w)) (never_dearer f) f
