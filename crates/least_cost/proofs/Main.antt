-- The main theorems in one place. First for the whole search, then for a state of the recursion: r remain and `prev` is p. Every price asked for is a cost (`Sound`, `AllPriced`). Assumes nothing.
use mathlib.Core.Path.{◌≡◌, subst, subst⁻¹}
use mathlib.Core.Logic.{◌↔◌}
use Prim.Native.Nat.{ℕ, ◌≤◌}
use mathlib.Core.Bool.{false}
use mathlib.Core.List.{List, ◌∷◌, Memᴰ as Mem}
use lib.IntN.{ℤ}
use lib.Dec.{T}
use lib.Ieee.{Float, inf, le, lt}
use lib.Ieee.Scale.{finite}
use Rattle.least_cost.specs.Position.{Position, Tail, nz}
use Rattle.least_cost.specs.Choice.{Choice, remaining, in_band, cost_of}
use Rattle.least_cost.specs.Search.{Problem, trial, step, best, pick, walk, whole_cost, whole_infinite, least_total, Banded}
use Rattle.least_cost.proofs.First.{Found}
use Rattle.least_cost.proofs.Trial.{nonzero-before}
use Rattle.least_cost.proofs.Best as Best
use Rattle.least_cost.proofs.Best.{AllPriced, Walked}
use Rattle.least_cost.proofs.Whole as Whole
use Rattle.least_cost.proofs.Whole.{Sound, Answer}
use Rattle.least_cost.proofs.Infinite.{Capped, none-finite}

module _ (w : Problem) (S : Sound w) where
  -- Where the least cost is finite, the levels are a choice in the band, with the count and the whole cost that are answered; no choice in the band costs less, and none with a smaller count as little.
  pub found : T (finite (least_total w)) → Answer w
  found = Whole.answer w S

  -- no choice in the band costs less, finite or not
  pub none-cheaper : (cs : List ℤ) → Banded w cs → T (le (least_total w) (whole_cost w cs))
  none-cheaper = Whole.whole-less w S

  -- the least cost is infinite exactly where every choice in the band is
  pub infinite : (least_total w ≡ inf false) ↔ ((cs : List ℤ) → Banded w cs → whole_cost w cs ≡ inf false)
  infinite = Whole.whole-infinite w S

  -- and, where no sum can overflow, exactly where every choice in the band has an infinite term
  pub needs-infinite : (j b : ℕ) → Capped j b w → (least_total w ≡ inf false) ↔ ((cs : List ℤ) → Banded w cs → T (whole_infinite w cs))
  needs-infinite j b C = none-finite j b w S C

module _ (t : Tail) (r p : ℕ) (P : p ≤ 1) where
  -- the walked levels are a choice in the band with that count, and cost exactly `best`
  pub walked : (qs : List Position) → AllPriced t qs → T (finite (best t qs r p)) → Walked t qs r p (walk t qs r p)
  walked qs Q = Best.walked t qs r p Q P

  -- no choice in the band with that count costs less
  pub best-least : (qs : List Position) (cs : List ℤ) → AllPriced t qs → Choice qs cs → T (in_band t.count qs cs) → remaining t.count cs ≡ r → T (le (best t qs r p) (cost_of t qs p cs))
  best-least qs cs Q k i n = subst (λ (z : ℕ). T (le (best t qs z p) (cost_of t qs p cs))) n (Best.none-less t p Q P k i)

  -- `best` is infinite exactly where every choice in the band with that count is
  pub best-infinite : (qs : List Position) → AllPriced t qs
      → (best t qs r p ≡ inf false) ↔ ((cs : List ℤ) → Choice qs cs → T (in_band t.count qs cs) → remaining t.count cs ≡ r → cost_of t qs p cs ≡ inf false)
  best-infinite qs Q = Best.best-infinite t qs r p Q P

  -- ties: the level picked is the first in the order of trial whose step costs `best`
  pub first_tried : (q : Position) (qs : List Position) → AllPriced t (q ∷ qs) → T (finite (best t (q ∷ qs) r p))
      → Found (step q r p (best t qs)) (inf false) (trial q.candidates) (best t (q ∷ qs) r p) (pick t q qs r p)
  first_tried q qs Q = Best.picked t q qs r p Q P

  -- so 0 is picked only where every nonzero candidate is dearer
  pub zero-last : (q : Position) (qs : List Position) → AllPriced t (q ∷ qs) → T (finite (best t (q ∷ qs) r p)) → nz (pick t q qs r p) ≡ 0
      → (c : ℤ) → Mem c q.candidates → nz c ≡ 1 → T (lt (best t (q ∷ qs) r p) (step q r p (best t qs) c))
  zero-last q qs Q h z c m o =
      let f = first_tried q qs Q h in
      subst⁻¹ (λ (x : Float). T (lt x (step q r p (best t qs) c))) f.value (f.earlier c (nonzero-before q.candidates f.before f.after (pick t q qs r p) z f.split c m o))
