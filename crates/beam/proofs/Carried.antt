-- What every path of the beam carries: its levels are a choice of the positions behind it, with its count and its cost, wherever that cost is finite. Assumes nothing.
use mathlib.Core.Path.{◌≡◌, refl, sym, ap₂, ◌∙◌, subst, subst⁻¹}
use mathlib.Core.Logic.{◌⊎◌, inl, inr}
use mathlib.Core.Bool.{Bool, true, false, cond}
use mathlib.Core.List.Memᴰ.{cases_cons}
use mathlib.Core.List.Memᴰ.{eq_of_singleton as only}
use mathlib.Core.List.Memᴰ.{head as here}
use mathlib.Core.List.Memᴰ.{not-nil}
use mathlib.Core.List.Memᴰ.{tail as there}
use mathlib.Core.List.{List, [], ◌∷◌, Memᴰ as Mem}
use Prim.Native.Nat.{ℕ, suc, ◌+◌, ◌≤◌}
use native.Mathlib.Omega.{arith}
use native.Mathlib.Nat.{le_refl}
use borrow.Author.Tests.{eqb-true}
use lib.Dec.{T, eqb, lit≤}
use lib.IntN.{ℤ, pos}
use lib.ListN.{length, get_or}
use lib.Ieee.{Float, inf, binary32, add}
use lib.Ieee.Scale.{finite}
use Rattle.costs.specs.Cost.{cost}
use Rattle.costs.proofs.View.{at-inf, viewed}
use Rattle.costs.proofs.Sum.{add-cost, finite-terms}
use Rattle.beam_paths.specs.Path.{Path, Way, way_remaining, way_cost, way_levels, ways, no_way}
use Rattle.beam_paths.specs.Step.{extended, counts_named, reaching, merged, merged_at, kept, stepped}
use Rattle.least_cost.specs.Choice.{Choice, done, takes, remaining, cost_of}
use Rattle.least_cost.specs.Position.{Position, Tail, nz}
use Rattle.least_cost.specs.Search.{least, holder}
use Rattle.least_cost.proofs.First.{Found, found-mem, finite-found, least-cost}
use Rattle.least_cost.proofs.Trial.{nz-le}
use Rattle.beam.specs.Beam.{end_path, beam_paths}
use Rattle.beam.proofs.Members.{kept-listed, kept-few, all-merged, all_named, all_ways, reaching-listed, sole_listed, all-extended, extended-length}

-- every local cost is a cost, in the band or not
pub record Priced (q : Position) : Type 0 where
  pub prices : (r p : ℕ) (c : ℤ) → p ≤ 1 → Mem c q.candidates → T (cost (q.price r p c))

pub record AllPriced (t : Tail) (qs : List Position) : Type 0 where
  pub tails : (p : ℕ) → p ≤ 1 → T (cost (t.cost p))
  pub each : (q : Position) → Mem q qs → Priced q

pub rest-priced : {t : Tail} {q : Position} {qs : List Position} → AllPriced t (q ∷ qs) → AllPriced t qs
rest-priced Q = record { tails = Q.tails; each = λ x m. Q.each x (there m) }

-- to show it, position by position
pub none-priced : {t : Tail} → ((p : ℕ) → p ≤ 1 → T (cost (t.cost p))) → AllPriced t []
none-priced h = record { tails = h; each = λ x m. absurd (not-nil m) }

pub more-priced : {t : Tail} {q : Position} {qs : List Position} → Priced q → AllPriced t qs → AllPriced t (q ∷ qs)
more-priced {t} {q} {qs} h Q = record { tails = Q.tails; each = λ x m. front x (cases_cons m) }
  where
    front : (x : Position) → (x ≡ q) ⊎ Mem x qs → Priced x
    front x (inl e) = subst⁻¹ Priced e h
    front x (inr m) = Q.each x m

-- levels that are a choice of the positions, with this count and this cost
pub record Stands (t : Tail) (qs : List Position) (p n : ℕ) (x : Float) (cs : List ℤ) : Type 0 where
  pub choice : Choice qs cs
  pub count : remaining t.count cs ≡ n
  pub costs : cost_of t qs p cs ≡ x

pub record Carried (t : Tail) (qs : List Position) (x : Path) : Type 0 where
  pub costs : (p : ℕ) → p ≤ 1 → T (cost (x.cost p))
  pub least : t.count ≤ x.remaining
  pub most : x.remaining ≤ t.count + length qs
  pub stands : (p : ℕ) → p ≤ 1 → T (finite (x.cost p)) → Stands t qs p x.remaining (x.cost p) (x.levels p)

-- ---- a way, from a path that carries this
module _ (t : Tail) (q : Position) (qs : List Position) (Q : Priced q) where
  pub record Leads (w : Way) : Type 0 where
    pub path : Carried t qs w.path
    pub level : Mem w.level q.candidates

  pub way-cost : (w : Way) → Leads w → (p : ℕ) → p ≤ 1 → T (cost (way_cost q p w))
  unfolding way_cost
  way-cost w L p P = add-cost binary32 _ _ (Q.prices (way_remaining w) p w.level P L.level) (L.path.costs (nz w.level) (nz-le w.level))

  -- the path behind a finite cost has a finite cost
  pub way-rest : (w : Way) → Leads w → (p : ℕ) → p ≤ 1 → T (finite (way_cost q p w)) → T (finite (w.path.cost (nz w.level)))
  unfolding way_cost
  way-rest w L p P h = (finite-terms binary32 _ _ (Q.prices (way_remaining w) p w.level P L.level) (L.path.costs (nz w.level) (nz-le w.level)) h).1

  pub way-stands : (w : Way) → Leads w → (p : ℕ) → p ≤ 1 → T (finite (way_cost q p w)) → Stands t (q ∷ qs) p (way_remaining w) (way_cost q p w) (way_levels w)
  unfolding way_levels way_remaining remaining cost_of way_cost
  way-stands w L p P h =
      let s = L.path.stands (nz w.level) (nz-le w.level) (way-rest w L p P h) in
      let n : nz w.level + remaining t.count (w.path.levels (nz w.level)) ≡ w.path.remaining + nz w.level = omega (arith, s.count) in
      record {
        choice = takes L.level s.choice;
        count = n;
        costs = ap₂ (λ (k : ℕ) (x : Float). add binary32 (q.price k p w.level) x) n s.costs;
      }

  -- ---- a path of a sole candidate
  pub extended-carries : (w : Way) → Leads w → Carried t (q ∷ qs) (record { remaining = way_remaining w; cost = λ p. way_cost q p w; levels = λ p. way_levels w })
  unfolding way_remaining
  extended-carries w L =
      record {
        costs = way-cost w L;
        least = omega (arith, L.path.least);
        most = omega (arith, L.path.most, nz-le w.level);
        stands = way-stands w L;
      }

  -- ---- a path of merged ways
  module _ (ws : List Way) (W : (w : Way) → Mem w ws → Leads w) (n : ℕ) (l : t.count ≤ n) (m : n ≤ t.count + suc (length qs)) where
    reached : (w : Way) → Mem w (reaching n ws) → Leads w
    reached w k = W w (reaching-listed n ws w k).0

    reached-cost : (p : ℕ) → p ≤ 1 → (w : Way) → Mem w (reaching n ws) → T (cost (way_cost q p w))
    reached-cost p P w k = way-cost w (reached w k) p P

    pub found-way : (p : ℕ) → p ≤ 1 → T (finite (least (way_cost q p) (inf false) (reaching n ws)))
        → Found (way_cost q p) (inf false) (reaching n ws) (least (way_cost q p) (inf false) (reaching n ws)) (holder (way_cost q p) (inf false) no_way (reaching n ws))
    found-way p P h = finite-found (way_cost q p) no_way (reaching n ws) (reached-cost p P) h

    merged-stands : (p : ℕ) → p ≤ 1 → T (finite (least (way_cost q p) (inf false) (reaching n ws)))
        → Stands t (q ∷ qs) p n (least (way_cost q p) (inf false) (reaching n ws)) (way_levels (holder (way_cost q p) (inf false) no_way (reaching n ws)))
    merged-stands p P h =
        let f = found-way p P h in
        let k = found-mem (way_cost q p) (inf false) (reaching n ws) _ _ f in
        let w = holder (way_cost q p) (inf false) no_way (reaching n ws) in
        let s = way-stands w (reached w k) p P (subst (λ (x : Float). T (finite x)) f.value h) in
        record { choice = s.choice; count = s.count ∙ (reaching-listed n ws w k).1; costs = s.costs ∙ sym f.value }

    pub merged-carries : Carried t (q ∷ qs) (merged q ws n)
    unfolding merged
    merged-carries =
        record {
          costs = λ p P. least-cost (way_cost q p) (inf false) (reaching n ws) (viewed at-inf) (reached-cost p P);
          least = l;
          most = m;
          stands = merged-stands;
        }

  -- ---- a step
  module _ (xs : List Path) (X : (x : Path) → Mem x xs → Carried t qs x) where
    named : (n : ℕ) → Mem n (counts_named [] xs) → (t.count ≤ n) × (n ≤ t.count + suc (length qs))
    named =
        all_named (λ n. (t.count ≤ n) × (n ≤ t.count + suc (length qs))) [] xs (λ n m. absurd (not-nil m))
        (λ x m. (((X x m).least, omega (arith, (X x m).most)), (omega (arith, (X x m).least), omega (arith, (X x m).most))))

    leads : (w : Way) → Mem w (ways xs q.candidates) → Leads w
    leads = all_ways Leads xs q.candidates (λ x m c k. record { path = X x m; level = k })

    pub stepped-carries : (x : Path) → Mem x (stepped q xs) → Carried t (q ∷ qs) x
    unfolding stepped
    stepped-carries x m = go (eqb (length q.candidates) 1) refl m
      where
        go : (b : Bool) → eqb (length q.candidates) 1 ≡ b
            → Mem x (cond b (extended q (get_or q.candidates 0 (pos 0)) xs) (kept (merged_at q (ways xs q.candidates) (counts_named [] xs)))) → Carried t (q ∷ qs) x
        go true e k =
            all-extended (Carried t (q ∷ qs)) q (get_or q.candidates 0 (pos 0)) xs
            (λ y l. extended-carries (record { path = y; level = get_or q.candidates 0 (pos 0) }) (record { path = X y l; level = sole_listed q.candidates (eqb-true (length q.candidates) 1 e) })) x k
        go false e k =
            all-merged (Carried t (q ∷ qs)) q (ways xs q.candidates) (counts_named [] xs)
            (λ n l. merged-carries (ways xs q.candidates) leads n (named n l).0 (named n l).1) x (kept-listed _ x k)

-- ---- all steps
end-carries : (t : Tail) → ((p : ℕ) → p ≤ 1 → T (cost (t.cost p))) → Carried t [] (end_path t)
unfolding end_path remaining cost_of
end-carries t C = record { costs = C; least = le_refl _; most = omega arith; stands = λ p P h. record { choice = done; count = refl; costs = refl } }

pub carried : (t : Tail) (qs : List Position) → AllPriced t qs → (x : Path) → Mem x (beam_paths t qs) → Carried t qs x
unfolding beam_paths
carried t [] Q x m = subst⁻¹ (Carried t []) (only m) (end-carries t Q.tails)
carried t (q ∷ qs) Q x m = stepped-carries t q qs (Q.each q (here refl)) (beam_paths t qs) (carried t qs (rest-priced Q)) x m

-- ---- never more than three paths
stepped-few : (q : Position) (xs : List Path) → length xs ≤ 3 → length (stepped q xs) ≤ 3
unfolding stepped
stepped-few q xs h = go (eqb (length q.candidates) 1)
  where
    go : (b : Bool) → length (cond b (extended q (get_or q.candidates 0 (pos 0)) xs) (kept (merged_at q (ways xs q.candidates) (counts_named [] xs)))) ≤ 3
    go true = rw (extended-length q (get_or q.candidates 0 (pos 0)) xs) h
    go false = kept-few (merged_at q (ways xs q.candidates) (counts_named [] xs))

pub paths-few : (t : Tail) (qs : List Position) → length (beam_paths t qs) ≤ 3
unfolding beam_paths
paths-few t [] = lit≤ tt
paths-few t (q ∷ qs) = stepped-few q (beam_paths t qs) (paths-few t qs)
