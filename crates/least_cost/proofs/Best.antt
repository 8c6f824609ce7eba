-- The recursion finds a least cost. Where `best` is finite, the walked levels are a choice in the band that costs exactly that; no choice in the band costs less; and `best` is
-- infinite exactly where every choice in the band is. All this by the count and `prev` that `best` is asked for, and as soon as every price is a cost. Assumes nothing.
use mathlib.Core.Path.{◌≡◌, refl, sym, ap, ap₂, ◌∙◌, subst, subst⁻¹}
use mathlib.Core.Logic.{◌↔◌, ◌⊎◌, inl, inr}
use Prim.Native.Nat.{ℕ, ◌+◌, ◌-◌, ◌≤◌}
use native.Mathlib.Nat.{add-sub_of_le, add-sub_cancel_left, le-add_right}
use mathlib.Core.Bool.{Bool, true, false, not, cond}
use mathlib.Core.List.Memᴰ.{cases_cons}
use mathlib.Core.List.Memᴰ.{head as here}
use mathlib.Core.List.Memᴰ.{not-nil}
use mathlib.Core.List.Memᴰ.{tail as there}
use mathlib.Core.List.{List, [], ◌∷◌, Memᴰ as Mem}
use lib.IntN.{ℤ, pos}
use lib.Dec.{T, eqb, eqb→eq, eqb_refl}
use lib.Ieee.{Float, inf, binary32, add, le}
use lib.Ieee.Bits.{is_true}
use lib.Ieee.Fits.{and_i, and_l, and_r}
use lib.Ieee.Scale.{finite}
use Rattle.costs.specs.Cost.{cost}
use Rattle.costs.proofs.View.{at-inf, viewed}
use Rattle.costs.proofs.Order as Order
use Rattle.costs.proofs.Sum.{add-cost, add-mono-right}
use Rattle.least_cost.specs.Position.{Position, Tail, Priced, nz, within, allowed}
use Rattle.least_cost.specs.Choice.{Choice, done, takes, remaining, in_band, cost_of}
use Rattle.least_cost.specs.Search.{least, trial, step, best, pick, walk}
use Rattle.least_cost.proofs.First.{Found, found-mem, finite-found, least-cost, least-le}
use Rattle.least_cost.proofs.Trial.{nz-le, trial-listed, listed-trial}
use Rattle.least_cost.proofs.Step.{Costs, allow, allowed-among, allowed-within, step-at, step-allowed, step-cost, step-rest}

-- the level c, with r nonzero levels after it in the band, is allowed
pub band-allowed : (q : Position) (c : ℤ) (r : ℕ) → T (within q r) → T (allowed q (nz c + r) c)
band-allowed q c r h = allow q (nz c + r) c (le-add_right (nz c) r) (subst⁻¹ (λ (z : ℕ). T (within q z)) (add-sub_cancel_left (nz c) r) h)

-- ---- what the walked levels are shown to be
pub record Walked (t : Tail) (qs : List Position) (r p : ℕ) (cs : List ℤ) : Type 0 where
  pub choice : Choice qs cs
  pub band : T (in_band t.count qs cs)
  pub count : remaining t.count cs ≡ r
  pub costs : cost_of t qs p cs ≡ best t qs r p

-- ---- every price is a cost
pub record AllPriced (t : Tail) (qs : List Position) : Type 0 where
  pub tails : (p : ℕ) → p ≤ 1 → T (cost (t.cost p))
  pub each : (q : Position) → Mem q qs → Priced q

pub rest-priced : {t : Tail} {q : Position} {qs : List Position} → AllPriced t (q ∷ qs) → AllPriced t qs
rest-priced Q = record { tails = Q.tails; each = λ x m. Q.each x (there m) }

-- to show it, position by position
pub none-priced : {t : Tail} → ((p : ℕ) → p ≤ 1 → T (cost (t.cost p))) → AllPriced t []
none-priced h = record { tails = h; each = λ x m. absurd (not-nil m) }

pub more-priced : {t : Tail} {q : Position} {qs : List Position} → Priced q → AllPriced t qs → AllPriced t (q ∷ qs)
more-priced {t} {q} {qs} h Q = record { tails = Q.tails; each = λ x m. front x (cases_cons m) }
  where
    front : (x : Position) → (x ≡ q) ⊎ Mem x qs → Priced x
    front x (inl e) = subst⁻¹ Priced e h
    front x (inr m) = Q.each x m

module _ (t : Tail) where
  end-cost : (r p : ℕ) → T (cost (t.cost p)) → T (cost (best t [] r p))
  unfolding best
  end-cost r p h = go (eqb r t.count)
    where
      go : (b : Bool) → T (cost (cond b (t.cost p) (inf false)))
      go true = h
      go false = viewed at-inf

  -- the steps at a position are costs where the later positions' are
  tried : (q : Position) (b : ℕ → ℕ → Float) (r p : ℕ) → Priced q → Costs b → p ≤ 1 → (c : ℤ) → Mem c (trial q.candidates) → T (cost (step q r p b c))
  tried q b r p Q B P c m = step-cost q r p b c Q B P (trial-listed q.candidates c m)

  pub best-costs : (qs : List Position) → AllPriced t qs → Costs (best t qs)
  unfolding best
  best-costs [] Q = record { costs = λ r p P. end-cost r p (Q.tails p P) }
  best-costs (q ∷ qs) Q = record {
    costs = λ r p P.
        least-cost (step q r p (best t qs)) (inf false) (trial q.candidates) (viewed at-inf)
        (tried q (best t qs) r p (Q.each q (here refl)) (best-costs qs (rest-priced Q)) P);
  }

  -- a choice in the band costs a cost
  pub choice-cost : {qs : List Position} {cs : List ℤ} (p : ℕ) → AllPriced t qs → p ≤ 1 → Choice qs cs → T (in_band t.count qs cs) → T (cost (cost_of t qs p cs))
  unfolding cost_of in_band remaining
  choice-cost p Q P done h = Q.tails p P
  choice-cost p Q P (takes {q} {qs} {c} {cs} m k) h =
      let r = remaining t.count cs in
      add-cost binary32 (q.price (nz c + r) p c) (cost_of t qs (nz c) cs)
      ((Q.each q (here refl)).prices (nz c + r) p c P m (band-allowed q c r (and_l (within q r) (in_band t.count qs cs) h)))
      (choice-cost (nz c) (rest-priced Q) (nz-le c) k (and_r (within q r) (in_band t.count qs cs) h))

  -- ---- the walk
  end-walked : (r p : ℕ) → T (finite (best t [] r p)) → Walked t [] r p []
  unfolding best cost_of in_band remaining
  end-walked r p h = record { choice = done; band = tt; count = sym (eqb→eq r t.count (test (eqb r t.count) h)); costs = is (eqb r t.count) h }
    where
      test : (b : Bool) → T (finite (cond b (t.cost p) (inf false))) → T b
      test true k = tt
      test false k = k

      is : (b : Bool) → T (finite (cond b (t.cost p) (inf false))) → t.cost p ≡ cond b (t.cost p) (inf false)
      is true k = refl
      is false k = absurd k

  prepend : (q : Position) (qs : List Position) (r p : ℕ) (c : ℤ) (cs : List ℤ) → Mem c q.candidates → T (allowed q r c) → Walked t qs (r - nz c) (nz c) cs
      → best t (q ∷ qs) r p ≡ step q r p (best t qs) c → Walked t (q ∷ qs) r p (c ∷ cs)
  unfolding cost_of in_band remaining
  prepend q qs r p c cs m a w e =
      let n : nz c + remaining t.count cs ≡ r = ap (λ (z : ℕ). nz c + z) w.count ∙ add-sub_of_le (allowed-among q r c a) in
      record {
        choice = takes m w.choice;
        band = and_i (within q (remaining t.count cs)) (in_band t.count qs cs) (subst⁻¹ (λ (z : ℕ). T (within q z)) w.count (allowed-within q r c a)) w.band;
        count = n;
        costs = ap₂ (λ (z : ℕ) (x : Float). add binary32 (q.price z p c) x) n w.costs ∙ sym (step-at q r p (best t qs) c a) ∙ sym e;
      }

  -- what is picked where `best` is finite: the first least of the steps, in the order of trial
  pub picked : (q : Position) (qs : List Position) (r p : ℕ) → AllPriced t (q ∷ qs) → p ≤ 1 → T (finite (best t (q ∷ qs) r p))
      → Found (step q r p (best t qs)) (inf false) (trial q.candidates) (best t (q ∷ qs) r p) (pick t q qs r p)
  unfolding best pick
  picked q qs r p Q P h =
      finite-found (step q r p (best t qs)) (pos 0) (trial q.candidates) (tried q (best t qs) r p (Q.each q (here refl)) (best-costs qs (rest-priced Q)) P) h

  pub walked : (qs : List Position) (r p : ℕ) → AllPriced t qs → p ≤ 1 → T (finite (best t qs r p)) → Walked t qs r p (walk t qs r p)
  unfolding walk
  walked [] r p Q P h = end-walked r p h
  walked (q ∷ qs) r p Q P h =
      let c = pick t q qs r p in
      let b = best t qs in
      let f = picked q qs r p Q P h in
      let m = trial-listed q.candidates c (found-mem (step q r p b) (inf false) (trial q.candidates) (best t (q ∷ qs) r p) c f) in
      let k : T (finite (step q r p b c)) = subst (λ (z : Float). T (finite z)) f.value h in
      let R = rest-priced Q in
      prepend q qs r p c (walk t qs (r - nz c) (nz c)) m (step-allowed q r p b c k)
      (walked qs (r - nz c) (nz c) R (nz-le c) (step-rest q r p b c (Q.each q (here refl)) (best-costs qs R) P m k))
      f.value

  -- ---- no choice in the band costs less
  end-less : (p : ℕ) → T (cost (t.cost p)) → T (le (best t [] t.count p) (t.cost p))
  unfolding best
  end-less p h = subst⁻¹ (λ (b : Bool). T (le (cond b (t.cost p) (inf false)) (t.cost p))) (is_true (eqb t.count t.count) (eqb_refl t.count)) (Order.le_refl (t.cost p) h)

  step_less : (q : Position) (qs : List Position) (p : ℕ) (c : ℤ) (r : ℕ) (x : Float) → AllPriced t (q ∷ qs) → p ≤ 1 → Mem c q.candidates → T (within q r) → T (cost x)
      → T (le (best t qs r (nz c)) x) → T (le (best t (q ∷ qs) (nz c + r) p) (add binary32 (q.price (nz c + r) p c) x))
  unfolding best
  step_less q qs p c r x Q P m w X h =
      let n = nz c + r in
      let b = best t qs in
      let g = step q n p b in
      let a = band-allowed q c r w in
      let B = best-costs qs (rest-priced Q) in
      let Y = (Q.each q (here refl)).prices n p c P m a in
      let G = tried q b n p (Q.each q (here refl)) B P in
      let e : g c ≡ add binary32 (q.price n p c) (b r (nz c)) = step-at q n p b c a ∙ ap (λ (z : ℕ). add binary32 (q.price n p c) (b z (nz c))) (add-sub_cancel_left (nz c) r) in
      let M = listed-trial q.candidates c m in
      let l = least g (inf false) (trial q.candidates) in
      Order.le_trans l (g c) (add binary32 (q.price n p c) x)
      (least-cost g (inf false) (trial q.candidates) (viewed at-inf) G) (G c M) (add-cost binary32 (q.price n p c) x Y X)
      (least-le g (inf false) (trial q.candidates) (viewed at-inf) G c M)
      (subst⁻¹ (λ (z : Float). T (le z (add binary32 (q.price n p c) x))) e (add-mono-right binary32 (q.price n p c) (b r (nz c)) x Y (B.costs r (nz c) (nz-le c)) X h))

  pub none-less : {qs : List Position} {cs : List ℤ} (p : ℕ) → AllPriced t qs → p ≤ 1 → Choice qs cs → T (in_band t.count qs cs) → T (le (best t qs (remaining t.count cs) p) (cost_of t qs p cs))
  unfolding cost_of in_band remaining
  none-less p Q P done h = end-less p (Q.tails p P)
  none-less p Q P (takes {q} {qs} {c} {cs} m k) h =
      let r = remaining t.count cs in
      let i = and_r (within q r) (in_band t.count qs cs) h in
      step_less q qs p c r (cost_of t qs (nz c) cs) Q P m (and_l (within q r) (in_band t.count qs cs) h)
      (choice-cost (nz c) (rest-priced Q) (nz-le c) k i)
      (none-less (nz c) (rest-priced Q) (nz-le c) k i)

  -- ---- infinite exactly where every choice in the band is
  pub best-infinite : (qs : List Position) (r p : ℕ) → AllPriced t qs → p ≤ 1
      → (best t qs r p ≡ inf false) ↔ ((cs : List ℤ) → Choice qs cs → T (in_band t.count qs cs) → remaining t.count cs ≡ r → cost_of t qs p cs ≡ inf false)
  best-infinite qs r p Q P = (λ e cs k i n. Order.inf-le (cost_of t qs p cs) (choice-cost p Q P k i) (none e cs k i n), λ h. go (finite (best t qs r p)) (walked qs r p Q P) (Order.infinite (best t qs r p) ((best-costs qs Q).costs r p P)) h)
    where
      none : best t qs r p ≡ inf false → (cs : List ℤ) → Choice qs cs → T (in_band t.count qs cs) → remaining t.count cs ≡ r → T (le (inf false) (cost_of t qs p cs))
      none e cs k i n = subst (λ (z : Float). T (le z (cost_of t qs p cs))) (ap (λ (z : ℕ). best t qs z p) n ∙ e) (none-less p Q P k i)

      go : (b : Bool) → (T b → Walked t qs r p (walk t qs r p)) → (T (not b) → best t qs r p ≡ inf false)
          → ((cs : List ℤ) → Choice qs cs → T (in_band t.count qs cs) → remaining t.count cs ≡ r → cost_of t qs p cs ≡ inf false) → best t qs r p ≡ inf false
      go true w n h = let y = w tt in sym y.costs ∙ h (walk t qs r p) y.choice y.band y.count
      go false w n h = n tt
