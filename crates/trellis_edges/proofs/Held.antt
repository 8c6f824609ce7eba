-- What a state has after one edge more. Assumes nothing.
use mathlib.Core.Path.{◌≡◌, refl, sym, ap, ◌∙◌, subst, subst⁻¹}
use mathlib.Core.Bool.{Bool, true, false, cond, not, ◌||◌, or-false, or-true, true≢false}
use mathlib.Core.List.{List, [], ◌∷◌, ◌++◌, Memᴰ as Mem}
use Prim.Native.Nat.{ℕ, ◌<◌}
use lib.IntN.{ℤ, pos}
use lib.Dec.{T, eqb}
use lib.ListN.{length, get_or}
use lib.Ieee.{Float, nan, inf, fin, lt, add, binary32}
use lib.Ieee.Scale.{finite}
use Rattle.costs.specs.Cost.{cost}
use Rattle.costs.proofs.Order.{infinite, le_refl, le→not-lt}
use Rattle.costs.proofs.Sum.{add-cost, add-inf}
use Rattle.least_cost.specs.Position.{nz}
use Rattle.least_cost.specs.Search.{least, holder, nonzeros, has_zero}
use Rattle.least_cost.proofs.First.{least-append, holder-append}
use Rattle.least_cost.proofs.Trial.{nonzeros-listed}
use Rattle.trellis_choice.specs.Chosen.{with, nonzero_cost, zero_cost}
use Rattle.trellis_choice.proofs.Choosing.{zero-listed}
use Rattle.trellis_row.proofs.Rows.{dead-least}
use Rattle.trellis_edges.specs.Edges.{lesser, choice_of, tried_cost, tried_level, Held}

-- ---- one level more at the end of a list
nonzeros-append : (ps qs : List ℤ) → nonzeros (ps ++ qs) ≡ nonzeros ps ++ nonzeros qs
unfolding nonzeros
nonzeros-append [] qs = refl
nonzeros-append (p ∷ ps) qs = go (eqb (nz p) 0) (nonzeros-append ps qs)
  where
    go : (b : Bool) → nonzeros (ps ++ qs) ≡ nonzeros ps ++ nonzeros qs → cond b (nonzeros (ps ++ qs)) (p ∷ nonzeros (ps ++ qs)) ≡ cond b (nonzeros ps) (p ∷ nonzeros ps) ++ nonzeros qs
    go true e = e
    go false e = ap (λ (l : List ℤ). p ∷ l) e

has-append : (ps qs : List ℤ) → has_zero (ps ++ qs) ≡ has_zero ps || has_zero qs
unfolding has_zero
has-append [] qs = refl
has-append (p ∷ ps) qs = go (eqb (nz p) 0) (has-append ps qs)
  where
    go : (b : Bool) → has_zero (ps ++ qs) ≡ has_zero ps || has_zero qs → b || has_zero (ps ++ qs) ≡ (b || has_zero ps) || has_zero qs
    go true e = refl
    go false e = e

none_after : (ps : List ℤ) → ps ++ [] ≡ ps
none_after [] = refl
none_after (p ∷ ps) = ap (λ (l : List ℤ). p ∷ l) (none_after ps)

module _ (ps : List ℤ) (c : ℤ) where
  nonzeros-zero : nz c ≡ 0 → nonzeros (ps ++ (c ∷ [])) ≡ nonzeros ps
  unfolding nonzeros
  nonzeros-zero e = nonzeros-append ps (c ∷ []) ∙ rw e (none_after (nonzeros ps))

  nonzeros-more : nz c ≡ 1 → nonzeros (ps ++ (c ∷ [])) ≡ nonzeros ps ++ (c ∷ [])
  unfolding nonzeros
  nonzeros-more e = nonzeros-append ps (c ∷ []) ∙ rw e

  has-zero : nz c ≡ 0 → has_zero (ps ++ (c ∷ [])) ≡ true
  unfolding has_zero
  has-zero e = has-append ps (c ∷ []) ∙ rw e (or-true (has_zero ps))

  has_other : nz c ≡ 1 → has_zero (ps ++ (c ∷ [])) ≡ has_zero ps
  unfolding has_zero
  has_other e = has-append ps (c ∷ []) ∙ rw e (or-false (has_zero ps))

-- +infinity is below nothing
inf-below : (x : Float) → lt (inf false) x ≡ false
unfolding lt
inf-below nan = refl
inf-below (inf s) = refl
inf-below (fin s m e) = refl

-- ---- a state
-- no edge yet
pub held_none : (g : ℤ → Float) (x z : Float) (levels : List ℤ) {v : Float} {choice : ℕ} → v ≡ inf false → choice ≡ 255 → Held g x z levels [] [] v choice
unfolding tried_cost nonzero_cost zero_cost nonzeros has_zero least cost lt
held_none g x z levels e f = rw (e, f) (record { sound = tt; cost = refl; level = λ t. absurd t; below = λ t. absurd t; none = λ t. refl })

module _ {g : ℤ → Float} {x z : Float} {levels ns zs : List ℤ} {v : Float} {choice : ℕ} where
  -- a 0 in the list of the nonzero levels, and another level in that of 0, are no edge
  pub held-no-zero : (c : ℤ) → nz c ≡ 0 → Held g x z levels ns zs v choice → Held g x z levels (ns ++ (c ∷ [])) zs v choice
  unfolding tried_cost tried_level nonzero_cost
  held-no-zero c e w =
      let same = nonzeros-zero ns c e in
      record { sound = w.sound; cost = rw same w.cost; level = λ t. rw same (w.level t); below = w.below; none = w.none }

  pub held-no-other : (c : ℤ) → nz c ≡ 1 → Held g x z levels ns zs v choice → Held g x z levels ns (zs ++ (c ∷ [])) v choice
  unfolding tried_cost tried_level zero_cost
  held-no-other c e w =
      let same = has_other zs c e in
      record { sound = w.sound; cost = rw same w.cost; level = λ t. rw same (w.level t); below = w.below; none = w.none }

-- ---- an edge more
-- the lesser of two costs is one
lesser-cost : (u v : Float) → T (cost u) → T (cost v) → T (cost (lesser u v))
unfolding lesser
lesser-cost u v C D = go (lt u v)
  where
    go : (b : Bool) → T (cost (cond b u v))
    go true = C
    go false = D

-- 255 where the lesser cost is infinite: then nothing was below v
lesser-none : (u v : Float) (j choice : ℕ) → T (cost u) → (T (not (finite v)) → choice ≡ 255) → T (not (finite (lesser u v))) → choice_of u v j choice ≡ 255
unfolding lesser choice_of
lesser-none u v j choice U k t = go (lt u v) refl t
  where
    go : (b : Bool) → lt u v ≡ b → T (not (finite (cond b u v))) → cond b j choice ≡ 255
    go true e f = absurd (true≢false (sym e ∙ ap (λ (y : Float). lt y v) (infinite u U f) ∙ inf-below v))
    go false e f = k f

-- where nothing was below v, it stays
pub unchanged : {g : ℤ → Float} {x z : Float} {levels ns zs : List ℤ} (u : Float) {v : Float} (j : ℕ) {choice : ℕ} → u ≡ inf false
    → Held g x z levels ns zs (lesser u v) (choice_of u v j choice) → Held g x z levels ns zs v choice
unfolding lesser choice_of
unchanged u {v} j e w = rw (e, inf-below v) at w

-- over nonzero levels alone
module _ (g : ℤ → Float) (x z : Float) (ns : List ℤ) where
  only-cost : tried_cost g x z ns [] ≡ nonzero_cost g x ns
  unfolding tried_cost zero_cost has_zero
  only-cost = rw (inf-below (nonzero_cost g x ns))

  only-level : tried_level g x z ns [] ≡ holder (with g x) (inf false) (pos 0) (nonzeros ns)
  unfolding tried_level zero_cost has_zero
  only-level = rw (inf-below (nonzero_cost g x ns))

  module _ (c : ℤ) (e : nz c ≡ 1) where
    cost-more : nonzero_cost g x (ns ++ (c ∷ [])) ≡ lesser (with g x c) (nonzero_cost g x ns)
    unfolding nonzero_cost lesser least
    cost-more = rw (nonzeros-more ns c e) (least-append (with g x) (inf false) (nonzeros ns) (c ∷ []))

    level-more : holder (with g x) (inf false) (pos 0) (nonzeros (ns ++ (c ∷ []))) ≡ cond (lt (with g x c) (nonzero_cost g x ns)) c (holder (with g x) (inf false) (pos 0) (nonzeros ns))
    unfolding nonzero_cost holder
    level-more = rw (nonzeros-more ns c e) (holder-append (with g x) (inf false) (pos 0) (nonzeros ns) (c ∷ []))

-- over 0 at last: y is what 0 costs, n what the nonzero levels cost, and h their level
module _ (levels : List ℤ) (y n v : Float) (h : ℤ) (j choice : ℕ) (Y : T (cost y)) (f : get_or levels j (pos 0) ≡ pos 0) where
  record Zeroed : Type 0 where
    pub cost : cond (lt y v) y v ≡ cond (lt y n) y n
    pub level : T (finite (cond (lt y v) y v)) → get_or levels (cond (lt y v) j choice) (pos 0) ≡ cond (lt y n) (pos 0) h

  -- the first 0
  zero_first : v ≡ n → (T (finite v) → get_or levels choice (pos 0) ≡ h) → Zeroed
  zero_first e k = record { cost = rw e; level = λ t. go (lt y v) (lt y n) (ap (lt y) e) t }
    where
      go : (b d : Bool) → b ≡ d → T (finite (cond b y v)) → get_or levels (cond b j choice) (pos 0) ≡ cond d (pos 0) h
      go true true s t = f
      go false false s t = k t
      go true false s t = absurd (true≢false s)
      go false true s t = absurd (true≢false (sym s))

  -- another: 0 costs no less than v
  zero-again : v ≡ cond (lt y n) y n → (T (finite v) → get_or levels choice (pos 0) ≡ cond (lt y n) (pos 0) h) → Zeroed
  zero-again e k = let stays = above (lt y n) refl e in record { cost = rw stays e; level = rw stays k }
    where
      above : (b : Bool) → lt y n ≡ b → v ≡ cond b y n → lt y v ≡ false
      above true s d = ap (lt y) d ∙ le→not-lt y y Y Y (le_refl y Y)
      above false s d = ap (lt y) d ∙ s

module _ {g : ℤ → Float} {x z : Float} {levels ns : List ℤ} {v : Float} {choice : ℕ} (j : ℕ) (J : j < length levels) where
  -- the edge over a nonzero level, before any over 0
  pub held-nonzero : (c : ℤ) → nz c ≡ 1 → get_or levels j (pos 0) ≡ c → T (cost (g c)) → T (cost x) → Held g x z levels ns [] v choice
      → Held g x z levels (ns ++ (c ∷ [])) [] (lesser (with g x c) v) (choice_of (with g x c) v j choice)
  unfolding lesser choice_of
  held-nonzero c e f G X w =
      let U = add-cost binary32 (g c) x G X in
      let same : v ≡ nonzero_cost g x ns = w.cost ∙ only-cost g x z ns in
      record {
        sound = lesser-cost (with g x c) v U w.sound;
        cost = ap (lesser (with g x c)) same ∙ sym (only-cost g x z (ns ++ (c ∷ [])) ∙ cost-more g x z ns c e);
        level = λ t.
            level (lt (with g x c) v) t
            ∙ ap (λ (y : Float). cond (lt (with g x c) y) c (holder (with g x) (inf false) (pos 0) (nonzeros ns))) same
            ∙ sym (only-level g x z (ns ++ (c ∷ [])) ∙ level-more g x z ns c e);
        below = λ t. below (lt (with g x c) v) t;
        none = lesser-none (with g x c) v j choice U w.none;
      }
    where
      level : (b : Bool) → T (finite (cond b (with g x c) v)) → get_or levels (cond b j choice) (pos 0) ≡ cond b c (holder (with g x) (inf false) (pos 0) (nonzeros ns))
      level true t = f
      level false t = w.level t ∙ only-level g x z ns

      below : (b : Bool) → T (finite (cond b (with g x c) v)) → cond b j choice < length levels
      below true t = J
      below false t = w.below t

  -- the edge over 0; a second 0 changes nothing
  pub held-zero : {zs : List ℤ} (c : ℤ) → nz c ≡ 0 → get_or levels j (pos 0) ≡ pos 0 → T (cost (g (pos 0))) → T (cost z) → Held g x z levels ns zs v choice
      → Held g x z levels ns (zs ++ (c ∷ [])) (lesser (with g z (pos 0)) v) (choice_of (with g z (pos 0)) v j choice)
  unfolding lesser choice_of tried_cost tried_level zero_cost
  held-zero {zs} c e f G Z w =
      let U = add-cost binary32 (g (pos 0)) z G Z in
      let has = has-zero zs c e in
      let zeroed = seen (has_zero zs) refl U in
      record {
        sound = lesser-cost (with g z (pos 0)) v U w.sound;
        cost = rw has zeroed.cost;
        level = λ t. rw has (zeroed.level t);
        below = λ t. below (lt (with g z (pos 0)) v) t;
        none = lesser-none (with g z (pos 0)) v j choice U w.none;
      }
    where
      below : (b : Bool) → T (finite (cond b (with g z (pos 0)) v)) → cond b j choice < length levels
      below true t = J
      below false t = w.below t

      seen : (b : Bool) → has_zero zs ≡ b → (U : T (cost (with g z (pos 0))))
          → Zeroed levels (with g z (pos 0)) (nonzero_cost g x ns) v (holder (with g x) (inf false) (pos 0) (nonzeros ns)) j choice U f
      seen true s U = zero-again levels (with g z (pos 0)) (nonzero_cost g x ns) v (holder (with g x) (inf false) (pos 0) (nonzeros ns)) j choice U f (rw s at w.cost) (rw s at w.level)
      seen false s U =
          zero_first levels (with g z (pos 0)) (nonzero_cost g x ns) v (holder (with g x) (inf false) (pos 0) (nonzeros ns)) j choice U f (rw (s, inf-below (nonzero_cost g x ns)) at w.cost)
          (rw (s, inf-below (nonzero_cost g x ns)) at w.level)

-- ---- where nothing finite follows, it does not matter what was tried
zero-dead : (g : ℤ → Float) (z : Float) (levels : List ℤ) → ((c : ℤ) → Mem c levels → T (cost (g c))) → z ≡ inf false → zero_cost g z levels ≡ inf false
unfolding zero_cost
zero-dead g z levels G e = go (has_zero levels) refl
  where
    go : (b : Bool) → has_zero levels ≡ b → cond b (with g z (pos 0)) (inf false) ≡ inf false
    go true h = ap (add binary32 (g (pos 0))) e ∙ add-inf binary32 (g (pos 0)) (G (pos 0) (zero-listed levels h))
    go false h = refl

module _ {g : ℤ → Float} {x z : Float} {levels : List ℤ} {v : Float} {choice : ℕ} (G : (c : ℤ) → Mem c levels → T (cost (g c))) where
  pub held-dead-nonzeros : x ≡ inf false → Held g x z levels [] [] v choice → Held g x z levels levels [] v choice
  unfolding tried_cost tried_level nonzero_cost zero_cost has_zero nonzeros least lt
  held-dead-nonzeros e w =
      let none = dead-least g (nonzeros levels) (λ c m. G c (nonzeros-listed levels c m)) in
      record {
        sound = w.sound;
        cost = rw (e, none) w.cost;
        level = λ t. absurd (subst (λ (y : Float). T (finite y)) w.cost t);
        below = w.below;
        none = w.none;
      }

  pub held-dead-zero : {ns : List ℤ} → z ≡ inf false → Held g x z levels ns [] v choice → Held g x z levels ns levels v choice
  unfolding tried_cost tried_level zero_cost has_zero
  held-dead-zero {ns} e w =
      record {
        sound = w.sound;
        cost = subst⁻¹ (λ (y : Float). v ≡ cond (lt y (nonzero_cost g x ns)) y (nonzero_cost g x ns)) (zero-dead g z levels G e) w.cost;
        level = λ t.
            subst⁻¹ (λ (y : Float). get_or levels choice (pos 0) ≡ cond (lt y (nonzero_cost g x ns)) (pos 0) (holder (with g x) (inf false) (pos 0) (nonzeros ns))) (zero-dead g z levels G e) (w.level t);
        below = w.below;
        none = w.none;
      }
