-- The states of a position with one candidate. Assumes nothing.
use mathlib.Core.Path.{◌≡◌, refl, sym, ap, ◌∙◌, subst, subst⁻¹}
use mathlib.Core.Bool.{Bool, true, false, cond, not, ◌||◌}
use mathlib.Core.List.Memᴰ.{head as here}
use mathlib.Core.List.{List, [], ◌∷◌}
use Prim.Native.Nat.{ℕ, ◌≤◌, ◌<◌}
use native.Mathlib.Omega.{arith}
use borrow.Author.Tests.{eqb-true}
use lib.IntN.{ℤ, pos}
use lib.Dec.{T, eqb, lit<}
use lib.ListN.{length, get_or}
use lib.Ieee.{Float, fin, inf, lt, add, binary32}
use lib.Ieee.Fits.{mul-fits}
use lib.Ieee.Scale.{finite}
use Rattle.costs.specs.Cost.{cost}
use Rattle.costs.proofs.Order.{lt-inf, inf-lt}
use Rattle.costs.proofs.Sum.{add-cost, add-inf, add-zero}
use Rattle.least_cost.specs.Position.{nz}
use Rattle.least_cost.specs.Search.{least, holder, nonzeros, has_zero}
use Rattle.trellis_choice.proofs.Noting.{zero_is}
use Rattle.prices.specs.Book.{Book}
use Rattle.prices.specs.declared.Pair.{Pair}
use Rattle.block.specs.Cost.{distortion_of}
use Rattle.steps.specs.Place.{distortion_at, context_at, rated_in, local_in, local_at}
use Rattle.steps.specs.declared.Place.{Place}
use Rattle.trellis_choice.specs.Chosen.{state_cost, state_level, nonzero_cost, zero_cost, Settled}
use Rattle.trellis_row.specs.Row.{tail_at, nonzero_tail, zero_tail, Workable}
use Rattle.trellis_row.specs.declared.row.Span.{Span}
use Rattle.trellis_row.specs.declared.row.States.{States}
use Rattle.trellis_row.proofs.Rows.{not-below, nonzero-tail-cost, zero-tail-cost}
use Rattle.trellis_sole.specs.Sole.{sole_tail, sole_chosen, sole_states, token_in, TokenIs, SoleReady}
use Rattle.candidates.specs.declared.Candidates.{Candidates}
use Rattle.steps.specs.Plan.{listed, Usable}
use Rattle.steps.proofs.Listed.{listed-length, listed_at}

-- the list of one candidate
pub one-of : (levels : List ℤ) → length levels ≡ 1 → levels ≡ get_or levels 0 (pos 0) ∷ []
one-of [] e = absurd (omega arith)
one-of (q ∷ []) e = refl
one-of (q ∷ r ∷ qs) e = absurd (omega arith)

pub listed-one : {c : Candidates} → Usable c → c.count ≡ 1 → listed c ≡ get_or c.levels 0 (pos 0) ∷ []
listed-one {c} u e = one-of (listed c) (listed-length u ∙ e) ∙ ap (λ (q : ℤ). q ∷ []) (listed_at u 0 (rw e (lit< tt)))

below_inf : (x : Float) → T (cost x) → cond (lt x (inf false)) x (inf false) ≡ x
below_inf x C = go (lt x (inf false)) refl
  where
    go : (b : Bool) → lt x (inf false) ≡ b → cond b x (inf false) ≡ x
    go true e = refl
    go false e = sym (not-below x C e)

module _ (g : ℤ → Float) (q : ℤ) (x z : Float) (G : T (cost (g q))) (X : T (cost x)) (Z : T (cost z)) where
  -- a sole level that is not 0
  nonzero-state : eqb (nz q) 0 ≡ false → state_cost g x z (q ∷ []) ≡ add binary32 (g q) x
  unfolding state_cost nonzero_cost zero_cost nonzeros has_zero least
  nonzero-state e = rw (e, below_inf (add binary32 (g q) x) (add-cost binary32 (g q) x G X), inf-lt (add binary32 (g q) x) (add-cost binary32 (g q) x G X))

  nonzero-level : eqb (nz q) 0 ≡ false → T (finite (add binary32 (g q) x)) → state_level g x z (q ∷ []) ≡ q
  unfolding state_level nonzero_cost zero_cost nonzeros has_zero least holder
  nonzero-level e f =
      let C = add-cost binary32 (g q) x G X in
      let below : lt (add binary32 (g q) x) (inf false) ≡ true = lt-inf (add binary32 (g q) x) C ∙ is (finite (add binary32 (g q) x)) f in
      rw (e, below, inf-lt (add binary32 (g q) x) C)
    where
      is : (b : Bool) → T b → b ≡ true
      is true t = refl
      is false t = elim t [ ]

  -- a sole 0
  zero-state : eqb (nz q) 0 ≡ true → state_cost g x z (q ∷ []) ≡ add binary32 (g q) z
  unfolding state_cost nonzero_cost zero_cost nonzeros has_zero least
  zero-state e =
      let same : pos 0 ≡ q = sym (zero_is q (eqb-true (nz q) 0 e)) in
      rw (e, same, below_inf (add binary32 (g q) z) (add-cost binary32 (g q) z G Z))

  zero-level : eqb (nz q) 0 ≡ true → state_level g x z (q ∷ []) ≡ q
  unfolding state_level nonzero_cost zero_cost nonzeros has_zero least holder
  zero-level e =
      let same : pos 0 ≡ q = sym (zero_is q (eqb-true (nz q) 0 e)) in
      rw (e, same) (go (lt (add binary32 (g q) z) (inf false)))
    where
      go : (b : Bool) → cond b q q ≡ q
      go true = refl
      go false = refl

  sole-cost : state_cost g x z (q ∷ []) ≡ add binary32 (g q) (cond (eqb (nz q) 0) z x)
  sole-cost = go (eqb (nz q) 0) refl
    where
      go : (b : Bool) → eqb (nz q) 0 ≡ b → state_cost g x z (q ∷ []) ≡ add binary32 (g q) (cond b z x)
      go true e = zero-state e
      go false e = nonzero-state e

  sole-level : T (finite (add binary32 (g q) (cond (eqb (nz q) 0) z x))) → state_level g x z (q ∷ []) ≡ q
  sole-level f = go (eqb (nz q) 0) refl f
    where
      go : (b : Bool) → eqb (nz q) 0 ≡ b → T (finite (add binary32 (g q) (cond b z x))) → state_level g x z (q ∷ []) ≡ q
      go true e h = zero-level e
      go false e h = nonzero-level e h

  sole-sound : T (cost (add binary32 (g q) (cond (eqb (nz q) 0) z x)))
  sole-sound = add-cost binary32 (g q) (cond (eqb (nz q) 0) z x) G (go (eqb (nz q) 0))
    where
      go : (b : Bool) → T (cost (cond b z x))
      go true = Z
      go false = X

  pub settled-sole : Settled g x z (q ∷ []) (sole_chosen (add binary32 (g q) (cond (eqb (nz q) 0) z x)))
  unfolding sole_chosen
  settled-sole = go (lt sum (inf false)) refl
    where
      sum : Float
      sum = add binary32 (g q) (cond (eqb (nz q) 0) z x)

      finite-is : lt sum (inf false) ≡ finite sum
      finite-is = lt-inf sum sole-sound

      go : (b : Bool) → lt sum (inf false) ≡ b → Settled g x z (q ∷ []) (record { cost = sum; choice = cond b 0 255 })
      go true e =
          record {
            cost = sym sole-cost;
            level = λ f. sym (sole-level f);
            below = λ f. lit< tt;
            none = λ f. absurd (subst (λ (b : Bool). T (not b)) (sym finite-is ∙ e) f);
          }
      go false e =
          record {
            cost = sym sole-cost;
            level = λ f. absurd (subst T (sym finite-is ∙ e) f);
            below = λ f. absurd (subst T (sym finite-is ∙ e) f);
            none = λ f. refl;
          }

  -- where nothing finite follows, the state is infinite
  pub settled-dead : cond (eqb (nz q) 0) z x ≡ inf false → Settled g x z (q ∷ []) (record { cost = inf false; choice = 255 })
  unfolding finite
  settled-dead e =
      record { cost = sym (sole-cost ∙ ap (add binary32 (g q)) e ∙ add-inf binary32 (g q) G); level = λ f. absurd f; below = λ f. absurd f; none = λ f. refl }

-- what follows, of the two
pub sole-tail : (q : ℤ) (next : List Float) (s : Span) (r : ℕ) → sole_tail q next s r ≡ cond (eqb (nz q) 0) (zero_tail (q ∷ []) next s r) (nonzero_tail next s r)
unfolding sole_tail zero_tail has_zero
sole-tail q next s r = go (eqb (nz q) 0)
  where
    go : (b : Bool) → cond b (tail_at next s r 0) (nonzero_tail next s r) ≡ cond b (cond (b || false) (tail_at next s r 0) (inf false)) (nonzero_tail next s r)
    go true = refl
    go false = refl

-- ---- the states of count r
-- the sum of distortion and token is the local cost: where there is no token, 0.0 is added
pub sum_is : (book : Book) (x : Place) (r p : ℕ) (q : ℤ) {d t : Float} → T (cost (local_at book x r p q)) → d ≡ distortion_at x q → t ≡ token_in book x (context_at x r) p q
    → add binary32 d t ≡ local_at book x r p q
unfolding local_at local_in token_in distortion_at distortion_of
sum_is book x r p q {d} {t} C e f = rw (e, f) (go (eqb (context_at x r) 0) C)
  where
    sum : Float
    sum = add binary32 (distortion_at x q) (rated_in book x (context_at x r) p q)

    go : (b : Bool) → T (cost (cond b (distortion_at x q) sum)) → add binary32 (distortion_at x q) (cond b (fin false 0 (pos 0)) (rated_in book x (context_at x r) p q)) ≡ cond b (distortion_at x q) sum
    go true c = add-zero binary32 (distortion_at x q) c (mul-fits binary32 _ _)
    go false c = refl

module _ {book : Book} {x : Place} {next : List Float} {s : Span} {q : ℤ} {distortion : Float} {token : Pair} {r : ℕ} (w : SoleReady book x next s q distortion token r) where
  module _ (p : ℕ) (P : p ≤ 1) {tail : Float} (e : tail ≡ sole_tail q next s r) where
    tail_is : tail ≡ cond (eqb (nz q) 0) (zero_tail (q ∷ []) next s r) (nonzero_tail next s r)
    tail_is = e ∙ sole-tail q next s r

    pub sole-state : {v a : Float} {m : ℕ} → v ≡ token_in book x (context_at x r) p q → (a ≡ add binary32 (add binary32 distortion v) tail) × (m ≡ cond (lt (add binary32 (add binary32 distortion v) tail) (inf false)) 0 255)
        → Settled (local_at book x r p) (nonzero_tail next s r) (zero_tail (q ∷ []) next s r) (q ∷ []) (record { cost = a; choice = m })
    unfolding sole_chosen
    sole-state d f =
        rw (f.0, f.1, sum_is book x r p q (w.local p P) w.distortion_is d, tail_is)
        (settled-sole (local_at book x r p) q _ _ (w.local p P) w.nonzero_follows w.zero_follows)

    pub sole-dead : {v : Float} {choice : ℕ} → tail ≡ inf false → v ≡ inf false → choice ≡ 255
        → Settled (local_at book x r p) (nonzero_tail next s r) (zero_tail (q ∷ []) next s r) (q ∷ []) (record { cost = v; choice = choice })
    sole-dead f g h = rw (g, h) (settled-dead (local_at book x r p) q _ _ (w.local p P) w.nonzero_follows w.zero_follows (sym tail_is ∙ f))

  -- what follows is a cost
  pub tail-infinite : {tail y : Float} → tail ≡ sole_tail q next s r → y ≡ inf false → lt tail y ≡ false → tail ≡ inf false
  tail-infinite {tail} {y} e i t = not-below tail (subst⁻¹ (λ (z : Float). T (cost z)) (e ∙ sole-tail q next s r) (go (eqb (nz q) 0))) (rw i at t)
    where
      go : (b : Bool) → T (cost (cond b (zero_tail (q ∷ []) next s r) (nonzero_tail next s r)))
      go true = w.zero_follows
      go false = w.nonzero_follows

-- the states as written
pub states-first : {t : States} (d : Float) (token : Pair) (tail : Float) → t ≡ sole_states d token tail → (t.first.cost ≡ add binary32 (add binary32 d token.first) tail) × (t.first.choice ≡ cond (lt (add binary32 (add binary32 d token.first) tail) (inf false)) 0 255)
unfolding sole_states sole_chosen
states-first d token tail e = (ap (λ (t : States). t.first.cost) e, ap (λ (t : States). t.first.choice) e)

pub states-second : {t : States} (d : Float) (token : Pair) (tail : Float) → t ≡ sole_states d token tail → (t.second.cost ≡ add binary32 (add binary32 d token.second) tail) × (t.second.choice ≡ cond (lt (add binary32 (add binary32 d token.second) tail) (inf false)) 0 255)
unfolding sole_states sole_chosen
states-second d token tail e = (ap (λ (t : States). t.second.cost) e, ap (λ (t : States). t.second.choice) e)

-- ---- the row
pub count-first : {n : ℕ} → n ≡ 1 → 0 < n
count-first e = rw e (lit< tt)

-- a count of a row that can be worked out
pub sole-ready : {book : Book} {x : Place} {levels : List ℤ} {next : List Float} {s : Span} {most : ℕ} (n context : ℕ) {d : Float} {token : Pair} → Workable book x levels next s most → length levels ≡ 1 → n ≤ most
    → context_at x n ≡ context → d ≡ distortion_at x (get_or levels 0 (pos 0)) → TokenIs book x context (get_or levels 0 (pos 0)) token
    → SoleReady book x next s (get_or levels 0 (pos 0)) d token n
sole-ready {book} {x} {levels} {next} {s} {most} n context {d} {token} w one h e f t =
    record {
      local = λ p P. w.locals n p _ h P (rw (one-of levels one) (here refl));
      nonzero_follows = nonzero-tail-cost w n;
      zero_follows = zero-tail-cost w _ n;
      distortion_is = f;
      token_is = subst⁻¹ (λ (k : ℕ). TokenIs book x k (get_or levels 0 (pos 0)) token) e t;
    }
