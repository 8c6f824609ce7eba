-- The loop over the candidates of one context: what holds after j of them. Assumes nothing.
use mathlib.Core.Path.{◌≡◌, refl, sym, ap, ◌∙◌, subst⁻¹}
use mathlib.Core.Bool.{Bool, true, false, cond, ◌||◌, true≢false}
use mathlib.Core.List.{List, [], ◌∷◌}
use Prim.Native.Nat.{ℕ, zero, suc, ◌+◌, ◌≤◌, ◌<◌, zero-le, suc-le-suc}
use native.Mathlib.Omega.{arith}
use lib.IntN.{ℤ, pos, negsuc}
use lib.Dec.{eqb}
use lib.ListN.{length, get_or, set, length-set}
use lib.Ieee.{Float, nan}
use borrow.Author.Tests.{eqb-true, eqb-false}
use Rattle.least_cost.specs.Position.{nz}
use Rattle.least_cost.specs.Search.{has_zero}
use Rattle.trellis_choice.specs.Locals.{nothing, considered, noted, Empty, Located}
use Rattle.trellis_choice.specs.declared.locals.Least.{Least}
use Rattle.trellis_choice.specs.declared.locals.Locals.{Locals}
use Rattle.steps.proofs.Arrays.{Front, front-none, front-more}
use Rattle.trellis_choice.proofs.Scanning.{Scanned, scanned-none, scanned-zero, scanned-more, scanned-all}

-- one of the first j levels is 0: then z is its local cost
pub record ZeroSeen (g : ℤ → Float) (levels : List ℤ) (j : ℕ) (z : Float) : Type 0 where
  pub seen : (k : ℕ) → k < j → nz (get_or levels k (pos 0)) ≡ 0 → z ≡ g (pos 0)

-- for one `prev`, after j levels
pub record Half (g : ℤ → Float) (levels : List ℤ) (j : ℕ) (xs : List Float) (l : Least) (z : Float) : Type 0 where
  pub long : length xs ≡ 5
  pub costs : Front nan (λ k. g (get_or levels k (pos 0))) j xs
  pub least : Scanned g levels j l
  pub zero : ZeroSeen g levels j z

pub record Partly (g h : ℤ → Float) (levels : List ℤ) (j : ℕ) (xs ys : List Float) (l : Locals) : Type 0 where
  pub first : Half g levels j xs l.least_first l.zero_first
  pub second : Half h levels j ys l.least_second l.zero_second

pub zero_is : (q : ℤ) → nz q ≡ 0 → q ≡ pos 0
unfolding nz
zero_is (pos zero) e = refl
zero_is (pos (suc n)) e = absurd (omega arith)
zero_is (negsuc n) e = absurd (omega arith)

pub nz-one : (q : ℤ) → (nz q ≡ 0 → ⊥) → nz q ≡ 1
unfolding nz
nz-one (pos zero) h = absurd (h refl)
nz-one (pos (suc n)) h = refl
nz-one (negsuc n) h = refl

half-none : (g : ℤ → Float) (levels : List ℤ) (costs : List Float) (l : Least) (z : Float) → length levels ≤ 5 → length costs ≡ 5 → l ≡ nothing → Half g levels 0 costs l z
half-none g levels costs l z few long e =
    record {
      long = long;
      costs = front-none nan _ costs;
      least = subst⁻¹ (λ (m : Least). Scanned g levels 0 m) e (scanned-none g levels few);
      zero = record { seen = λ k h. absurd (omega arith) };
    }

pub partly_none : (g h : ℤ → Float) (levels : List ℤ) (xs ys : List Float) (l : Locals) → length levels ≤ 5 → length xs ≡ 5 → length ys ≡ 5 → Empty l → Partly g h levels 0 xs ys l
partly_none g h levels xs ys l few long size w =
    record {
      first = half-none g levels xs l.least_first l.zero_first few long w.least_first;
      second = half-none h levels ys l.least_second l.zero_second few size w.least_second;
    }

-- one level more, for one `prev`
half-more : (g : ℤ → Float) (levels : List ℤ) (j : ℕ) (costs : List Float) (l : Least) (z x : Float) → j < length levels → length levels ≤ 5 → x ≡ g (get_or levels j (pos 0)) → Half g levels j costs l z
    → Half g levels (j + 1) (set costs j x) (cond (eqb (nz (get_or levels j (pos 0))) 0) l (considered l x j)) (cond (eqb (nz (get_or levels j (pos 0))) 0) x z)
half-more g levels j costs l z x room few e w =
    record {
      long = simp length-set w.long;
      costs = front-more (rw w.long (omega arith)) w.costs e;
      least = scanned (eqb (nz level) 0) refl;
      zero = record { seen = λ k h o. seen k h o (eqb (nz level) 0) refl };
    }
  where
    level : ℤ
    level = get_or levels j (pos 0)

    scanned : (b : Bool) → eqb (nz level) 0 ≡ b → Scanned g levels (j + 1) (cond b l (considered l x j))
    scanned true t = scanned-zero room w.least (eqb-true (nz level) 0 t)
    scanned false t = subst⁻¹ (λ (y : Float). Scanned g levels (j + 1) (considered l y j)) e (scanned-more room w.least (nz-one level (eqb-false (nz level) 0 t)))

    at_last : (k : ℕ) → k < j + 1 → (k < j → ⊥) → k ≡ j
    at_last k h n = omega (arith, n)

    seen : (k : ℕ) → k < j + 1 → nz (get_or levels k (pos 0)) ≡ 0 → (b : Bool) → eqb (nz level) 0 ≡ b → cond b x z ≡ g (pos 0)
    seen k h o true t = e ∙ ap g (zero_is level (eqb-true (nz level) 0 t))
    seen k h o false t =
        let other : k ≡ j → ⊥ = λ same. eqb-false (nz level) 0 t (rw same at o) in
        w.zero.seen k (omega (arith, other)) o

partly_more : {g h : ℤ → Float} {levels : List ℤ} {j : ℕ} {xs ys : List Float} {l : Locals} {x y : Float} → j < length levels → length levels ≤ 5 → x ≡ g (get_or levels j (pos 0)) → y ≡ h (get_or levels j (pos 0)) → Partly g h levels j xs ys l
    → Partly g h levels (j + 1) (set xs j x) (set ys j y) (noted l j (get_or levels j (pos 0)) x y)
unfolding noted
partly_more {g} {h} {levels} {j} {xs} {ys} {l} {x} {y} room few p q w =
    record {
      first = half-more g levels j xs l.least_first l.zero_first x room few p w.first;
      second = half-more h levels j ys l.least_second l.zero_second y room few q w.second;
    }

-- the same as the code has it: m is what l became with the level q and its local costs
pub partly-noted : {g h : ℤ → Float} {levels : List ℤ} {j : ℕ} {xs ys : List Float} {l m : Locals} {q : ℤ} {x y : Float} → j < length levels → length levels ≤ 5 → q ≡ get_or levels j (pos 0)
    → x ≡ g q → y ≡ h q → m ≡ noted l j q x y → Partly g h levels j xs ys l → Partly g h levels (j + 1) (set xs j x) (set ys j y) m
partly-noted {g} {h} {levels} {j} {xs} {ys} {l} {m} {q} {x} {y} room few same p r e w =
    subst⁻¹ (λ (n : Locals). Partly g h levels (j + 1) (set xs j x) (set ys j y) n) (e ∙ ap (λ (z : ℤ). noted l j z x y) same)
    (partly_more room few (p ∙ ap g same) (r ∙ ap h same) w)

-- where 0 is listed, it stands somewhere
pub record Stands (levels : List ℤ) : Type 0 where
  pub place : ℕ
  pub below : place < length levels
  pub zero : nz (get_or levels place (pos 0)) ≡ 0

stands : (levels : List ℤ) → has_zero levels ≡ true → Stands levels
unfolding has_zero
stands [] e = absurd (true≢false (sym e))
stands (q ∷ qs) e = go (eqb (nz q) 0) refl (λ t. stands qs t) e
  where
    go : (b : Bool) → eqb (nz q) 0 ≡ b → (has_zero qs ≡ true → Stands qs) → b || has_zero qs ≡ true → Stands (q ∷ qs)
    go true t later f = record { place = 0; below = suc-le-suc zero-le; zero = eqb-true (nz q) 0 t }
    go false t later f = let s = later f in record { place = suc s.place; below = suc-le-suc s.below; zero = s.zero }

zero_of : {g : ℤ → Float} {levels : List ℤ} {z : Float} → ZeroSeen g levels (length levels) z → has_zero levels ≡ true → z ≡ g (pos 0)
zero_of {g} {levels} w e = let s = stands levels e in w.seen s.place s.below s.zero

pub partly-all : {g h : ℤ → Float} {levels : List ℤ} {xs ys : List Float} {l : Locals} → Partly g h levels (length levels) xs ys l → Located g h levels xs ys l
partly-all w =
    record {
      first_each = record { at = w.first.costs.at };
      second_each = record { at = w.second.costs.at };
      least_first = scanned-all w.first.least;
      least_second = scanned-all w.second.least;
      zero_first = zero_of w.first.zero;
      zero_second = zero_of w.second.zero;
    }
