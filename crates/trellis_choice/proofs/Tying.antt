-- The loops that look for a candidate: for the first whose sum is a given one, and for 0. Assumes nothing.
use mathlib.Core.Path.{◌≡◌, refl, sym, ap, ◌∙◌}
use mathlib.Core.Bool.{Bool, true, false, cond, not, ◌&&◌, ◌||◌, true≢false}
use mathlib.Core.List.{List}
use Prim.Native.Nat.{ℕ, ◌+◌, ◌<◌}
use lib.IntN.{ℤ, pos}
use lib.Dec.{eqb}
use lib.ListN.{length, get_or, drop}
use lib.Seq.{drop-length}
use lib.Ieee.{Float, eq}
use borrow.Author.Tests.{eqb-true, eqb-false}
use Rattle.least_cost.specs.Position.{nz}
use Rattle.least_cost.specs.Search.{nonzeros, has_zero}
use Rattle.least_cost.specs.Factored.{first_equal}
use Rattle.trellis_choice.specs.Chosen.{with, is_tie}
use Rattle.trellis_choice.proofs.Scanning.{rest, skip, keep}
use Rattle.trellis_choice.proofs.Noting.{nz-one}

-- no sum of the first j levels is x
pub record Untied (g : ℤ → Float) (tail x : Float) (d : ℤ) (levels : List ℤ) (j : ℕ) : Type 0 where
  pub left : first_equal (with g tail) x d (nonzeros (drop j levels)) ≡ first_equal (with g tail) x d (nonzeros levels)

pub untied-none : (g : ℤ → Float) (tail x : Float) (d : ℤ) (levels : List ℤ) → Untied g tail x d levels 0
untied-none g tail x d levels = record { left = refl }

module _ (g : ℤ → Float) (tail x local : Float) (d : ℤ) (levels : List ℤ) (j : ℕ) (room : j < length levels) (e : local ≡ g (get_or levels j (pos 0))) (w : Untied g tail x d levels j) where
  at_one : nz (get_or levels j (pos 0)) ≡ 1 → cond (eq (with g tail (get_or levels j (pos 0))) x) (get_or levels j (pos 0)) (first_equal (with g tail) x d (nonzeros (drop (j + 1) levels))) ≡ first_equal (with g tail) x d (nonzeros levels)
  unfolding first_equal
  at_one o = rw (ap nonzeros (rest levels j room) ∙ keep (get_or levels j (pos 0)) (drop (j + 1) levels) o) at w.left

  pub untied-more : is_tie (get_or levels j (pos 0)) local tail x ≡ false → Untied g tail x d levels (j + 1)
  unfolding is_tie
  untied-more t = record { left = go (eqb (nz (get_or levels j (pos 0))) 0) refl t }
    where
      go : (b : Bool) → eqb (nz (get_or levels j (pos 0))) 0 ≡ b → not b && eq (with (λ c. local) tail (pos 0)) x ≡ false → first_equal (with g tail) x d (nonzeros (drop (j + 1) levels)) ≡ first_equal (with g tail) x d (nonzeros levels)
      go true z f = rw (ap nonzeros (rest levels j room) ∙ skip (get_or levels j (pos 0)) (drop (j + 1) levels) (eqb-true _ 0 z)) at w.left
      go false z f = rw (rw e at f) at (at_one (nz-one (get_or levels j (pos 0)) (eqb-false _ 0 z)))

  pub tied-here : is_tie (get_or levels j (pos 0)) local tail x ≡ true → get_or levels j (pos 0) ≡ first_equal (with g tail) x d (nonzeros levels)
  unfolding is_tie
  tied-here t = go (eqb (nz (get_or levels j (pos 0))) 0) refl t
    where
      go : (b : Bool) → eqb (nz (get_or levels j (pos 0))) 0 ≡ b → not b && eq (with (λ c. local) tail (pos 0)) x ≡ true → get_or levels j (pos 0) ≡ first_equal (with g tail) x d (nonzeros levels)
      go true z f = absurd (true≢false (sym f))
      go false z f = rw (rw e at f) at (at_one (nz-one (get_or levels j (pos 0)) (eqb-false _ 0 z)))

pub untied-all : {g : ℤ → Float} {tail x : Float} {d : ℤ} {levels : List ℤ} → Untied g tail x d levels (length levels) → d ≡ first_equal (with g tail) x d (nonzeros levels)
unfolding first_equal nonzeros
untied-all {levels = levels} w = rw (drop-length levels) at w.left

-- ---- 0
-- it is not among the first j
pub record NoZero (levels : List ℤ) (j : ℕ) : Type 0 where
  pub left : has_zero (drop j levels) ≡ has_zero levels

pub zero_none : (levels : List ℤ) → NoZero levels 0
zero_none levels = record { left = refl }

module _ {levels : List ℤ} {j : ℕ} (room : j < length levels) (w : NoZero levels j) where
  split-zero : eqb (nz (get_or levels j (pos 0))) 0 || has_zero (drop (j + 1) levels) ≡ has_zero levels
  unfolding has_zero
  split-zero = rw (rest levels j room) at w.left

  pub zero_more : nz (get_or levels j (pos 0)) ≡ 1 → NoZero levels (j + 1)
  zero_more o = record { left = rw o at split-zero }

  pub zero-here : nz (get_or levels j (pos 0)) ≡ 0 → has_zero levels ≡ true
  zero-here z = sym (rw z at split-zero)

pub zero-all : {levels : List ℤ} → NoZero levels (length levels) → has_zero levels ≡ false
unfolding has_zero
zero-all {levels} w = sym (rw (drop-length levels) at w.left)
