-- The candidates as an array with a count, and as a list. Assumes nothing.
use mathlib.Core.Path.{◌≡◌, ◌∙◌, sym, ap}
use mathlib.Core.List.{List}
use Prim.Native.Nat.{ℕ, ◌<◌, ◌≤◌}
use native.Mathlib.Omega.{arith}
use lib.Dec.{T}
use lib.IntN.{ℤ, pos}
use lib.ListN.{length, get_or, length-take}
use lib.Seq.{get_or-take}
use mir.Syntax.{w32}
use mir.Val.{of_z, to_z}
use Rattle.bias.specs.Level.{is_level}
use Rattle.candidates.specs.declared.Candidates.{Candidates}
use Rattle.bias.proofs.Cases.{level-sfits}
use Rattle.steps.proofs.Zero.{level-back, is-zero, other-nz}
use Rattle.steps.specs.Plan.{listed, Usable, Pickable, Each}
use lib.Ieee.{Float, nan}
use Rattle.least_cost.specs.Position.{nz}
use Rattle.steps.proofs.Arrays.{Front}

module _ {c : Candidates} (u : Usable c) where
  pub listed-length : length (listed c) ≡ c.count
  listed-length = simp length-take (omega (arith, u.few, u.five))

  pub listed_at : (j : ℕ) → j < c.count → get_or (listed c) j (pos 0) ≡ get_or c.levels j (pos 0)
  listed_at j h = rw get_or-take

  -- a level as 32 bits, and back
  pub usable-back : (j : ℕ) → j < c.count → to_z w32 (of_z w32 (get_or c.levels j (pos 0))) ≡ get_or c.levels j (pos 0)
  usable-back j h = level-back _ (u.levels j h)

  pub usable-level : (j : ℕ) → j < c.count → T (is_level (to_z w32 (of_z w32 (get_or c.levels j (pos 0)))))
  usable-level j h = rw (usable-back j h) (u.levels j h)

  pub each-listed : {g : ℤ → Float} {xs : List Float} → Front nan (λ k. g (get_or c.levels k (pos 0))) c.count xs → Each g (listed c) xs
  each-listed {g} {xs} w = record { at = λ j h. go j (rw listed-length at h) }
    where
      go : (j : ℕ) → j < c.count → get_or xs j nan ≡ g (get_or (listed c) j (pos 0))
      go j h = w.at j h ∙ ap g (sym (listed_at j h))

  -- the level that the code hands over is the listed one
  pub usable-listed : (j : ℕ) → j < c.count → to_z w32 (of_z w32 (get_or c.levels j (pos 0))) ≡ get_or (listed c) j (pos 0)
  usable-listed j h = usable-back j h ∙ sym (listed_at j h)

  pub listed_below : (j : ℕ) → j < c.count → j < length (listed c)
  listed_below j h = rw listed-length h

  pub listed-few : length (listed c) ≤ 5
  listed-few = rw listed-length u.few

  -- the test of a level against 0
  pub listed-zero : (j : ℕ) → j < c.count → of_z w32 (get_or c.levels j (pos 0)) ≡ 0 → get_or (listed c) j (pos 0) ≡ pos 0
  listed-zero j h e = listed_at j h ∙ is-zero _ (level-sfits _ (u.levels j h)) e

  pub listed-nonzero : (j : ℕ) → j < c.count → (of_z w32 (get_or c.levels j (pos 0)) ≡ 0 → ⊥) → nz (get_or (listed c) j (pos 0)) ≡ 1
  listed-nonzero j h e = ap nz (listed_at j h) ∙ other-nz _ e

  listed-level : (j : ℕ) → j < length (listed c) → T (is_level (get_or (listed c) j (pos 0)))
  listed-level j h =
      let below = rw listed-length at h in
      rw get_or-take (u.levels j below)

-- the array's candidates as a list
pub pickable-of : {c : Candidates} → Usable c → Pickable (listed c)
pickable-of u = record { few = rw (listed-length u) u.few; level = listed-level u }

module _ {levels : List ℤ} (u : Pickable levels) where
  -- a level as 32 bits, and back
  pub pickable-back : (j : ℕ) → j < length levels → to_z w32 (of_z w32 (get_or levels j (pos 0))) ≡ get_or levels j (pos 0)
  pickable-back j h = level-back _ (u.level j h)

  pub pickable-level : (j : ℕ) → j < length levels → T (is_level (to_z w32 (of_z w32 (get_or levels j (pos 0)))))
  pickable-level j h = rw (pickable-back j h) (u.level j h)

  -- the test of a level against 0
  pub pickable-zero : (j : ℕ) → j < length levels → of_z w32 (get_or levels j (pos 0)) ≡ 0 → get_or levels j (pos 0) ≡ pos 0
  pickable-zero j h e = is-zero _ (level-sfits _ (u.level j h)) e
