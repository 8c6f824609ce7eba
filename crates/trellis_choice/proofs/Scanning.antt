-- The loop that looks for the first least among the nonzero candidates: what holds after j of them. Assumes nothing.
use mathlib.Core.Path.{◌≡◌, refl, sym, ap, ◌∙◌}
use mathlib.Core.Bool.{Bool, true, false, cond}
use mathlib.Core.List.{List, ◌∷◌}
use Prim.Native.Nat.{ℕ, ◌+◌, ◌≤◌, ◌<◌}
use native.Mathlib.Omega.{arith}
use native.Mathlib.Numerals.{add-one}
use lib.IntN.{ℤ, pos}
use lib.ListN.{length, get_or, drop, get_or-eq_default}
use lib.Seq.{drop-cons, drop-length}
use lib.Ieee.{Float, inf, lt}
use Rattle.least_cost.specs.Position.{nz}
use Rattle.least_cost.specs.Search.{least, holder, nonzeros}
use Rattle.least_cost.specs.Factored.{runner_up}
use Rattle.trellis_choice.specs.Locals.{nothing, considered, FirstLeast}
use Rattle.trellis_choice.specs.declared.locals.Least.{Least}

-- the search from l on, over what is left, ends where the whole search does
pub record Scanned (g : ℤ → Float) (levels : List ℤ) (j : ℕ) (l : Least) : Type 0 where
  pub cost : least g l.cost (nonzeros (drop j levels)) ≡ least g (inf false) (nonzeros levels)
  pub before : runner_up g l.cost l.before (nonzeros (drop j levels)) ≡ runner_up g (inf false) (inf false) (nonzeros levels)
  pub choice : holder g l.cost (get_or levels l.choice (pos 0)) (nonzeros (drop j levels)) ≡ holder g (inf false) (pos 0) (nonzeros levels)

pub scanned-none : (g : ℤ → Float) (levels : List ℤ) → length levels ≤ 5 → Scanned g levels 0 nothing
unfolding nothing
scanned-none g levels few =
    record {
      cost = refl;
      before = refl;
      choice = ap (λ (d : ℤ). holder g (inf false) d (nonzeros levels)) (get_or-eq_default levels (pos 0) {n = 255} (omega arith));
    }

pub skip : (c : ℤ) (cs : List ℤ) → nz c ≡ 0 → nonzeros (c ∷ cs) ≡ nonzeros cs
unfolding nonzeros
skip c cs z = rw z

pub keep : (c : ℤ) (cs : List ℤ) → nz c ≡ 1 → nonzeros (c ∷ cs) ≡ c ∷ nonzeros cs
unfolding nonzeros
keep c cs o = rw o

-- what is left from j on: the j-th, then what is left after it
pub rest : (levels : List ℤ) (j : ℕ) → j < length levels → drop j levels ≡ get_or levels j (pos 0) ∷ drop (j + 1) levels
rest levels j room = drop-cons levels j (pos 0) room ∙ ap (λ (n : ℕ). get_or levels j (pos 0) ∷ drop n levels) (sym (add-one j))

module _ {g : ℤ → Float} {levels : List ℤ} {j : ℕ} {l : Least} (room : j < length levels) (w : Scanned g levels j l) where
  pub scanned-zero : nz (get_or levels j (pos 0)) ≡ 0 → Scanned g levels (j + 1) l
  scanned-zero z =
      let left = ap nonzeros (rest levels j room) ∙ skip (get_or levels j (pos 0)) (drop (j + 1) levels) z in
      record { cost = rw left at w.cost; before = rw left at w.before; choice = rw left at w.choice }

  pub scanned-more : nz (get_or levels j (pos 0)) ≡ 1 → Scanned g levels (j + 1) (considered l (g (get_or levels j (pos 0))) j)
  unfolding considered least runner_up holder
  scanned-more o =
      let left = ap nonzeros (rest levels j room) ∙ keep (get_or levels j (pos 0)) (drop (j + 1) levels) o in
      go (lt (g (get_or levels j (pos 0))) l.cost) (rw left at w.cost) (rw left at w.before) (rw left at w.choice)
    where
      c : ℤ
      c = get_or levels j (pos 0)

      ns : List ℤ
      ns = nonzeros (drop (j + 1) levels)

      go : (b : Bool) → least g (cond b (g c) l.cost) ns ≡ least g (inf false) (nonzeros levels)
          → runner_up g (cond b (g c) l.cost) (cond b l.cost l.before) ns ≡ runner_up g (inf false) (inf false) (nonzeros levels)
          → holder g (cond b (g c) l.cost) (cond b c (get_or levels l.choice (pos 0))) ns ≡ holder g (inf false) (pos 0) (nonzeros levels)
          → Scanned g levels (j + 1) (cond b (record { cost = g c; before = l.cost; choice = j }) l)
      go true p q r = record { cost = p; before = q; choice = r }
      go false p q r = record { cost = p; before = q; choice = r }

pub scanned-all : {g : ℤ → Float} {levels : List ℤ} {l : Least} → Scanned g levels (length levels) l → FirstLeast g levels l
unfolding nonzeros least runner_up holder
scanned-all {g} {levels} w =
    let none = drop-length levels in
    record { cost = rw none at w.cost; before = rw none at w.before; choice = rw none at w.choice }
