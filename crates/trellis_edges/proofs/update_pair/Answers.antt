use mathlib.Core.Path.{◌≡◌, ◌∙◌, refl, ap}
use mathlib.Core.Bool.{Bool, true, false, cond}
use mathlib.Core.List.{List}
use Prim.Native.Nat.{ℕ, ◌+◌, ◌*◌, ◌≤◌, ◌<◌}
use native.Mathlib.Omega.{arith}
use lib.Dec.{lit≤}
use lib.ListN.{length}
use lib.Ieee.{Float, lt}
use Rattle.half_bytes.specs.Packed.{wide, kept, unpacked}
use Rattle.half_bytes.proofs.Laws.{unpacked-length, kept-few, kept-wide}
use Rattle.steps.specs.Best.{considered}
use Rattle.steps.specs.declared.best.Best.{Best}
use Rattle.trellis_edges.specs.Edges.{lesser, choice_of}
use Rattle.trellis_edges.proofs.update_pair.Goals as goal

inside : (choices : List ℕ) (at k : ℕ) → 2 * at + 2 * k + 1 < length (unpacked choices) → at + k < length choices
inside choices at k h = omega (arith, h, unpacked-length choices)

-- what a state has after one edge more, by its fields
after-cost : (held : Best ℕ) (x : Float) (j : ℕ) → (considered held x j).cost ≡ lesser x held.cost
unfolding considered lesser
after-cost held x j = go (lt x held.cost)
  where
    go : (t : Bool) → (cond {A = Best ℕ} t (record { cost = x; choice = j }) held).cost ≡ cond t x held.cost
    go true = refl
    go false = refl

after-choice : (held : Best ℕ) (x : Float) (j : ℕ) → (considered held x j).choice ≡ choice_of x held.cost j held.choice
unfolding considered choice_of
after-choice held x j = go (lt x held.cost)
  where
    go : (t : Bool) → (cond {A = Best ℕ} t (record { cost = x; choice = j }) held).choice ≡ cond t j held.choice
    go true = refl
    go false = refl

-- what is packed of an edge's choice, or of the half byte that stays, stands for the one or the other
marked : (u v : Float) (j h x : ℕ) {p : ℕ} → p ≡ choice_of u v j h → j ≤ 14 → h < 16 → wide h ≡ x → kept p ≡ choice_of u v j x
unfolding choice_of
marked u v j h x e few small stands = rw e (go (lt u v))
  where
    go : (t : Bool) → kept (cond t j h) ≡ cond t j x
    go true = kept-few j few
    go false = kept-wide h small ∙ stands

pub overflow_add-byte : goal.overflow_add-byte
overflow_add-byte c = record { fits = omega (arith, inside _ _ _ c.requires.1.0) }

pub half-requires : goal.half-requires
half-requires c = (inside _ _ _ c.requires.1.0, lit≤ tt)

pub half-requires-2 : goal.half-requires-2
half-requires-2 c = (inside _ _ _ c.requires.1.0, lit≤ tt)

pub returns : goal.returns
returns c =
    let a = c.args in
    let pre = c.requires in
    let pair = c.write_pair.ensures in
    let first = c.consider.ensures in
    let second = c.consider-2.ensures in
    let first-cost = ap (λ (b : Best ℕ). b.cost) first ∙ after-cost _ _ _ in
    let first-choice = ap (λ (b : Best ℕ). b.choice) first ∙ after-choice _ _ _ in
    let second-cost = ap (λ (b : Best ℕ). b.cost) second ∙ after-cost _ _ _ in
    let second-choice = ap (λ (b : Best ℕ). b.choice) second ∙ after-choice _ _ _ in
    let low = c.half.ensures in
    let high = c.half-2.ensures in
    let even : 2 * (a.at + a.k) + 0 ≡ 2 * a.at + 2 * a.k = omega arith in
    let odd : 2 * (a.at + a.k) + 1 ≡ 2 * a.at + 2 * a.k + 1 = omega arith in
    record {
      costs = rw (first-cost, second-cost) at pair.0;
      marks = rw (marked _ _ _ _ _ first-choice pre.1.1 low.1 (rw even at low.0), marked _ _ _ _ _ second-choice pre.1.1 high.1 (rw odd at high.0)) at pair.1;
    }
