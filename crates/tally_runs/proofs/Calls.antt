-- One call: what it brings to a count or takes from it, by its reply. Assumes nothing.
use mathlib.Core.Path.{◌≡◌, refl}
use mathlib.Core.Bool.{Bool, true, false, cond}
use mathlib.Core.List.{List}
use Prim.Native.Nat.{ℕ, zero, suc, ◌+◌, ◌≤◌, ◌<◌}
use native.Mathlib.Omega.{arith}
use borrow.Author.Tests.{eqb-true, leb-true}
use lib.Dec.{eqb, leb}
use lib.ListN.{length, get_or}
use Rattle.coding.specs.Coding.{Coding}
use Rattle.laws.specs.Refusals.{first_refused}
use Rattle.laws.proofs.Tests.{and_left, and_right}
use Rattle.prices.specs.Checks.{each}
use Rattle.prices.proofs.Each.{each_below}
use Rattle.tallying.specs.Uses.{Tokens, place_at, used_at, extra_used}
use Rattle.tallying.specs.Tally.{Tally, many, plus, minus, tally_checks, settled, addable, removable, added, removed}
use Rattle.tallying.proofs.Checks.{own-passed}
use Rattle.tallying.proofs.Entries.{plus-sized, minus-sized, plus-at, minus-at}
use Rattle.tally_runs.specs.Runs.{Call, Add, Remove, done, brought_by, taken_by, extra_brought, extra_taken}

-- what is counted at a place is no more than what was there, where each token's place has enough
used-there : (map configs : List ℕ) (t : Tokens) (had : ℕ → ℕ) (all : ℕ) (n : ℕ) → ((i : ℕ) → i < n → used_at map configs t all (place_at map configs t i) ≤ had (place_at map configs t i))
    → (s : ℕ) → 1 ≤ used_at map configs t n s → used_at map configs t all s ≤ had s
unfolding used_at
used-there map configs t had all zero h s some = absurd (omega (arith, some))
used-there map configs t had all (suc n) h s some =
    go (eqb (place_at map configs t n) s) refl (h n (omega arith)) some (used-there map configs t had all n (λ i l. h i (omega arith)) s)
  where
    go : (b : Bool) → eqb (place_at map configs t n) s ≡ b → used_at map configs t all (place_at map configs t n) ≤ had (place_at map configs t n)
        → 1 ≤ cond b 1 0 + used_at map configs t n s → (1 ≤ used_at map configs t n s → used_at map configs t all s ≤ had s) → used_at map configs t all s ≤ had s
    go true e here some rest = let same = eqb-true (place_at map configs t n) s e in rw same at here
    go false e here some rest = rest (omega (arith, some))

removable-counts : (k : Coding) (t : Tokens) (y : Tally) → removable k t y ≡ true → (s : ℕ) → used_at k.map k.configs t (many t) s ≤ get_or y.counts s 0
unfolding removable
removable-counts k t y e s = go (used_at k.map k.configs t (many t) s) refl
  where
    enough : (i : ℕ) → Bool
    enough i = leb (used_at k.map k.configs t (many t) (place_at k.map k.configs t i)) (get_or y.counts (place_at k.map k.configs t i) 0)

    go : (u : ℕ) → used_at k.map k.configs t (many t) s ≡ u → used_at k.map k.configs t (many t) s ≤ get_or y.counts s 0
    go zero z = omega (arith, z)
    go (suc u) z =
        used-there k.map k.configs t (λ p. get_or y.counts p 0) (many t) (many t)
        (λ i h. leb-true (used_at k.map k.configs t (many t) (place_at k.map k.configs t i)) (get_or y.counts (place_at k.map k.configs t i) 0)
        (each_below enough (many t) (and_left (each (many t) enough) (leb (extra_used k.map k.configs t (many t)) y.extra) e) i h))
        s (omega (arith, z))

removable-extra : (k : Coding) (t : Tokens) (y : Tally) → removable k t y ≡ true → extra_used k.map k.configs t (many t) ≤ y.extra
unfolding removable
removable-extra k t y e = leb-true (extra_used k.map k.configs t (many t)) y.extra (and_right (each (many t) _) (leb (extra_used k.map k.configs t (many t)) y.extra) e)

-- ---- one call
-- x where the reply is 0, else nothing
abbrev pub if0 : ℕ → ℕ → ℕ
if0 reply x = cond (eqb reply 0) x 0

pub record Balanced (c : Call) (y : Tally) : Type 0 where
  pub sized : length (done c y).tally.counts ≡ length y.counts
  pub counts : (s : ℕ) → s < length y.counts → get_or (done c y).tally.counts s 0 + if0 (done c y).reply (taken_by c s) ≡ get_or y.counts s 0 + if0 (done c y).reply (brought_by c s)
  pub extra : (done c y).tally.extra + if0 (done c y).reply (extra_taken c) ≡ y.extra + if0 (done c y).reply (extra_brought c)

module _ (k : Coding) (t : Tokens) (y : Tally) where
  abbrev uses : ℕ → ℕ
  uses s = used_at k.map k.configs t (many t) s

  abbrev bits : ℕ
  bits = extra_used k.map k.configs t (many t)

  -- b: whether the call answered 0
  add-sized : (b : Bool) → length (cond b (plus k.map k.configs t (many t) y) y).counts ≡ length y.counts
  add-sized true = plus-sized k.map k.configs t (many t) y
  add-sized false = refl

  add-counts : (b : Bool) (s : ℕ) → s < length y.counts → get_or (cond b (plus k.map k.configs t (many t) y) y).counts s 0 + cond b 0 0 ≡ get_or y.counts s 0 + cond b (uses s) 0
  add-counts true s h = omega (arith, plus-at k.map k.configs t (many t) y s h)
  add-counts false s h = refl

  add-extra : (b : Bool) → (cond b (plus k.map k.configs t (many t) y) y).extra + cond b 0 0 ≡ y.extra + cond b bits 0
  unfolding plus
  add-extra true = omega arith
  add-extra false = refl

  balanced-add : Balanced (Add k t) y
  unfolding done added settled taken_by brought_by extra_taken extra_brought
  balanced-add =
      let b = eqb (first_refused (tally_checks k t y (addable k t y, 27)) 0) 0 in
      record { sized = add-sized b; counts = add-counts b; extra = add-extra b }

  remove-sized : (b : Bool) → length (cond b (minus k.map k.configs t (many t) y) y).counts ≡ length y.counts
  remove-sized true = minus-sized k.map k.configs t (many t) y
  remove-sized false = refl

  remove-counts : (b : Bool) → (b ≡ true → removable k t y ≡ true) → (s : ℕ) → s < length y.counts
      → get_or (cond b (minus k.map k.configs t (many t) y) y).counts s 0 + cond b (uses s) 0 ≡ get_or y.counts s 0 + cond b 0 0
  remove-counts true ok s h = omega (arith, minus-at k.map k.configs t (many t) y s h, removable-counts k t y (ok refl) s)
  remove-counts false ok s h = refl

  remove-extra : (b : Bool) → (b ≡ true → removable k t y ≡ true) → (cond b (minus k.map k.configs t (many t) y) y).extra + cond b bits 0 ≡ y.extra + cond b 0 0
  unfolding minus
  remove-extra true ok = omega (arith, removable-extra k t y (ok refl))
  remove-extra false ok = refl

  balanced-remove : Balanced (Remove k t) y
  unfolding done removed settled taken_by brought_by extra_taken extra_brought
  balanced-remove =
      let r = first_refused (tally_checks k t y (removable k t y, 28)) 0 in
      let ok : eqb r 0 ≡ true → removable k t y ≡ true = λ e. own-passed k t y (removable k t y) 28 refl (eqb-true r 0 e) in
      record { sized = remove-sized (eqb r 0); counts = remove-counts (eqb r 0) ok; extra = remove-extra (eqb r 0) ok }

pub balanced : (c : Call) (y : Tally) → Balanced c y
balanced (Add k t) y = balanced-add k t y
balanced (Remove k t) y = balanced-remove k t y
