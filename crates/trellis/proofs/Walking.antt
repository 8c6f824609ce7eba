-- The walk: what each position's choice names, and what is written. Assumes nothing.
use mathlib.Core.Path.{◌≡◌, refl, sym, ap, ap₂, ◌∙◌, subst, subst⁻¹}
use mathlib.Core.Bool.{cond}
use mathlib.Core.List.{List, ◌∷◌}
use Prim.Native.Nat.{ℕ, suc, ◌+◌, ◌-◌, ◌*◌, ◌/◌, ◌≤◌, ◌<◌, min, zero-le}
use native.Mathlib.Omega.{arith}
use native.Mathlib.Nat.{add-zero, le_trans, le_of_eq, mul-suc, mul-le-mul_left}
use native.Mathlib.Numerals.{add-one}
use lib.IntN.{ℤ, pos}
use mir.Syntax.{w32}
use mir.Val.{of_z, to_z}
use lib.Dec.{T, leb}
use lib.ListN.{length, get_or, drop, set, length-take}
use lib.Seq.{get_or-take}
use lib.Ieee.{Float}
use lib.Ieee.Scale.{finite}
use Rattle.block.specs.Block.{Block, covered, input_remaining, candidates_at}
use Rattle.block.specs.Band.{position_at, past_window, tail_of}
use Rattle.block.specs.Checks.{choice_bytes}
use Rattle.half_bytes.specs.Packed.{unpacked}
use Rattle.candidates.specs.Candidates.{in_array}
use Rattle.least_cost.specs.Position.{Position, nz}
use Rattle.least_cost.specs.Search.{best, pick, walk}
use Rattle.least_cost.proofs.Best.{AllPriced}
use Rattle.least_cost.proofs.Trial.{nz-le}
use Rattle.search_checks.specs.Checked.{positions}
use Rattle.search_checks.proofs.Checked.{inner, first_bit, first_is, positions-cons, remaining-step, remaining-few, level-current}
use Rattle.search_checks.proofs.Writing.{WrittenTo, from-here, none_written, offer-level, offer-listed, more-written}
use Rattle.steps.proofs.Zero.{handed-back, level-back}
use Rattle.steps.specs.Plan.{Planned, Lists, Offered, Usable, listed}
use Rattle.steps.specs.declared.plan.Plan.{Plan}
use Rattle.steps.specs.declared.reading.Offer.{Offer}
use Rattle.trellis_table.specs.Rows.{least_count, Rowable}
use Rattle.trellis.specs.Walk.{Walkable, walked}
use Rattle.trellis_table.specs.declared.position.Counts.{Counts}
use Rattle.trellis_table.proofs.Picks.{pick-among, pick-cheap}
use Rattle.trellis_table.proofs.Steps.{priced-cons, within-counts, narrow, past-few}

pub here-room : (n i len long : ℕ) → i < len → n * len ≤ long → n * i + n ≤ long
here-room n i len long h k = le_trans (le_of_eq (sym (mul-suc n i))) (le_trans (mul-le-mul_left n h) k)

low-few : (hw a b : ℕ) → a ≤ 65536 → b ≤ 65536 → least_count hw a b ≤ 65536
unfolding least_count
low-few hw a b h k = omega arith

-- the walk has written the levels of the positions before i, and stands at a state of finite cost
pub record WalkedTo {hw : ℕ} {scan : List ℕ} {source inverse : List Float} {levels₀ : List ℤ} {plan : Plan} {past nonzeros : ℕ} {choices : List ℕ} {count : ℕ}
    (w : Walkable hw scan source inverse levels₀ plan past nonzeros choices count) (i : ℕ) (levels : List ℤ) (left prev after : ℕ) : Type 0 where
  pub prefix : WrittenTo w.searched (walked hw plan.window w.book w.searched.block count) i levels
  pub rest : drop i (walked hw plan.window w.book w.searched.block count) ≡ walk (tail_of plan.window w.book w.searched.block) (positions hw plan.window w.book w.searched.block i) left prev
  pub cheap : T (finite (best (tail_of plan.window w.book w.searched.block) (positions hw plan.window w.book w.searched.block i) left prev))
  pub bit : prev ≤ 1
  pub after_is : after ≡ input_remaining w.searched.block (covered w.searched.block + i)

module _ {hw : ℕ} {scan : List ℕ} {source inverse : List Float} {levels₀ : List ℤ} {plan : Plan} {past nonzeros : ℕ} {choices : List ℕ} {count : ℕ}
    (w : Walkable hw scan source inverse levels₀ plan past nonzeros choices count) where
  rowable : Rowable hw w.book w.searched.block plan
  rowable = record { checked = w.searched.checked; narrow = w.narrow }

  pub walk-starts : {prev : ℕ} → prev ≡ cond (leb count (64 * plan.covered / 16)) 1 0 → WalkedTo w 0 levels₀ count prev nonzeros
  walk-starts {prev} e₀ =
      let e = first_is w.searched.checked count e₀ in
      record {
        prefix = none_written w.searched _;
        rest = rw e;
        cheap = rw e w.cheap;
        bit = rw e (first_bit w.searched.block count);
        after_is = w.nonzeros_are ∙ ap (input_remaining w.searched.block) (sym (add-zero (covered w.searched.block)));
      }

  module _ {i : ℕ} {levels : List ℤ} {left prev after : ℕ} (W : WalkedTo w i levels left prev after) (h : i < plan.window.length) where
    finite-here : T (finite (best (tail_of plan.window w.book w.searched.block) (position_at hw plan.window w.book w.searched.block i ∷ positions hw plan.window w.book w.searched.block (suc i)) left prev))
    finite-here = subst (λ (l : List Position). T (finite (best (tail_of plan.window w.book w.searched.block) l left prev))) (positions-cons w.searched.checked hw i h) W.cheap

    here-picked : ℤ
    here-picked = pick (tail_of plan.window w.book w.searched.block) (position_at hw plan.window w.book w.searched.block i) (positions hw plan.window w.book w.searched.block (suc i)) left prev

    module _ {offer : Offer} {array : List ℤ} (S : (b' : Block) → Lists b' scan source inverse levels → Planned b' plan → Offered plan.window b' i offer array) where
      -- ---- the nonzero input levels that follow
      counted : input_remaining w.searched.block (covered w.searched.block + i) ≡ nz offer.level + input_remaining w.searched.block (covered w.searched.block + suc i)
      counted =
          let there = remaining-step w.searched.checked (covered w.searched.block + i) (inner (covered w.searched.block) plan.window.length i h w.searched.checked.passed.window.fits) in
          let same : suc (covered w.searched.block + i) ≡ covered w.searched.block + suc i = omega arith in
          let level = ap nz (offer-level w.searched _ W.prefix h S) in
          omega (arith, rw same at there)

      pub after-some : nz offer.level ≤ after
      after-some = omega (arith, counted, W.after_is)

      pub after-now : {after' : ℕ} → after' ≡ after - nz offer.level → after' ≡ input_remaining w.searched.block (covered w.searched.block + suc i)
      after-now e = omega (arith, counted, W.after_is)

    -- ---- where the choice stands
    module _ {after' low : ℕ} (A : after' ≡ input_remaining w.searched.block (covered w.searched.block + suc i)) (l : low ≡ least_count hw past after') where
      low-is : low ≡ least_count hw (past_window plan.window w.searched.block) (input_remaining w.searched.block (covered w.searched.block + suc i))
      low-is = l ∙ ap₂ (least_count hw) w.past_is A

      counts : Counts
      counts = record { least = low; most = min (input_remaining w.searched.block (covered w.searched.block + suc i) + hw) (past_window plan.window w.searched.block + (plan.window.length - 1 - i)) + 1 }

      pub state-in-row : (low ≤ left) × (left ≤ low + (2 * hw + 1))
      unfolding counts
      state-in-row =
          let inside = within-counts rowable i h counts low-is refl left prev W.bit finite-here in
          let few = narrow rowable i h counts low-is refl in
          (inside.0, omega (arith, inside.1))

      pub named-below : get_or (unpacked choices) (2 * (choice_bytes hw * i) + (2 * (left - low) + prev)) 0 < length (candidates_at plan.window w.searched.block i)
      unfolding position_at
      named-below = rw low-is ((w.chosen.each i zero-le h).stands.below left prev W.bit finite-here)

      pub named : get_or (candidates_at plan.window w.searched.block i) (get_or (unpacked choices) (2 * (choice_bytes hw * i) + (2 * (left - low) + prev)) 0) (pos 0)
          ≡ pick (tail_of plan.window w.book w.searched.block) (position_at hw plan.window w.book w.searched.block i) (positions hw plan.window w.book w.searched.block (suc i)) left prev
      unfolding position_at
      named = rw low-is ((w.chosen.each i zero-le h).stands.picks left prev W.bit finite-here)

    -- ---- what is written
    module _ {q : ℤ} (e : q ≡ pick (tail_of plan.window w.book w.searched.block) (position_at hw plan.window w.book w.searched.block i) (positions hw plan.window w.book w.searched.block (suc i)) left prev) where
      priced-here : AllPriced (tail_of plan.window w.book w.searched.block) (position_at hw plan.window w.book w.searched.block i ∷ positions hw plan.window w.book w.searched.block (suc i))
      priced-here = priced-cons rowable i h

      pub level-among : nz q ≤ left
      level-among = rw e (pick-among _ _ _ priced-here left prev W.bit finite-here)

      next-levels : (get_or (walked hw plan.window w.book w.searched.block count) i (pos 0) ≡ q) × (drop (suc i) (walked hw plan.window w.book w.searched.block count) ≡ walk (tail_of plan.window w.book w.searched.block) (positions hw plan.window w.book w.searched.block (suc i)) (left - nz q) (nz q))
      unfolding walk
      next-levels = rw e (from-here (walked hw plan.window w.book w.searched.block count) i (W.rest ∙ ap (λ (l : List Position). walk (tail_of plan.window w.book w.searched.block) l left prev) (positions-cons w.searched.checked hw i h)))

    -- ---- one turn of the loop
    module _ {offer : Offer} {array : List ℤ} (S : (b' : Block) → Lists b' scan source inverse levels → Planned b' plan → Offered plan.window b' i offer array) (U : Usable (in_array offer.count array))
        {n low idx : ℕ} (N : n ≡ nz (to_z w32 (of_z w32 offer.level))) (l : low ≡ least_count hw past (after - n)) (x : get_or (unpacked choices) (2 * (choice_bytes hw * i) + (2 * (left - low) + prev)) 0 ≤ 14 → idx ≡ get_or (unpacked choices) (2 * (choice_bytes hw * i) + (2 * (left - low) + prev)) 0) where
      read-level : n ≡ nz offer.level
      read-level = N ∙ ap nz (handed-back _ _ (offer-level w.searched _ W.prefix h S) (level-current w.searched.checked i h) ∙ sym (offer-level w.searched _ W.prefix h S))

      follow : after - n ≡ input_remaining w.searched.block (covered w.searched.block + suc i)
      follow = after-now S (ap (λ (m : ℕ). after - m) read-level)

      -- the half byte read is no "none"
      index_is : idx ≡ get_or (unpacked choices) (2 * (choice_bytes hw * i) + (2 * (left - low) + prev)) 0
      index_is =
          let k : get_or (unpacked choices) (2 * (choice_bytes hw * i) + (2 * (left - low) + prev)) 0 < length (listed (in_array offer.count array)) = rw (offer-listed w.searched _ W.prefix h S) (named-below follow l) in
          x (omega (arith, k, length-take offer.count array, U.few))

      pub index_below : idx < offer.count
      index_below =
          let k : get_or (unpacked choices) (2 * (choice_bytes hw * i) + (2 * (left - low) + prev)) 0 < length (listed (in_array offer.count array)) = rw (offer-listed w.searched _ W.prefix h S) (named-below follow l) in
          omega (arith, index_is, length-take offer.count array)

      pub level-named : get_or array idx (pos 0) ≡ pick (tail_of plan.window w.book w.searched.block) (position_at hw plan.window w.book w.searched.block i) (positions hw plan.window w.book w.searched.block (suc i)) left prev
      level-named =
          sym (get_or-take offer.count array idx (pos 0) index_below)
          ∙ ap₂ (λ (c : List ℤ) (m : ℕ). get_or c m (pos 0)) (offer-listed w.searched _ W.prefix h S) index_is
          ∙ named follow l

      level-handed : to_z w32 (of_z w32 (get_or array idx (pos 0))) ≡ get_or array idx (pos 0)
      level-handed = level-back _ (U.levels idx index_below)

      pub level-left : {m : ℕ} → m ≡ nz (to_z w32 (of_z w32 (get_or array idx (pos 0)))) → m ≤ left
      level-left e = rw e (level-among (level-handed ∙ level-named))

      pub walked_on : {m : ℕ} {levels' : List ℤ} {k : ℕ} → m ≡ nz (to_z w32 (of_z w32 (get_or array idx (pos 0)))) → k ≡ plan.covered + i
          → levels' ≡ set levels (get_or scan k 0) (to_z w32 (of_z w32 (get_or array idx (pos 0)))) → WalkedTo w (i + 1) levels' (left - m) m (after - n)
      walked_on {m} {levels'} {k} e f g =
          let q = to_z w32 (of_z w32 (get_or array idx (pos 0))) in
          let is-picked = level-handed ∙ level-named in
          let next = next-levels is-picked in
          subst⁻¹ (λ (z : ℕ). WalkedTo w (i + 1) levels' (left - z) z (after - n)) e
          (record {
            prefix = more-written w.searched _ W.prefix h next.0 f g;
            rest = rw add-one next.1;
            cheap = rw (add-one, is-picked) (pick-cheap _ _ _ (priced-cons rowable i h) left prev W.bit finite-here);
            bit = nz-le q;
            after_is = rw add-one follow;
          })

    pub input-some : {offer : Offer} {array : List ℤ} → ((b' : Block) → Lists b' scan source inverse levels → Planned b' plan → Offered plan.window b' i offer array) → {n : ℕ} → n ≡ nz (to_z w32 (of_z w32 offer.level)) → n ≤ after
    input-some S N = rw (N ∙ ap nz (handed-back _ _ (offer-level w.searched _ W.prefix h S) (level-current w.searched.checked i h) ∙ sym (offer-level w.searched _ W.prefix h S))) (after-some S)

    pub state-here : {offer : Offer} {array : List ℤ} → ((b' : Block) → Lists b' scan source inverse levels → Planned b' plan → Offered plan.window b' i offer array) → {n low : ℕ} → n ≡ nz (to_z w32 (of_z w32 offer.level))
        → low ≡ least_count hw past (after - n) → (low ≤ left) × (left ≤ low + (2 * hw + 1))
    state-here S N l = state-in-row (after-now S (ap (λ (m : ℕ). after - m) (N ∙ ap nz (handed-back _ _ (offer-level w.searched _ W.prefix h S) (level-current w.searched.checked i h) ∙ sym (offer-level w.searched _ W.prefix h S))))) l

    pub left-few : left ≤ 131072
    left-few =
        let inside = state-in-row refl refl in
        let few = remaining-few w.searched.checked (covered w.searched.block + suc i) in
        let past-small : past ≤ 65536 = rw w.past_is (past-few rowable) in
        omega (arith, w.narrow, inside.1, low-few hw past (input_remaining w.searched.block (covered w.searched.block + suc i)) past-small few)
