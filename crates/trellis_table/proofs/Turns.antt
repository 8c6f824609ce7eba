-- The rows that take turns: what holds before the first position is taken, and after each. Assumes nothing.
use mathlib.Core.Path.{◌≡◌, refl, sym, ap, ◌∙◌, subst, subst⁻¹}
use mathlib.Core.Bool.{Bool, true, false, cond}
use mathlib.Core.List.{List, []}
use Prim.Native.Nat.{ℕ, zero, suc, ◌+◌, ◌-◌, ◌*◌, ◌≤◌, ◌<◌}
use native.Mathlib.Omega.{arith}
use native.Mathlib.Nat.{le_trans, le_of_eq, mul-suc, mul-le-mul_left, not-suc-le-zero, le_of_suc-le-suc}
use lib.IntN.{ℤ, pos}
use lib.Dec.{T, eqb}
use lib.ListN.{length, get_or}
use lib.Ieee.{Float, nan, inf}
use lib.Ieee.Scale.{finite}
use borrow.Author.Tests.{eq-eqb, eqb-true, eqb-false}
use Rattle.block.specs.Block.{Block, covered, input_remaining}
use Rattle.block.specs.Band.{position_at, positions_from, tail_of, past_window}
use Rattle.block.specs.Checks.{choice_bytes, states}
use Rattle.half_bytes.specs.Packed.{unpacked}
use Rattle.least_cost.specs.Position.{Position, Tail}
use Rattle.least_cost.specs.Search.{best}
use Rattle.prices.specs.Book.{Book}
use Rattle.trellis_row.specs.Row.{Elsewhere}
use Rattle.trellis_row.specs.Table.{RowFor}
use Rattle.search_checks.specs.Checked.{positions}
use Rattle.steps.specs.declared.plan.Plan.{Plan}
use Rattle.weights.specs.declared.Window.{Window}
use Rattle.trellis_table.specs.Rows.{RowAt, ChosenAt, ChosenFrom, Stepped, Rowed, TailRow, TailFor, NextFor, live_of}
use Rattle.trellis_table.specs.declared.exchange.Live.{Live}
use Rattle.trellis_table.specs.declared.exchange.Live.TheVariants.{First, Second}
use Rattle.trellis_table.specs.declared.position.Counts.{Counts}
use Rattle.trellis_table.specs.declared.position.Step.{Step}

end-positions : (hw : ℕ) (v : Window) (book : Book) (b : Block) → positions hw v book b v.length ≡ []
unfolding positions_from
end-positions hw v book b =
    let none : v.length - v.length ≡ 0 = omega arith in
    rw none

end-best : (t : Tail) (r p : ℕ) → r ≡ t.count → best t [] r p ≡ t.cost p
unfolding best
end-best t r p e = rw (eq-eqb r t.count e)

end-inside : (t : Tail) (r p : ℕ) → T (finite (best t [] r p)) → r ≡ t.count
unfolding best finite
end-inside t r p f = go (eqb r t.count) refl f
  where
    go : (b : Bool) → eqb r t.count ≡ b → T (finite (cond b (t.cost p) (inf false))) → r ≡ t.count
    go true e g = eqb-true r t.count e
    go false e g = absurd g

tail-pair : {v : Window} {book : Book} {b : Block} {row : List Float} → TailRow v book b row → (p : ℕ) → p ≤ 1 → get_or row p nan ≡ (tail_of v book b).cost p
tail-pair w zero h = w.zero
tail-pair w (suc zero) h = w.one
tail-pair w (suc (suc p)) h = absurd (not-suc-le-zero (le_of_suc-le-suc h))

pub rowed-start : (hw : ℕ) (v : Window) (book : Book) (b : Block) (past : ℕ) (first second : List Float) (choices : List ℕ) → past ≡ past_window v b → TailRow v book b first
    → Rowed hw v book b v.length first second choices (record { counts = record { least = past; most = past }; after = past }) First
unfolding tail_of past_window live_of
rowed-start hw v book b past first second choices e w =
    record {
      live =
          record {
            stands = subst⁻¹ (λ (l : List Position). RowFor (tail_of v book b) l first past past) (end-positions hw v book b)
                (record {
                  values = λ r p l h P. value r p l h P;
                  inside = λ r p P f. let same = end-inside (tail_of v book b) r p f ∙ sym e in (omega arith, omega arith);
                });
            narrow = omega arith;
            holds = le_of_eq (sym e);
            reach = omega (arith, e);
          };
      chosen = record { each = λ j l h. absurd (omega arith) };
      after_is = e;
      counts_are = λ h. absurd (omega arith);
    }
  where
    value : (r p : ℕ) → past ≤ r → r ≤ past → p ≤ 1 → get_or first (2 * (r - past) + p) nan ≡ best (tail_of v book b) [] r p
    value r p l h P =
        let here : 2 * (r - past) + p ≡ p = omega arith in
        let same : r ≡ past = omega arith in
        ap (λ (k : ℕ). get_or first k nan) here ∙ tail-pair w p P ∙ sym (end-best (tail_of v book b) r p (same ∙ e))

before-next : (s i j : ℕ) → i < j → s * i + s ≤ s * j
before-next s i j h = le_trans (le_of_eq (sym (mul-suc s i))) (mul-le-mul_left s h)

chosen-kept : {hw : ℕ} {v : Window} {book : Book} {b : Block} {i j : ℕ} {choices choices' : List ℕ} → i < j → Elsewhere (2 * (choice_bytes hw * i)) (states hw) (unpacked choices) (unpacked choices') → ChosenAt hw v book b j choices → ChosenAt hw v book b j choices'
chosen-kept {hw} {v} {book} {b} {i} {j} {choices} {choices'} h E w =
    record {
      last = w.last;
      inside = w.inside;
      stands = record {
        picks = λ r p P f. ap (λ (k : ℕ). get_or (position_at hw v book b j).candidates k (pos 0)) (same (2 * (r - _) + p)) ∙ w.stands.picks r p P f;
        below = λ r p P f. subst⁻¹ (λ (k : ℕ). k < length (position_at hw v book b j).candidates) (same (2 * (r - _) + p)) (w.stands.below r p P f);
      };
      none = λ r p P l m f. same (2 * (r - _) + p) ∙ w.none r p P l m f;
    }
  where
    same : (n : ℕ) → get_or (unpacked choices') (2 * (choice_bytes hw * j) + n) 0 ≡ get_or (unpacked choices) (2 * (choice_bytes hw * j) + n) 0
    same n = E.behind (2 * (choice_bytes hw * j) + n) (omega (arith, before-next (choice_bytes hw) i j h))

pub chosen_more : {hw : ℕ} {v : Window} {book : Book} {b : Block} {i : ℕ} {choices choices' : List ℕ} → Elsewhere (2 * (choice_bytes hw * i)) (states hw) (unpacked choices) (unpacked choices') → ChosenAt hw v book b i choices' → ChosenFrom hw v book b (suc i) choices → ChosenFrom hw v book b i choices'
chosen_more {hw} {v} {book} {b} {i} {choices} {choices'} E here w = record { each = λ j l h. go j l h (eqb i j) refl }
  where
    go : (j : ℕ) → i ≤ j → j < v.length → (t : Bool) → eqb i j ≡ t → ChosenAt hw v book b j choices'
    go j l h true e = subst (λ (k : ℕ). ChosenAt hw v book b k choices') (eqb-true i j e) here
    go j l h false e =
        let other = eqb-false i j e in
        let later : i < j = omega (arith, other) in
        chosen-kept later E (w.each j later h)

-- ---- what the next position is handed
abbrev pub from_tail : {book : Book} {scan : List ℕ} {source inverse : List Float} {levels : List ℤ} {p : Plan} {past i after : ℕ} {first next : List Float} {c : Counts} {w : ℕ}
    → (t : TailFor book scan source inverse levels p past first) → after ≡ input_remaining t.searched.block (covered t.searched.block + suc i) → RowAt w p.window book t.searched.block (suc i) next c
    → NextFor w book scan source inverse levels p past i after next c
from_tail t a r = record { searched = t.searched; past_is = t.past_is; after_is = a; row_is = r }

-- ---- one position, from the row that is live to the other
again : (i : ℕ) → 0 < i → suc (i - 1) ≡ i
again i h = omega arith

module _ {hw : ℕ} {v : Window} {book : Book} {b : Block} {i : ℕ} {first second : List Float} {choices : List ℕ} {s : Step} {which : Live} (h : 0 < i) (w : Rowed hw v book b i first second choices s which) where
  pub from_first : which ≡ First → RowAt hw v book b (suc (i - 1)) first s.counts
  unfolding live_of
  from_first e =
      subst⁻¹ (λ (k : ℕ). RowAt hw v book b k first s.counts) (again i h)
      (subst (λ (t : Live). RowAt hw v book b i (live_of t first second) s.counts) e w.live)

  pub from_second : which ≡ Second → RowAt hw v book b (suc (i - 1)) second s.counts
  unfolding live_of
  from_second e =
      subst⁻¹ (λ (k : ℕ). RowAt hw v book b k second s.counts) (again i h)
      (subst (λ (t : Live). RowAt hw v book b i (live_of t first second) s.counts) e w.live)

  pub after-back : s.after ≡ input_remaining b (covered b + suc (i - 1))
  after-back = w.after_is ∙ ap (λ (k : ℕ). input_remaining b (covered b + k)) (sym (again i h))

  chosen-back : ChosenFrom hw v book b (suc (i - 1)) choices
  chosen-back = subst⁻¹ (λ (k : ℕ). ChosenFrom hw v book b k choices) (again i h) w.chosen

  pub to-second : {row row' : List Float} {choices' : List ℕ} {s' : Step} → Stepped hw v book b (i - 1) row row' choices choices' s' → Rowed hw v book b (i - 1) first row' choices' s' Second
  unfolding live_of
  to-second x = record { live = x.row_is; chosen = chosen_more x.elsewhere x.chosen chosen-back; after_is = x.after_is; counts_are = λ _. x.counts_are }

  pub to-first : {row row' : List Float} {choices' : List ℕ} {s' : Step} → Stepped hw v book b (i - 1) row row' choices choices' s' → Rowed hw v book b (i - 1) row' second choices' s' First
  unfolding live_of
  to-first x = record { live = x.row_is; chosen = chosen_more x.elsewhere x.chosen chosen-back; after_is = x.after_is; counts_are = λ _. x.counts_are }
