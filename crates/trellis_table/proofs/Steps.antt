-- One position: from the row after it to its own. Assumes nothing.
use mathlib.Core.Path.{◌≡◌, refl, sym, ap, ◌∙◌, subst, subst⁻¹}
use mathlib.Core.Bool.{Bool, true, false, cond}
use mathlib.Core.List.Memᴰ.{eq_of_singleton as only}
use mathlib.Core.List.{List, [], ◌∷◌, Memᴰ as Mem}
use Prim.Native.Nat.{ℕ, zero, suc, ◌+◌, ◌-◌, ◌*◌, ◌≤◌, ◌<◌, max, min}
use native.Mathlib.Omega.{arith}
use native.Mathlib.Nat.{le_of_eq, mul-suc, mul-le-mul, mul-le-mul_left, le_trans, le_refl, max-le, le-min, min-le_left, min-le_right}
use lib.IntN.{ℤ, pos, negsuc}
use lib.Dec.{T, eqb, ltb}
use borrow.Author.Tests.{eqb-false}
use lib.ListN.{length, get_or}
use lib.Ieee.{Float, nan, binary32}
use lib.Ieee.Scale.{finite}
use Rattle.block.specs.Block.{Block, covered, input_at, input_remaining, ideal, candidates_at}
use Rattle.block.specs.Band.{position_at, positions_from, tail_of, past_window, input_after}
use Rattle.block.specs.Checks.{choice_bytes, states}
use Rattle.half_bytes.specs.Packed.{unpacked}
use Rattle.half_bytes.proofs.Laws.{unpacked-length}
use Rattle.block.specs.Cost.{local_cost}
use Rattle.candidates.specs.Candidates.{in_array, candidates_of, kept_of, restored_of}
use Rattle.block_checks.specs.Passed.{Passed}
use Rattle.costs.specs.Cost.{cost}
use Rattle.costs.proofs.Bound.{capped-cost}
use Rattle.least_cost.specs.Position.{Position, nz}
use Rattle.least_cost.specs.Search.{best, pick}
use Rattle.least_cost.proofs.Best.{AllPriced, best-costs}
use Rattle.least_cost.proofs.Trial.{nz-le}
use Rattle.least_cost.proofs.Range.{best-reach, best-near}
use Rattle.prices.specs.Book.{Book}
use Rattle.problem.proofs.Local.{candidates-level, local-capped}
use Rattle.problem.proofs.Problem.{all-priced, past-most, positions-length}
use Rattle.problem.specs.Tokens.{past_length}
use Rattle.steps.specs.Place.{place_of, local_at}
use Rattle.steps.specs.Plan.{Offered, Usable, listed}
use Rattle.steps.specs.declared.Place.{Place}
use Rattle.steps.specs.declared.plan.Plan.{Plan}
use Rattle.steps.specs.declared.reading.Offer.{Offer}
use Rattle.steps.proofs.Local.{local-is}
use Rattle.steps.proofs.Listed.{pickable-of}
use Rattle.trellis_row.specs.Row.{nonzero_tail, RowIs, Elsewhere, Workable}
use Rattle.trellis_row.specs.Table.{RowFor, ChoicesFor}
use Rattle.trellis_row.specs.declared.row.Span.{Span}
use Rattle.trellis_row.proofs.Rows.{nonzero-tail-cost}
use Rattle.trellis_row.proofs.Table.{Common, row-for, choices-for, choices-none}
use Rattle.search_checks.specs.Checked.{positions, Searched}
use Rattle.search_checks.proofs.Checked.{inner, remaining-few, remaining-step, positions-cons}
use Rattle.trellis_table.specs.Rows.{least_count, rise_at, Rowable, RowAt, Stepped}
use Rattle.trellis_table.proofs.Picks.{member, pick-among, pick-cheap, pick-within}
use Rattle.weights.specs.declared.Window.{Window}
use Rattle.trellis_table.specs.declared.position.Counts.{Counts}

-- ---- on counts alone
pub sum_is : {a a' n n' : ℕ} → a ≡ a' → n ≡ n' → a + n ≡ a' + n'
sum_is p q = cc

pub lowest-is : (hw : ℕ) {l past past' after after' : ℕ} → l ≡ least_count hw past after → past ≡ past' → after ≡ after' → l ≡ least_count hw past' after'
lowest-is hw e p q = cc

-- a row's last count: of the first position, and of any other
abbrev pub last_of : (hw i past after left upto rise : ℕ) → ℕ
last_of hw i past after left upto rise = cond (eqb i 0) (min (after + hw) (past + left) + 1) (upto + rise)

pub last-is : (hw i left upto : ℕ) {m past past' after after' rise rise' : ℕ} → m ≡ last_of hw i past after left upto rise → past ≡ past' → after ≡ after' → rise ≡ rise' → m ≡ last_of hw i past' after' left upto rise'
last-is hw i left upto e p q r = cc

-- what may rise does
pub rise-few : (restoring i : ℕ) (q : ℤ) → rise_at restoring i q ≤ 1
unfolding rise_at
rise-few restoring i q = go (ltb i restoring)
  where
    go : (t : Bool) → cond t 1 (nz q) ≤ 1
    go true = le_refl 1
    go false = nz-le q

rise-level : (restoring i : ℕ) (q : ℤ) → nz q ≤ rise_at restoring i q
unfolding rise_at
rise-level restoring i q = go (ltb i restoring)
  where
    go : (t : Bool) → nz q ≤ cond t 1 (nz q)
    go true = nz-le q
    go false = le_refl (nz q)

-- where a level stays or comes nearer to 0, a 0 stays
kept-none : kept_of (pos 0) ≡ pos 0 ∷ []
unfolding kept_of
kept-none = refl

kept-zero : (q z : ℤ) → Mem z (kept_of q) → nz z ≤ nz q
unfolding nz
kept-zero (pos zero) z m = le_of_eq (ap nz (only (subst (Mem z) kept-none m)))
kept-zero (pos (suc n)) z m = nz-le z
kept-zero (negsuc n) z m = nz-le z

rises : (v : Window) (b : Block) (i : ℕ) (z : ℤ) → Mem z (candidates_at v b i) → nz z ≤ rise_at v.restoring i (input_at b (covered b + i))
unfolding candidates_at candidates_of rise_at
rises v b i z = go (ltb i v.restoring)
  where
    go : (t : Bool) → Mem z (cond t (restored_of (ideal b i) (input_at b (covered b + i))) (kept_of (input_at b (covered b + i)))) → nz z ≤ cond t 1 (nz (input_at b (covered b + i)))
    go true m = nz-le z
    go false m = kept-zero (input_at b (covered b + i)) z m

pub from_is : (hw l : ℕ) {f after after' : ℕ} → f ≡ max (after - hw) l → after ≡ after' → f ≡ max (after' - hw) l
from_is hw l e q = cc

pub upto_is : (hw m : ℕ) {u after after' : ℕ} → u ≡ min (after + hw) m → after ≡ after' → u ≡ min (after' + hw) m
upto_is hw m e q = cc

pub room_of : (hw : ℕ) (l m long : ℕ) → m ≤ l + (2 * hw + 1) → states hw ≤ long → 2 * (m - l) + 1 < long
room_of hw l m long h k = omega arith

pub space-of : (hw : ℕ) (l m i : ℕ) (choices : List ℕ) → m ≤ l + (2 * hw + 1) → choice_bytes hw * i + choice_bytes hw ≤ length choices → 2 * (choice_bytes hw * i) + 2 * (m - l) + 1 < length (unpacked choices)
space-of hw l m i choices h k = omega (arith, h, k, unpacked-length choices)

pub small_at : (hw i n : ℕ) → hw ≤ 12 → i < n → n ≤ 1024 → choice_bytes hw * i < 18446744073709551616
small_at hw i n h k l =
    let wide : choice_bytes hw ≤ 26 = omega arith in
    let far : i ≤ 1024 = omega arith in
    let most : choice_bytes hw * i ≤ 26 * 1024 = mul-le-mul wide far in
    omega arith

pub last-room : (hw i n long : ℕ) → 0 < i → i ≤ n → choice_bytes hw * n ≤ long → choice_bytes hw * (i - 1) + choice_bytes hw ≤ long
last-room hw i n long p h k =
    let one : suc (i - 1) ≡ i = omega arith in
    le_trans (le_of_eq (sym (mul-suc (choice_bytes hw) (i - 1)))) (le_trans (mul-le-mul_left (choice_bytes hw) (rw one h)) k)

row-width : (hw : ℕ) (l m : ℕ) → m ≤ l + (2 * hw + 1) → 2 * (m + 1 - l) ≤ states hw
row-width hw l m h = omega arith

wider : {at n m : ℕ} {a b : List ℕ} → Elsewhere at n a b → n ≤ m → Elsewhere at m a b
wider e h = record { size = e.size; ahead = e.ahead; behind = λ j k. e.behind j (omega arith) }

ends : (c w i : ℕ) → i < w → c + suc i + (w - 1 - i) ≡ c + w
ends c w i h = omega arith

next_fits : (w i : ℕ) → i < w → suc i + (w - suc i) ≤ w
next_fits w i h = omega arith

row_room : (hw : ℕ) (upto base least most long : ℕ) → base ≡ least → upto ≤ most → most ≤ least + (2 * hw + 1) → states hw ≤ long → 2 * (upto - base) + 1 < long
row_room hw upto base least most long e f g h = omega arith

pub room-left : (m a past w i c : ℕ) → m ≡ min a (past + (w - 1 - i)) + 1 → i < w → past ≤ 64 * c - (c + w) → c + w ≤ 64 * c → m + (c + i) ≤ 64 * c
room-left m a past w i c e h l f =
    let most : min a (past + (w - 1 - i)) ≤ past + (w - 1 - i) = min-le_right a (past + (w - 1 - i)) in
    omega arith

pub least-most : (hw : ℕ) (l m past after left : ℕ) → l ≡ max past (after - hw) → m ≡ min (after + hw) (past + left) + 1 → past ≤ after → after ≤ past + left → l ≤ m
least-most hw l m past after left e f p q = omega arith

low_part : (hw : ℕ) (past after r : ℕ) → past ≤ r → after - hw ≤ r → max past (after - hw) ≤ r
low_part hw past after r l m = max-le l m

at_most : (a b r : ℕ) → r ≤ a + 1 → r ≤ b + 1 → r ≤ min a b + 1
at_most a b r l m = omega arith

high_part : (hw : ℕ) (past after r w i : ℕ) → i < w → r ≤ past + suc (w - suc i) → r ≤ suc (after + hw) → r ≤ min (after + hw) (past + (w - 1 - i)) + 1
high_part hw past after r w i h l m =
    let one : suc (w - suc i) ≡ w - 1 - i + 1 = omega arith in
    let first : r ≤ past + (w - 1 - i) + 1 = omega arith in
    at_most (after + hw) (past + (w - 1 - i)) r (omega arith) first

-- the last count of the first position's row, past + left being l, and of any other, u being what may be read of the next
near_first : (a hw l : ℕ) → min (a + hw) l + 1 ≤ a + hw + 1
near_first a hw l = omega (arith, min-le_left (a + hw) l)

far-first : (x past w i : ℕ) → i < w → min x (past + (w - 1 - i)) + 1 ≤ past + (w - i)
far-first x past w i h = omega (arith, min-le_right x (past + (w - 1 - i)))

held_first : (a hw l n : ℕ) → a ≤ l → n ≤ 1 → a + n ≤ min (a + hw) l + 1
held_first a hw l n h k = omega arith

near-other : (u a hw r : ℕ) → u ≤ a + hw → r ≤ 1 → u + r ≤ a + hw + 1
near-other u a hw r h k = omega arith

far-other : (u m past w i r : ℕ) → u ≤ m → m ≤ past + (w - suc i) → r ≤ 1 → i < w → u + r ≤ past + (w - i)
far-other u m past w i r h k l j = omega arith

held-other : (u a n r : ℕ) → a ≤ u → n ≤ r → a + n ≤ u + r
held-other u a n r h k = omega arith

below-held : (a n m : ℕ) → a + n ≤ m → a ≤ m
below-held a n m h = omega arith

fits_in : (m past w i c : ℕ) → m ≤ past + (w - i) → i < w → past ≤ 64 * c - (c + w) → c + w ≤ 64 * c → m + (c + i) ≤ 64 * c
fits_in m past w i c h k l j = omega arith

narrow-in : (hw m past a : ℕ) → m ≤ a + hw + 1 → m ≤ max past (a - hw) + (2 * hw + 1)
narrow-in hw m past a h = omega arith

some_in : (hw m past a : ℕ) → past ≤ a → a ≤ m → max past (a - hw) ≤ m
some_in hw m past a h k = omega arith

read-in : (hw a m : ℕ) → a ≤ m → a ≤ min (a + hw) m
read-in hw a m h = omega arith

pub rowable-of : {hw : ℕ} {book : Book} {scan : List ℕ} {source inverse : List Float} {levels : List ℤ} {p : Plan} (s : Searched book scan source inverse levels p) → hw ≤ 12 → Rowable hw book s.block p
rowable-of s h = record { checked = s.checked; narrow = h }

module _ {hw : ℕ} {book : Book} {b : Block} {p : Plan} (K : Rowable hw book b p) where
  P : Passed p.window b
  P = K.checked.passed

  pub past-few : past_window p.window b ≤ 65536
  unfolding past_window
  past-few = remaining-few K.checked (covered b + p.window.length)

  priced : (i n : ℕ) → i + n ≤ p.window.length → AllPriced (tail_of p.window book b) (positions_from hw p.window book b i n)
  priced i n h = all-priced book K.checked.book_passed p.window b P hw n i h

  local-cost : (i r q' : ℕ) (q : ℤ) → i < p.window.length → Mem q (candidates_at p.window b i) → T (cost (local_cost book b i r q' q))
  local-cost i r q' q h m =
      capped-cost binary32 1 194 _ (local-capped book K.checked.book_passed p.window b P i h q (candidates-level book K.checked.book_passed p.window b P i h q m) r q')

  pub after_same : (i : ℕ) → input_after b i ≡ input_remaining b (covered b + suc i)
  unfolding input_after
  after_same i =
      let same : covered b + i + 1 ≡ covered b + suc i = omega arith in
      ap (input_remaining b) same

  -- ---- counting back from the window's end
  between : (e d k : ℕ) → k + d ≡ e → e ≤ 64 * covered b → (input_remaining b e ≤ input_remaining b k) × (input_remaining b k ≤ input_remaining b e + d)
  between e zero k s f =
      let same : k ≡ e = omega arith in
      rw same (le_refl (input_remaining b e), omega arith)
  between e (suc d) k s f =
      let later = between e d (suc k) (omega arith) f in
      let here = remaining-step K.checked k (omega arith) in
      (omega (arith, later.0), omega (arith, later.1, nz-le (input_at b k)))

  pub past_after : (i : ℕ) → i < p.window.length
      → (past_window p.window b ≤ input_remaining b (covered b + suc i)) × (input_remaining b (covered b + suc i) ≤ past_window p.window b + (p.window.length - 1 - i))
  unfolding past_window
  past_after i h = between (covered b + p.window.length) (p.window.length - 1 - i) (covered b + suc i) (ends (covered b) p.window.length i h) P.window.fits

  pub priced-cons : (i : ℕ) → i < p.window.length → AllPriced (tail_of p.window book b) (position_at hw p.window book b i ∷ positions hw p.window book b (suc i))
  priced-cons i h = subst (AllPriced (tail_of p.window book b)) (positions-cons K.checked hw i h) (priced i (p.window.length - i) (omega arith))

  module _ (i : ℕ) (h : i < p.window.length) where
    after : ℕ
    after = input_remaining b (covered b + suc i)

    past : ℕ
    past = past_window p.window b

    common : (c : Counts) (s : Span) → s.base ≡ c.least → s.from ≡ max (input_remaining b (covered b + suc i) - hw) c.least → s.upto ≡ min (input_remaining b (covered b + suc i) + hw) c.most
        → Common (position_at hw p.window book b i) c.least c.most s
    unfolding position_at
    common c s e f g =
        let a = after_same i in
        record {
          base = e;
          lower = omega arith;
          row-lower = omega arith;
          upper = omega arith;
          row-upper = omega arith;
          whole = λ r l u l' u'. (omega arith, omega arith);
        }

    pub within-counts : (c : Counts) → c.least ≡ least_count hw (past_window p.window b) (input_remaining b (covered b + suc i))
        → c.most ≡ min (input_remaining b (covered b + suc i) + hw) (past_window p.window b + (p.window.length - 1 - i)) + 1
        → (r q : ℕ) → q ≤ 1 → T (finite (best (tail_of p.window book b) (position_at hw p.window book b i ∷ positions hw p.window book b (suc i)) r q)) → (c.least ≤ r) × (r ≤ c.most)
    unfolding position_at tail_of least_count
    within-counts c e f r q Q t =
        let a = after_same i in
        let reach = best-reach (tail_of p.window book b) (position_at hw p.window book b i ∷ positions hw p.window book b (suc i)) r q (priced-cons i h) Q t in
        let near = best-near (tail_of p.window book b) (position_at hw p.window book b i) (positions hw p.window book b (suc i)) r q (priced-cons i h) Q t in
        let long = positions-length hw p.window book b (suc i) (p.window.length - suc i) in (
          subst⁻¹ (λ (n : ℕ). n ≤ r) e (low_part hw _ _ r reach.least (rw a at near.least)),
          subst⁻¹ (λ (n : ℕ). r ≤ n) f (high_part hw _ _ r p.window.length i h (rw long at reach.most) (rw a at near.most)),
        )

    lowest : (c : Counts) → c.least ≡ least_count hw (past_window p.window b) (input_remaining b (covered b + suc i))
        → (r q : ℕ) → q ≤ 1 → T (finite (best (tail_of p.window book b) (position_at hw p.window book b i ∷ positions hw p.window book b (suc i)) r q)) → c.least ≤ r
    lowest c e r q Q t = (within-counts (record { least = c.least; most = min (input_remaining b (covered b + suc i) + hw) (past_window p.window b + (p.window.length - 1 - i)) + 1 }) e refl r q Q t).0

    pub narrow : (c : Counts) → c.least ≡ least_count hw (past_window p.window b) (input_remaining b (covered b + suc i))
        → c.most ≡ min (input_remaining b (covered b + suc i) + hw) (past_window p.window b + (p.window.length - 1 - i)) + 1 → c.most ≤ c.least + (2 * hw + 1)
    unfolding least_count
    narrow c e f = omega arith

    -- what a row is worked out from
    module _ (place : Place) (offer : Offer) (offered : List ℤ) (S : Offered p.window b i offer offered) (place_is : place ≡ place_of b p.log2 i) (U : Usable (in_array offer.count offered)) (next : List Float) (n c : Counts) (s : Span) (R : RowAt hw p.window book b (suc i) next n) (long : states hw ≤ length next)
        (sb : s.base ≡ n.least) (sf : s.from ≡ max (input_remaining b (covered b + suc i) - hw) n.least) (su : s.upto ≡ min (input_remaining b (covered b + suc i) + hw) n.most)
        (cl : c.least ≡ least_count hw (past_window p.window b) (input_remaining b (covered b + suc i)))
        (cm : c.most ≡ last_of hw i (past_window p.window b) (input_remaining b (covered b + suc i)) (p.window.length - 1 - i) s.upto (rise_at p.window.restoring i offer.level)) where
      C : Common (position_at hw p.window book b i) n.least n.most s
      C = common n s sb sf su

      tails : (r q : ℕ) → s.from ≤ r → r ≤ s.upto → q ≤ 1 → T (cost (get_or next (2 * (r - s.base) + q) nan))
      tails r q l u Q =
          rw sb
          (subst⁻¹ (λ (y : Float). T (cost y)) (R.stands.values r q (le_trans C.row-lower l) (le_trans u C.row-upper) Q)
          ((best-costs (tail_of p.window book b) (positions hw p.window book b (suc i)) (priced (suc i) (p.window.length - suc i) (next_fits p.window.length i h))).costs r q Q))

      rise : ℕ
      rise = rise_at p.window.restoring i offer.level

      level-rises : nz offer.level ≤ rise_at p.window.restoring i offer.level
      level-rises = rise-level p.window.restoring i offer.level

      -- the next row's input count may be read
      read-on : input_remaining b (covered b + suc i) ≤ s.upto
      read-on = rw su (read-in hw _ _ R.holds)

      upto-near : s.upto ≤ input_remaining b (covered b + suc i) + hw
      upto-near = rw su (min-le_left _ _)

      upto-held : s.upto ≤ n.most
      upto-held = rw su (min-le_right _ _)

      counted : input_remaining b (covered b + suc i) + nz offer.level ≡ input_remaining b (covered b + i)
      counted =
          let here = remaining-step K.checked (covered b + i) (inner (covered b) p.window.length i h P.window.fits) in
          let same : suc (covered b + i) ≡ covered b + suc i = omega arith in
          let level = ap nz S.level_is in
          omega (arith, rw same at here)

      picked-inside : (r q : ℕ) → q ≤ 1 → T (finite (best (tail_of p.window book b) (position_at hw p.window book b i ∷ positions hw p.window book b (suc i)) r q)) → r ≤ s.upto + rise_at p.window.restoring i offer.level
      unfolding position_at
      picked-inside r q Q f =
          let t = tail_of p.window book b in
          let q0 = position_at hw p.window book b i in
          let qs = positions hw p.window book b (suc i) in
          let all = priced-cons i h in
          let z = pick t q0 qs r q in
          let among = pick-among t q0 qs all r q Q f in
          let high : r - nz z ≤ input_after b i + hw = pick-within t q0 qs all r q Q f in
          let held = (R.stands.inside (r - nz z) (nz z) (nz-le z) (pick-cheap t q0 qs all r q Q f)).1 in
          let risen = rises p.window b i z (member t q0 qs all r q Q f) in
          let same = ap (rise_at p.window.restoring i) S.level_is in
          let a = after_same i in
          let below : r - nz z ≤ s.upto = rw su (le-min (le_trans high (le_of_eq (ap (λ (m : ℕ). m + hw) a))) held) in
          rw same (omega (arith, among, below, risen))

      -- what is known of the last count
      record Last : Type 0 where
        pub first : i ≡ 0 → c.most ≡ min (input_remaining b (covered b + suc i) + hw) (past_window p.window b + (p.window.length - 1 - i)) + 1
        pub near : c.most ≤ input_remaining b (covered b + suc i) + hw + 1
        pub far : c.most ≤ past_window p.window b + (p.window.length - i)
        pub some : input_remaining b (covered b + suc i) ≤ c.most
        pub held : input_remaining b (covered b + i) ≤ c.most
        pub inside : (r q : ℕ) → q ≤ 1 → T (finite (best (tail_of p.window book b) (position_at hw p.window book b i ∷ positions hw p.window book b (suc i)) r q)) → r ≤ c.most

      last : Last
      last = go (eqb i 0) refl cm
        where
          go : (t : Bool) → eqb i 0 ≡ t → c.most ≡ cond t (min (input_remaining b (covered b + suc i) + hw) (past_window p.window b + (p.window.length - 1 - i)) + 1) (s.upto + rise_at p.window.restoring i offer.level) → Last
          go true t e =
              let behind = past_after i h in
              let input = held_first (input_remaining b (covered b + suc i)) hw (past_window p.window b + (p.window.length - 1 - i)) (nz offer.level) behind.1 (nz-le offer.level) in
              record {
                first = λ _. e;
                near = rw e (near_first _ hw _);
                far = rw e (far-first _ (past_window p.window b) p.window.length i h);
                some = rw e (below-held _ _ _ input);
                held = rw (e, ← counted) input;
                inside = λ r q Q f. (within-counts c cl e r q Q f).1;
              }
          go false t e =
              let one = rise-few p.window.restoring i offer.level in
              let input = held-other _ _ _ _ read-on level-rises in
              record {
                first = λ none. absurd (eqb-false i 0 t none);
                near = rw e (near-other _ _ hw _ upto-near one);
                far = rw e (far-other _ _ (past_window p.window b) p.window.length i _ upto-held R.reach one h);
                some = rw e (below-held _ _ _ input);
                held = rw (e, ← counted) input;
                inside = λ r q Q f. rw e (picked-inside r q Q f);
              }

      fits : c.most + (covered b + i) ≤ 64 * covered b
      unfolding past_length
      fits = fits_in _ _ p.window.length i (covered b) last.far h (past-most p.window b) P.window.fits

      pub working : Workable book place (listed (in_array offer.count offered)) next s c.most
      unfolding place_of
      working =
          record {
            priced = K.checked.book_passed;
            pickable = pickable-of U;
            covers = rw (place_is, ← K.checked.planned.covered_is) K.checked.planned.covers;
            coded = rw place_is (omega arith);
            left = rw place_is fits;
            offset = rw (place_is, ← K.checked.planned.offset_is) p.coded.offset;
            locals = λ r q z k Q m. rw place_is (subst⁻¹ (λ (y : Float). T (cost y)) (local-is book b p.log2 i r q z Q) (local-cost i r q z h (subst (Mem z) S.listed_is m)));
            starts = subst⁻¹ (λ (n' : ℕ). n' ≤ s.from) sb C.row-lower;
            room = λ k. row_room hw _ _ _ _ _ sb C.row-upper R.narrow long;
            tails = tails;
          }

      pub counts-narrow : c.most ≤ c.least + (2 * hw + 1)
      unfolding least_count
      counts-narrow = rw cl (narrow-in hw _ _ _ last.near)

      pub counts_some : c.least ≤ c.most
      unfolding least_count
      counts_some = rw cl (some_in hw _ _ _ (past_after i h).0 last.some)

      local : (r pr : ℕ) (z : ℤ) → pr ≤ 1 → local_at book place r pr z ≡ (position_at hw p.window book b i).price r pr z
      unfolding position_at
      local r pr z Q = ap (λ (x : Place). local_at book x r pr z) place_is ∙ local-is book b p.log2 i r pr z Q

      costs : (r pr : ℕ) (z : ℤ) → pr ≤ 1 → Mem z (position_at hw p.window book b i).candidates → T (cost ((position_at hw p.window book b i).price r pr z))
      unfolding position_at
      costs r pr z Q m = local-cost i r pr z h m

      listed_here : listed (in_array offer.count offered) ≡ (position_at hw p.window book b i).candidates
      unfolding position_at
      listed_here = S.listed_is

      pub stepped : (row row' : List Float) (choices choices' : List ℕ) (after' : ℕ) → length row' ≡ length row → Elsewhere (2 * (choice_bytes hw * i)) (2 * (c.most + 1 - c.least)) (unpacked choices) (unpacked choices')
          → RowIs book place (listed (in_array offer.count offered)) next s c.least (2 * (choice_bytes hw * i)) (2 * (c.most + 1 - c.least)) row' (unpacked choices')
          → after' ≡ input_remaining b (covered b + suc i) + nz offer.level → Stepped hw p.window book b i row row' choices choices' (record { counts = c; after = after' })
      stepped row row' choices choices' after' size E I e =
          let J = subst (λ (l : List ℤ). RowIs book place l next s c.least (2 * (choice_bytes hw * i)) (2 * (c.most + 1 - c.least)) row' (unpacked choices')) listed_here I in
          let Q = priced-cons i h in
          let dead : (r : ℕ) → T (cost (nonzero_tail next s r)) = λ r. nonzero-tail-cost working r in
          let inside : (r q : ℕ) → q ≤ 1 → T (finite (best (tail_of p.window book b) (position_at hw p.window book b i ∷ positions hw p.window book b (suc i)) r q)) → (c.least ≤ r) × (r ≤ c.most) =
          λ r q Q f. (lowest c cl r q Q f, last.inside r q Q f) in
          record {
            row_is =
                record {
                  stands = subst⁻¹ (λ (l : List Position). RowFor (tail_of p.window book b) l row' c.least c.most) (positions-cons K.checked hw i h)
                      (row-for (tail_of p.window book b) (position_at hw p.window book b i) (positions hw p.window book b (suc i)) Q next n.least n.most s C R.stands book place local costs dead c.least c.most (2 * (choice_bytes hw * i)) row' (unpacked choices') J inside);
                  narrow = counts-narrow;
                  holds = last.held;
                  reach = last.far;
                };
            size = size;
            chosen = record {
              last = c.most;
              inside = last.inside;
              stands = subst (λ (l : ℕ). ChoicesFor (tail_of p.window book b) (position_at hw p.window book b i) (positions hw p.window book b (suc i)) (unpacked choices') (2 * (choice_bytes hw * i)) l) cl
                  (choices-for (tail_of p.window book b) (position_at hw p.window book b i) (positions hw p.window book b (suc i)) Q next n.least n.most s C R.stands book place local costs dead c.least c.most (2 * (choice_bytes hw * i)) row' (unpacked choices') J inside);
              none = λ r q P l h f.
                  subst (λ (k : ℕ). get_or (unpacked choices') (2 * (choice_bytes hw * i) + (2 * (r - k) + q)) 0 ≡ 255) cl
                  (choices-none (tail_of p.window book b) (position_at hw p.window book b i) (positions hw p.window book b (suc i)) Q next n.least n.most s C R.stands book place local costs dead c.least c.most (2 * (choice_bytes hw * i)) row' (unpacked choices') J inside r q P (rw cl l) h f);
            };
            elsewhere = wider E (row-width hw c.least c.most counts-narrow);
            after_is = e ∙ counted;
            counts_are = record { least = cl; most = last.first };
          }
