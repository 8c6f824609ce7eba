-- The passes over a record, turn by turn. Assumes nothing.
use Prim.Native.Nat.{ℕ, ◌+◌, ◌-◌, ◌*◌, ◌<◌, ◌≤◌}
use mathlib.Core.Path.{◌≡◌, refl, sym, ap, ap₂, ◌∙◌}
use mathlib.Core.Bool.{Bool, true, false, cond}
use mathlib.Core.List.{List, [], ◌∷◌, ◌++◌}
use native.Mathlib.Omega.{arith}
use borrow.Author.Tests.{eq-eqb, ne_eqb}
use lib.Dec.{eqb}
use lib.ListN.{length, get_or, set, length-append}
use Rattle.std.proofs.Common.{Option, Some, None}
use Rattle.std.proofs.lemmas.Option.{none-some}
use Rattle.store_record.specs.Placed.{placed}
use Rattle.store_record.specs.Runs.{run_at, runs_from, headed, holds, others, run_under, live, end_of}
use Rattle.store_record.specs.declared.Run.{Run}
use Rattle.store_record.proofs.Placed.{three-placed}
use Rattle.store_record.proofs.Headed.{headed-none, headed-past, headed-more}
use Rattle.store_record.proofs.Runs.{runs_none, runs-next, runs-more, runs-length}
use Rattle.store_record.proofs.Order.{others-most}
use Rattle.store_passes.specs.Found.{Found, Removed}
use native.Mathlib.Nat.{le_antisymm}

-- ---- find

-- what is left decides what is found
pub record Seeking (k : ℕ) (r : List ℕ) (n i : ℕ) : Type 0 where
  pub within : i ≤ n
  pub held : holds k (runs_from r i (n - i)) ≡ holds k (runs_from r 0 n)
  pub under : run_under k (runs_from r i (n - i)) ≡ run_under k (runs_from r 0 n)

index_or-0 : Option ℕ → ℕ
index_or-0 (Some i) = i
index_or-0 None = 0

some-same : {i j : ℕ} → Some i ≡ Some j → i ≡ j
unfolding index_or-0
some-same q = ap index_or-0 q

whole : (r : List ℕ) (n : ℕ) → runs_from r 0 (n - 0) ≡ runs_from r 0 n
whole r n =
    let e : n - 0 ≡ n = omega arith in
    rw e

pub seek-start : (k : ℕ) (r : List ℕ) (n : ℕ) → Seeking k r n 0
seek-start k r n = record { within = omega arith; held = ap (holds k) (whole r n); under = ap (run_under k) (whole r n) }

module _ (k : ℕ) (r : List ℕ) (n i : ℕ) (s : Seeking k r n i) where
  pub seek-next : i < n → (get_or r (3 * i + 1) 0 ≡ k → ⊥) → Seeking k r n (i + 1)
  unfolding holds run_under
  seek-next h d =
      let other : eqb k (get_or r (3 * i + 1) 0) ≡ false = ne_eqb k (get_or r (3 * i + 1) 0) (λ e. d (sym e)) in
      record { within = omega arith; held = rw (runs-next r i n h, other) at s.held; under = rw (runs-next r i n h, other) at s.under }

  pub seek-here : i < n → get_or r (3 * i + 1) 0 ≡ k → Found k r n (Some i)
  unfolding holds run_under
  seek-here h e =
      let this : eqb k (get_or r (3 * i + 1) 0) ≡ true = eq-eqb k (get_or r (3 * i + 1) 0) (sym e) in
      record {
        there = λ j q.
            let same : i ≡ j = some-same q in
            (rw same at h, sym (rw (runs-next r i n h, this) at s.held), sym (rw (runs-next r i n h, this) at s.under) ∙ ap (run_at r) same);
        missing = λ q. absurd (none-some i (sym q));
      }

  pub seek-end : n ≤ i → Found k r n None
  unfolding holds
  seek-end h = record { there = λ j q. absurd (none-some j q); missing = λ _. sym (rw (runs_none r i n h) at s.held) }

-- ---- live_but

pub record Adding (k : ℕ) (r : List ℕ) (n i sum : ℕ) : Type 0 where
  pub within : i ≤ n
  pub others' : sum + live (others k (runs_from r i (n - i))) ≡ live (others k (runs_from r 0 n))
  pub all : sum + live (runs_from r i (n - i)) ≤ live (runs_from r 0 n)

pub add_start : (k : ℕ) (r : List ℕ) (n : ℕ) → Adding k r n 0 0
add_start k r n = record { within = omega arith; others' = rw (whole r n) (omega arith); all = rw (whole r n) (omega arith) }

module _ (k : ℕ) (r : List ℕ) (n i sum : ℕ) (s : Adding k r n i sum) (h : i < n) where
  pub add_small : sum + get_or r (3 * i + 3) 0 ≤ live (runs_from r 0 n)
  unfolding live
  add_small = let a = rw (runs-next r i n h) at s.all in omega arith

  pub add-next : (get_or r (3 * i + 1) 0 ≡ k → ⊥) → Adding k r n (i + 1) (sum + get_or r (3 * i + 3) 0)
  unfolding live others
  add-next d =
      let other : eqb k (get_or r (3 * i + 1) 0) ≡ false = ne_eqb k (get_or r (3 * i + 1) 0) (λ e. d (sym e)) in
      let a = rw (runs-next r i n h) at s.all in
      let o = rw (runs-next r i n h, other) at s.others' in
      record { within = omega arith; others' = omega arith; all = omega arith }

  pub add-not : get_or r (3 * i + 1) 0 ≡ k → Adding k r n (i + 1) sum
  unfolding live others
  add-not e =
      let this : eqb k (get_or r (3 * i + 1) 0) ≡ true = eq-eqb k (get_or r (3 * i + 1) 0) (sym e) in
      let a = rw (runs-next r i n h) at s.all in
      let o = rw (runs-next r i n h, this) at s.others' in
      record { within = omega arith; others' = o; all = omega arith }

pub add-end : (k : ℕ) (r : List ℕ) (n i sum : ℕ) → Adding k r n i sum → n ≤ i → sum ≡ live (others k (runs_from r 0 n))
unfolding live others
add-end k r n i sum s h = let o = rw (runs_none r i n h) at s.others' in omega arith

-- ---- end_of

end_more : (e : ℕ) (xs : List Run) (x : Run) → end_of e (xs ++ (x ∷ [])) ≡ x.start + x.size
unfolding end_of
end_more e [] x = refl
end_more e (y ∷ ys) x = end_more (y.start + y.size) ys x

pub end-last : (r : List ℕ) (n : ℕ) → end_of 0 (runs_from r 0 (n + 1)) ≡ get_or r (3 * n + 2) 0 + get_or r (3 * n + 3) 0
end-last r n = ap (end_of 0) (runs-more r n) ∙ end_more 0 (runs_from r 0 n) (run_at r n)

pub end_none : (r : List ℕ) → end_of 0 (runs_from r 0 0) ≡ 0
unfolding end_of runs_from
end_none r = refl

-- ---- remove

others-more : (k : ℕ) (xs : List Run) (x : Run) → others k (xs ++ (x ∷ [])) ≡ cond (eqb k x.number) (others k xs) (others k xs ++ (x ∷ []))
unfolding others
others-more k [] x = refl
others-more k (y ∷ ys) x = go (eqb k y.number) (eqb k x.number) (others-more k ys x)
  where
    go : (b t : Bool) → others k (ys ++ (x ∷ [])) ≡ cond t (others k ys) (others k ys ++ (x ∷ []))
        → cond b (others k (ys ++ (x ∷ []))) (y ∷ others k (ys ++ (x ∷ []))) ≡ cond t (cond b (others k ys) (y ∷ others k ys)) (cond b (others k ys) (y ∷ others k ys) ++ (x ∷ []))
    go true t e = e
    go false true e = ap (λ (l : List Run). y ∷ l) e
    go false false e = ap (λ (l : List Run). y ∷ l) e

-- the others among the first i runs stand in front
pub record Removing (k : ℕ) (r : List ℕ) (n i : ℕ) (rec : List ℕ) (kept : ℕ) : Type 0 where
  pub within : i ≤ n
  pub count : kept ≡ length (others k (runs_from r 0 i))
  pub runs : rec ≡ headed (get_or r 0 0) (others k (runs_from r 0 i)) r

pub remove-start : (k : ℕ) (r : List ℕ) (n : ℕ) → length r ≡ 3073 → Removing k r n 0 r 0
unfolding others runs_from
remove-start k r n long = record { within = omega arith; count = refl; runs = sym (headed-none r (omega arith)) }

module _ (k : ℕ) (r : List ℕ) (n i : ℕ) (rec : List ℕ) (kept : ℕ) (s : Removing k r n i rec kept) (long : length r ≡ 3073) (few : n ≤ 1024) where
  pub kept-few : kept ≤ i
  kept-few =
      let a = others-most k (runs_from r 0 i) in
      let b = runs-length r 0 i in
      let e = s.count in
      omega arith

  front_fits : 3 * length (others k (runs_from r 0 i)) + 1 ≤ length r
  front_fits = let e = s.count in let w = s.within in omega (arith, kept-few)

  -- what stands ahead is as it was
  ahead : (j : ℕ) → 3 * i + 1 ≤ j → get_or rec j 0 ≡ get_or r j 0
  ahead j h = rw s.runs (headed-past (get_or r 0 0) (others k (runs_from r 0 i)) r front_fits j (let e = s.count in omega (arith, kept-few)))

  pub remove-next : {rec' : List ℕ} {kept' a b d : ℕ} → i < n → a ≡ get_or rec (3 * i + 1) 0 → b ≡ get_or rec (3 * i + 2) 0 → d ≡ get_or rec (3 * i + 3) 0
      → kept' ≡ cond (eqb k a) kept (kept + 1) → rec' ≡ cond (eqb k a) rec (placed (3 * kept + 1) (a ∷ b ∷ d ∷ []) rec) → Removing k r n (i + 1) rec' kept'
  remove-next {rec'} {kept'} {a} {b} {d} h ea eb ed ek er =
      let fa : a ≡ get_or r (3 * i + 1) 0 = ea ∙ ahead (3 * i + 1) (omega arith) in
      let fb : b ≡ get_or r (3 * i + 2) 0 = eb ∙ ahead (3 * i + 2) (omega arith) in
      let fd : d ≡ get_or r (3 * i + 3) 0 = ed ∙ ahead (3 * i + 3) (omega arith) in
      let more : others k (runs_from r 0 (i + 1)) ≡ cond (eqb k (get_or r (3 * i + 1) 0)) (others k (runs_from r 0 i)) (others k (runs_from r 0 i) ++ (run_at r i ∷ [])) =
      ap (others k) (runs-more r i) ∙ others-more k (runs_from r 0 i) (run_at r i) in
      go (eqb k (get_or r (3 * i + 1) 0)) more (rw fa at ek) (rw (fa, fb, fd) at er)
    where
      go : (t : Bool) → others k (runs_from r 0 (i + 1)) ≡ cond t (others k (runs_from r 0 i)) (others k (runs_from r 0 i) ++ (run_at r i ∷ []))
          → kept' ≡ cond t kept (kept + 1)
          → rec' ≡ cond t rec (placed (3 * kept + 1) (get_or r (3 * i + 1) 0 ∷ get_or r (3 * i + 2) 0 ∷ get_or r (3 * i + 3) 0 ∷ []) rec)
          → Removing k r n (i + 1) rec' kept'
      go true more ek er = record { within = omega arith; count = ek ∙ s.count ∙ ap length (sym more); runs = er ∙ s.runs ∙ ap (λ (l : List Run). headed (get_or r 0 0) l r) (sym more) }
      go false more ek er =
          let l : length (others k (runs_from r 0 i) ++ (run_at r i ∷ [])) ≡ length (others k (runs_from r 0 i)) + 1 = length-append (others k (runs_from r 0 i)) (run_at r i ∷ []) in
          record {
            within = omega arith;
            count = ek ∙ ap (λ (j : ℕ). j + 1) s.count ∙ sym l ∙ ap length (sym more);
            runs =
                er
                ∙ ap₂ (λ (j : ℕ) (l : List ℕ). placed (3 * j + 1) (get_or r (3 * i + 1) 0 ∷ get_or r (3 * i + 2) 0 ∷ get_or r (3 * i + 3) 0 ∷ []) l) s.count s.runs
                ∙ headed-more (get_or r 0 0) (others k (runs_from r 0 i)) r front_fits (get_or r (3 * i + 1) 0) (get_or r (3 * i + 2) 0) (get_or r (3 * i + 3) 0)
                ∙ ap (λ (l : List Run). headed (get_or r 0 0) l r) (sym more);
          }

pub remove-end : (k : ℕ) (r : List ℕ) (n i : ℕ) (rec : List ℕ) (kept : ℕ) → Removing k r n i rec kept → n ≤ i → Removed k r n rec kept
remove-end k r n i rec kept s h =
    let e : i ≡ n = le_antisymm s.within h in
    record { count = rw e at s.count; runs = rw e at s.runs }

-- ---- write_run

pub run-placed : (i a b d : ℕ) (r : List ℕ) → 3 * i + 3 < length r → set (set (set r (3 * i + 1) a) (3 * i + 2) b) (3 * i + 3) d ≡ placed (3 * i + 1) (a ∷ b ∷ d ∷ []) r
run-placed i a b d r h =
    let two : 3 * i + 2 ≡ 3 * i + 1 + 1 = omega arith in
    let three : 3 * i + 3 ≡ 3 * i + 1 + 2 = omega arith in
    ap₂ (λ (j k : ℕ). set (set (set r (3 * i + 1) a) j b) k d) two three ∙ three-placed (3 * i + 1) a b d r (omega arith)
