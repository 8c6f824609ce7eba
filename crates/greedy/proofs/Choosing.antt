-- The levels that the greedy search writes are a choice, and the count that it answers is theirs. Assumes nothing.
use mathlib.Core.Path.{◌≡◌, refl, sym, ap, ◌∙◌, subst, subst⁻¹}
use mathlib.Core.Logic.{◌⊎◌, inl, inr}
use mathlib.Core.Bool.{Bool, true, false, cond}
use mathlib.Core.List.Memᴰ.{cast}
use mathlib.Core.List.Memᴰ.{head as here}
use mathlib.Core.List.Memᴰ.{tail as there}
use mathlib.Core.List.{List, [], ◌∷◌, Memᴰ as Mem}
use Prim.Native.Nat.{ℕ, zero, suc, ◌+◌, ◌*◌, ◌/◌, ◌≤◌, ◌<◌}
use native.Mathlib.Omega.{arith}
use native.Mathlib.Nat.{not-suc-le-zero, le_of_suc-le-suc, eq-or-lt_of_le}
use borrow.Author.Tests.{eqb-true, le-leb}
use lib.Dec.{eqb, ltb}
use lib.IntN.{ℤ}
use lib.ListN.{length, length-set}
use lib.Ieee.{Float, inf, lt}
use Rattle.block.specs.Band.{half_width, input_after}
use Rattle.block.specs.Block.{Block, with_levels, covered, input_at, input_remaining, nonzeros_among, ideal, candidates_at}
use Rattle.block.specs.Choice.{IsChoice}
use Rattle.block.specs.Checks.{block_refusal, valid_width}
use Rattle.block.specs.Cost.{first_prev}
use Rattle.block.specs.Outcome.{RefusedKeeps}
use Rattle.block.specs.Answer.{Refused}
use Rattle.block_checks.specs.Passed.{Passed}
use Rattle.candidates.proofs.Laws.{Listed, candidates-listed}
use Rattle.greedy_cost.specs.Run.{run_start}
use Rattle.least_cost.specs.Position.{nz}
use Rattle.least_cost.specs.Search.{holder}
use Rattle.prices.specs.Book.{Book}
use Rattle.problem.proofs.Refusals.{searched, width-free}
use Rattle.problem.proofs.Written.{is-choice}
use Rattle.scan.specs.Scan.{Perm, level_at}
use Rattle.scan.proofs.Through.{level-same, level-other}
use Rattle.weights.specs.Window.{window_for}
use Rattle.weights.specs.declared.Window.{Window}
use Rattle.weights.proofs.Lengths.{whole-window}
use Rattle.greedy.specs.Greedy.{Outcome, others_of, greedy_cost, stays, chosen, settled_at, settled_from, greedy_levels, outcome_of, searched_outcome, refusal, greedy_outcome, CountAnswered, PromisedIn, Promised}
use Rattle.steps.proofs.Ordered.{among-split}

-- ---- the first least is listed where the level to fall back on is
pub holder-listed : {A : Type 0} (g : A → Float) (v : Float) (d : A) (cs xs : List A) → Mem d xs → ((c : A) → Mem c cs → Mem c xs) → Mem (holder g v d cs) xs
unfolding holder
holder-listed g v d [] xs D C = D
holder-listed g v d (c ∷ cs) xs D C = go (lt (g c) v) (λ v' d' D'. holder-listed g v' d' cs xs D' (λ x m. C x (there m)))
  where
    go : (t : Bool) → ((v' : Float) (d' : _) → Mem d' xs → Mem (holder g v' d' cs) xs) → Mem (holder g (cond t (g c) v) (cond t c d) cs) xs
    go true f = f (g c) c (C c (here refl))
    go false f = f v d D

pub chosen-listed : (v : Window) (book : Book) (b : Block) (i : ℕ) → Mem (input_at b (covered b + i)) (candidates_at v b i) → Mem (chosen v book b i) (candidates_at v b i)
unfolding chosen
chosen-listed v book b i m = go (stays v b i)
  where
    go : (t : Bool) → Mem (cond t (input_at b (covered b + i)) (holder (greedy_cost book b i) (inf false) (input_at b (covered b + i)) (candidates_at v b i))) (candidates_at v b i)
    go true = m
    go false = holder-listed (greedy_cost book b i) (inf false) (input_at b (covered b + i)) (candidates_at v b i) (candidates_at v b i) m (λ c k. k)

-- the input's own level is listed
first-listed : (q : ℤ) (xs : List ℤ) → Listed q xs → Mem q xs
first-listed q [] l = absurd (not-suc-le-zero l.some)
first-listed q (x ∷ xs) l = here (sym l.first)

-- ---- the pass writes window positions alone, and at each a listed level
module _ (v : Window) (book : Book) where
  settled-off : (n : ℕ) (b : Block) → Perm b.scan (64 * covered b) → (k : ℕ) → covered b + n ≤ 64 * covered b → k < 64 * covered b → ((i : ℕ) → i < n → k ≡ covered b + i → ⊥)
      → level_at b.scan (settled_from v book n b) k ≡ level_at b.scan b.levels k
  unfolding settled_from settled_at covered
  settled-off zero b scanned k fits h off = refl
  settled-off (suc n) b scanned k fits h off =
      settled-off n (with_levels b (settled_at v book b n)) scanned k (omega arith) h (λ i l. off i (omega arith))
      ∙ level-other scanned b.levels (covered b + n) k (omega arith) h (off n (omega arith)) (chosen v book b n)

  same-candidates : (b : Block) (x : List ℤ) (i : ℕ) → level_at b.scan x (covered b + i) ≡ level_at b.scan b.levels (covered b + i) → candidates_at v (with_levels b x) i ≡ candidates_at v b i
  unfolding candidates_at input_at ideal covered
  same-candidates b x i e = rw e

  settled-listed : (n : ℕ) (b : Block) → Perm b.scan (64 * covered b) → length b.levels ≡ 64 * covered b → covered b + n ≤ 64 * covered b
      → ((i : ℕ) → i < n → Mem (input_at b (covered b + i)) (candidates_at v b i)) → (i : ℕ) → i < n → Mem (level_at b.scan (settled_from v book n b) (covered b + i)) (candidates_at v b i)
  unfolding settled_from settled_at covered input_at
  settled-listed zero b scanned whole fits own i h = absurd (not-suc-le-zero h)
  settled-listed (suc n) b scanned whole fits own i h =
      go (eq-or-lt_of_le (le_of_suc-le-suc h)) (settled-listed n (with_levels b (settled_at v book b n)) scanned (simp length-set whole) (omega arith))
    where
      next : Block
      next = with_levels b (settled_at v book b n)

      off : (j : ℕ) → j < n → level_at b.scan (settled_at v book b n) (covered b + j) ≡ level_at b.scan b.levels (covered b + j)
      off j l = level-other scanned b.levels (covered b + n) (covered b + j) (omega arith) (omega arith) (λ e. omega arith) (chosen v book b n)

      go : (i ≡ n) ⊎ (i < n)
          → (((j : ℕ) → j < n → Mem (input_at next (covered next + j)) (candidates_at v next j)) → (j : ℕ) → j < n → Mem (level_at b.scan (settled_from v book n next) (covered next + j)) (candidates_at v next j))
          → Mem (level_at b.scan (settled_from v book n next) (covered b + i)) (candidates_at v b i)
      go (inl e) rest =
          subst⁻¹ (λ (j : ℕ). Mem (level_at b.scan (settled_from v book n next) (covered b + j)) (candidates_at v b j)) e
          (cast
          (settled-off n next scanned (covered b + n) (omega arith) (omega arith) (λ j l d. omega arith) ∙ level-same scanned b.levels whole (covered b + n) (omega arith) (chosen v book b n))
          (chosen-listed v book b n (own n (omega arith))))
      go (inr l) rest =
          subst (λ (xs : List ℤ). Mem (level_at b.scan (settled_from v book n next) (covered b + i)) xs) (same-candidates b (settled_at v book b n) i (off i l))
          (rest
          (λ j m. subst⁻¹ (λ (xs : List ℤ). Mem (level_at b.scan (settled_at v book b n) (covered b + j)) xs) (same-candidates b (settled_at v book b n) j (off j m)) (cast (off j m) (own j (omega arith))))
          i l)

-- Greedy's levels are a choice, and the count that it answers is theirs.
pub greedy-choice : (w : ℕ) (v : Window) (book : Book) (b : Block) → Passed v b → IsChoice w v book b (greedy_levels v book b)
unfolding greedy_levels input_at candidates_at covered
greedy-choice w v book b a =
    is-choice w v book b (settled_from v book v.length b) a
    (λ k h apart. settled-off v book v.length b a.scanned k a.window.fits h apart)
    (λ i h. settled-listed v book v.length b a.scanned a.levels_long a.window.fits own i h)
  where
    own : (i : ℕ) → i < v.length → Mem (input_at b (covered b + i)) (candidates_at v b i)
    own i h = first-listed _ _ (candidates-listed (ideal b i) (input_at b (covered b + i)) (ltb i v.restoring) (a.ideals i h) (a.current (covered b + i) (omega arith) (omega (arith, a.window.fits))))

-- ---- whatever equals the outcome meets the whole contract
block-passes : (w : ℕ) (v : Window) (book : Book) (b : Block) → refusal w v book b ≡ 0 → block_refusal w v b 0 ≡ 0
unfolding refusal
block-passes w v book b e = (searched w v book b true e).1.0

same_outcome : (w n : ℕ) (v : Window) (book : Book) (b : Block) → valid_width w ≡ true → valid_width n ≡ true → greedy_outcome w v book b ≡ greedy_outcome n v book b
unfolding greedy_outcome refusal
same_outcome w n v book b e f =
    ap (λ (r : ℕ). cond (eqb r 0) (searched_outcome v book b) (outcome_of (Refused r) b.levels)) (width-free w n v book b true e f)

-- by whether the checks let it pass
abbrev ended : ℕ → Window → Book → Block → Bool → Outcome
ended w v book b t = cond t (searched_outcome v book b) (outcome_of (Refused (refusal w v book b)) b.levels)

pub promised : (w : ℕ) (v : Window) (book : Book) (b : Block) → (block_refusal w v b 0 ≡ 0 → Passed v b) → {after : Outcome} → after ≡ greedy_outcome w v book b → PromisedIn w v book b after
unfolding greedy_outcome searched_outcome
promised w v book b within e =
    record {
      outcome = e;
      any_width = λ n f g. e ∙ same_outcome w n v book b f g;
      counted = subst⁻¹ (λ (r : Outcome). CountAnswered v book b r.levels r.answer) e both.0;
      keeps = subst⁻¹ (λ (r : Outcome). RefusedKeeps b r.levels r.answer) e both.1;
    }
  where
    go : (t : Bool) → eqb (refusal w v book b) 0 ≡ t → CountAnswered v book b (ended w v book b t).levels (ended w v book b t).answer × RefusedKeeps b (ended w v book b t).levels (ended w v book b t).answer
    go true h = (
      λ n k.
          let count : n ≡ input_remaining (with_levels b (greedy_levels v book b)) (covered b) = cc in
          (greedy-choice half_width v book b (within (block-passes w v book b (eqb-true _ 0 h))), count),
      λ n k.
          let bad : ◌≡◌ {A = ℕ} 0 1 = cc in
          absurd (omega arith),
    )
    go false h = (
      λ n k.
          let bad : ◌≡◌ {A = ℕ} 0 1 = cc in
          absurd (omega arith),
      λ n k. refl,
    )

    both : CountAnswered v book b (greedy_outcome w v book b).levels (greedy_outcome w v book b).answer × RefusedKeeps b (greedy_outcome w v book b).levels (greedy_outcome w v book b).answer
    both = go (eqb (refusal w v book b) 0) refl

-- document 01's window
pub whole : {w : ℕ} {book : Book} {b : Block} {r : Outcome} → PromisedIn w (window_for 1024 (covered b)) book b r → Promised w book b r
whole {w} {book} {b} {r} P = subst (λ (v : Window). PromisedIn w v book b r) (whole-window (covered b)) P

-- ---- `prev` of a run's first zero is 1 at the first position too: where no nonzero level stands behind the run, the whole count is 1
all-zero : (scan : List ℕ) (levels : List ℤ) (c i : ℕ) → run_start scan levels c i ≡ 0 → nonzeros_among scan levels c i ≡ 0
unfolding nonzeros_among run_start
all-zero scan levels c zero e = refl
all-zero scan levels c (suc i) e = go (eqb (nz (level_at scan levels (c + i))) 0) refl e (all-zero scan levels c i)
  where
    one : nonzeros_among scan levels c (suc i) ≡ nonzeros_among scan levels c i + (nz (level_at scan levels (c + i)) + 0)
    one =
        let more : suc i ≡ i + 1 = omega arith in
        ap (nonzeros_among scan levels c) more ∙ among-split scan levels c i 1

    go : (t : Bool) → eqb (nz (level_at scan levels (c + i))) 0 ≡ t → cond t (run_start scan levels c i) (suc i) ≡ 0 → (run_start scan levels c i ≡ 0 → nonzeros_among scan levels c i ≡ 0)
        → nonzeros_among scan levels c (suc i) ≡ 0
    go true h k f = omega (arith, one, f k, eqb-true (nz (level_at scan levels (c + i))) 0 h)
    go false h k f = absurd (omega arith)

pub run-first : (b : Block) (i : ℕ) → 1 ≤ covered b → input_after b i ≡ 0 → run_start b.scan b.levels (covered b) i ≡ 0 → first_prev b (others_of b i + 1) ≡ 1
unfolding others_of first_prev
run-first b i some none start =
    let zeros = all-zero b.scan b.levels (covered b) i start in
    let count : input_after b i + nonzeros_among b.scan b.levels (covered b) i + 1 ≡ 1 = omega arith in
    rw (count, le-leb 1 (64 * covered b / 16) (omega arith))
