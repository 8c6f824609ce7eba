-- One position of the pass: what is read there, the counts around it, and the level that it takes. Assumes nothing.
use mathlib.Core.Path.{◌≡◌, sym, ap, ◌∙◌}
use mathlib.Core.Bool.{Bool, true, false, ◌&&◌, ◌||◌}
use mathlib.Core.List.{List}
use Prim.Native.Nat.{ℕ, suc, ◌+◌, ◌-◌, ◌*◌, ◌≤◌, ◌<◌}
use native.Mathlib.Omega.{arith}
use native.Mathlib.Numerals.{add-one}
use lib.Dec.{T, eqb}
use lib.IntN.{ℤ}
use lib.ListN.{length, get_or}
use lib.Ieee.{Float, inf}
use borrow.Author.Tests.{eq-eqb, ne_eqb}
use mir.Syntax.{w32}
use mir.Val.{of_z, to_z}
use Rattle.bias.specs.Level.{is_level}
use Rattle.candidates.specs.Candidates.{in_array, is_current}
use Rattle.steps.proofs.Zero.{handed-current, current-level, level-back}
use Rattle.block.specs.Band.{input_after}
use Rattle.block.specs.Block.{Block, covered, input_at, input_remaining, nonzeros_among, candidates_at}
use Rattle.greedy_cost.specs.Cost.{cost_of}
use Rattle.greedy_cost.specs.Run.{none, run_start, zeros_from, Windowed}
use Rattle.steps.proofs.Listed.{listed-length}
use Rattle.least_cost.specs.Position.{nz}
use Rattle.least_cost.specs.Search.{holder}
use Rattle.prices.specs.Book.{Book}
use Rattle.scan.specs.Scan.{level_at}
use Rattle.steps.specs.Plan.{Planned, Lists, Readable, Offered, Usable, listed}
use Rattle.steps.specs.declared.plan.Plan.{Plan}
use Rattle.steps.specs.declared.reading.Offer.{Offer}
use Rattle.steps.proofs.Counting.{among-most}
use Rattle.steps.proofs.Ordered.{among-split}
use Rattle.weights.specs.declared.Window.{Window}
use Rattle.greedy.specs.Greedy.{others_of, front_of, run_of, greedy_cost, stays, chosen}
use Rattle.greedy.specs.Reading.{Fitting, Ready, count_from}

-- ---- what can be read
module _ {p : Plan} {scan : List ℕ} {source inverse : List Float} {levels : List ℤ} {upto : ℕ} (f : Fitting p) (r : Ready p scan source inverse levels upto) where
  pub scan_long : length scan ≡ 64 * p.covered
  scan_long = r.scanned.size

  pub within : (k : ℕ) → k < 64 * p.covered → get_or scan k 0 < length levels
  within k h = rw r.levelled (r.scanned.bound k h)

  pub windowed-of : (i : ℕ) → i < p.window.length → p.covered + i ≤ upto → Windowed p.covered i scan levels
  windowed-of i h up =
      record {
        some = f.some;
        most = omega (arith, f.most, f.window);
        long = rw scan_long (omega (arith, f.window));
        within = λ k l. within k (rw scan_long at l);
        level = λ k l m. r.current k l (omega arith);
      }

  pub readable-at : (i : ℕ) → i < p.window.length → p.covered + i < upto → Readable scan source inverse levels p.scale (p.covered + i)
  readable-at i h up =
      let here : p.covered + i < 64 * p.covered = omega (arith, f.window) in
      record {
        scanned = rw scan_long here;
        sourced = rw r.sourced (r.scanned.bound _ here);
        inverted = rw r.inverted (r.scanned.bound _ here);
        levelled = within _ here;
        ideal = r.ideals i h;
        level = r.current _ (omega arith) up;
      }

-- ---- counts
module _ (scan : List ℕ) (levels : List ℤ) where
  -- the whole count, by one position
  pub total-split : (c i : ℕ) → c + i < 64 * c → count_from scan levels c c ≡ nz (level_at scan levels (c + i)) + (count_from scan levels c (c + i + 1) + nonzeros_among scan levels c i)
  unfolding nonzeros_among
  total-split c i h =
      let parts : 64 * c - c ≡ i + suc (64 * c - (c + i + 1)) = omega arith in
      let split = among-split scan levels c i (suc (64 * c - (c + i + 1))) in
      rw parts (split ∙ rw (add-one (c + i)) (omega arith))

-- ---- the same in the block's terms
module _ {b : Block} {p : Plan} {scan : List ℕ} {levels : List ℤ} (es : scan ≡ b.scan) (el : levels ≡ b.levels) (w : Planned b p) (i : ℕ) where
  pub later-is : {later : ℕ} → later ≡ count_from scan levels p.covered (p.covered + i + 1) → later ≡ input_after b i
  unfolding input_after input_remaining
  later-is e = let cov = w.covered_is in cc

  pub others-is : {later total n : ℕ} → p.covered + i < 64 * p.covered → later ≡ count_from scan levels p.covered (p.covered + i + 1) → total ≡ count_from scan levels p.covered p.covered
      → n ≡ nz (level_at scan levels (p.covered + i)) → total - n ≡ others_of b i
  unfolding others_of
  others-is {later} {total} {n} h el' et en =
      let split = total-split scan levels p.covered i h in
      let less : total - n ≡ later + nonzeros_among scan levels p.covered i = omega arith in
      let after : later ≡ input_after b i = later-is el' in
      let cov = w.covered_is in
      cc

-- a count fits beside the position
pub others-few : (scan : List ℕ) (levels : List ℤ) (c i : ℕ) {total n : ℕ} → c + i < 64 * c → total ≡ count_from scan levels c c → n ≡ nz (level_at scan levels (c + i)) → (n ≤ total) × (total - n < 64 * c)
others-few scan levels c i h et en =
    let split = total-split scan levels c i h in
    let a = among-most scan levels (c + i + 1) (64 * c - (c + i + 1)) in
    let d = among-most scan levels c i in
    (omega arith, omega arith)

pub later-few : (scan : List ℕ) (levels : List ℤ) (c i : ℕ) {later : ℕ} → c + i < 64 * c → later ≡ count_from scan levels c (c + i + 1) → later + 1 + (c + i) ≤ 64 * c
later-few scan levels c i h e = let a = among-most scan levels (c + i + 1) (64 * c - (c + i + 1)) in omega arith

-- ---- the level in front, and the run
module _ (b : Block) {scan : List ℕ} {levels : List ℤ} {c : ℕ} (es : scan ≡ b.scan) (el : levels ≡ b.levels) (ec : c ≡ covered b) (i : ℕ) where
  pub front-first : i ≡ 0 → 0 ≡ front_of b i
  unfolding front_of
  front-first e = rw e

  pub front-past : {n : ℕ} → 0 < i → n ≡ nz (level_at scan levels (c + i - 1)) → n ≡ front_of b i
  unfolding front_of input_at
  front-past some e =
      let before : i ≡ suc (i - 1) = omega arith in
      let at : c + i - 1 ≡ covered b + (i - 1) = omega arith in
      rw before (e ∙ rw (at, es, el))

module _ (book : Book) (b : Block) (i : ℕ) {later : ℕ} (e : later ≡ input_after b i) where
  pub run_none : 0 < later → none ≡ run_of book b i
  unfolding run_of
  run_none h =
      let some : input_after b i ≡ 0 → ⊥ = λ z. omega arith in
      rw (ne_eqb (input_after b i) 0 some)

  pub run-some : {start c : ℕ} {scan : List ℕ} {levels : List ℤ} {sum : Float} → later ≤ 0 → scan ≡ b.scan → levels ≡ b.levels → c ≡ covered b
      → start ≡ run_start scan levels c i → sum ≡ zeros_from book b (i - start) start 1 none → sum ≡ run_of book b i
  unfolding run_of
  run-some h es el ec estart esum =
      let empty : input_after b i ≡ 0 = omega arith in
      rw (eq-eqb (input_after b i) 0 empty) (cc)

-- ---- the level that a position takes
pub handed-level : (q z : ℤ) → z ≡ q → T (is_current q) → T (is_level (to_z w32 (of_z w32 z)))
handed-level q z e h = current-level (to_z w32 (of_z w32 z)) (handed-current q z e h)

-- a level of a call, handed on as 32 bits
pub passed_on : (q z : ℤ) → T (is_level q) → q ≡ z → to_z w32 (of_z w32 q) ≡ z
passed_on q z h e = level-back q h ∙ e

pub passed-level : (q : ℤ) → T (is_level q) → T (is_level (to_z w32 (of_z w32 q)))
passed-level q h = rw (level-back q h) h

pub inputs : {b : Block} {p : Plan} {scan : List ℕ} {source inverse : List Float} {levels : List ℤ} (i : ℕ) → Lists b scan source inverse levels → Planned b p
    → level_at scan levels (p.covered + i) ≡ input_at b (covered b + i)
unfolding input_at
inputs i l w = rw (l.scan_is, l.levels_is, w.covered_is)

module _ (book : Book) {v : Window} {b : Block} {i : ℕ} {offer : Offer} {levels : List ℤ} (s : Offered v b i offer levels) (u : Usable (in_array offer.count levels)) {current : ℤ} (ec : current ≡ input_at b (covered b + i))
    {later : ℕ} (e : later ≡ input_after b i) {t : Bool} (et : t ≡ (eqb offer.count 1 || (eqb (nz current) 0 && eqb later 0))) where
  stays-is : t ≡ stays v b i
  unfolding stays
  stays-is =
      let many : offer.count ≡ length (candidates_at v b i) = sym (listed-length u) ∙ ap length s.listed_is in
      cc

  pub chosen-stays : t ≡ true → current ≡ chosen v book b i
  unfolding chosen
  chosen-stays it = rw (sym stays-is ∙ it) ec

  pub chosen-least : {others front : ℕ} {run : Float} {r : ℤ} → t ≡ false → others ≡ others_of b i → front ≡ front_of b i → run ≡ run_of book b i
      → r ≡ holder (cost_of book b i later others front run) (inf false) current (listed (in_array offer.count levels)) → r ≡ chosen v book b i
  unfolding chosen greedy_cost
  chosen-least it eo ef er eh =
      let cands = s.listed_is in
      rw (sym stays-is ∙ it) (cc)
