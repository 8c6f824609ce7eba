-- What a search reads and counts at a position of a block that passed its checks. Assumes nothing.
use mathlib.Core.Path.{◌≡◌, refl, ap, ◌∙◌}
use mathlib.Core.Bool.{Bool, true, false, cond}
use mathlib.Core.List.{List, ◌∷◌}
use Prim.Native.Nat.{ℕ, suc, ◌+◌, ◌-◌, ◌*◌, ◌/◌, ◌≤◌, ◌<◌}
use native.Mathlib.Omega.{arith}
use native.Mathlib.Numerals.{add-one}
use lib.IntN.{ℤ}
use lib.Dec.{T, leb, lit≤}
use lib.ListN.{length}
use lib.Ieee.{Float}
use Rattle.block.specs.Block.{Block, covered, input_at, input_remaining}
use Rattle.block.specs.Band.{position_at, positions_from}
use Rattle.block.specs.Cost.{first_prev}
use Rattle.block_checks.proofs.Reading.{readable, small-position, whole}
use Rattle.candidates.specs.Candidates.{is_current}
use Rattle.least_cost.specs.Position.{nz}
use Rattle.prices.specs.Book.{Book}
use Rattle.problem.proofs.Problem.{among-most}
use Rattle.scan.specs.Scan.{Perm}
use Rattle.steps.specs.Plan.{Lists, Readable, Whole}
use Rattle.steps.specs.declared.plan.Plan.{Plan}
use Rattle.steps.proofs.Counting.{among_first}
use Rattle.weights.proofs.Lengths.{base-few}
use Rattle.search_checks.specs.Checked.{positions, Checked, Searched}

pub inner : (c w i : ℕ) → i < w → c + w ≤ 64 * c → c + i < 64 * c
inner c w i h f = omega arith

-- a flag made of a test
pub bit-few : (t : Bool) → cond t 1 0 ≤ 1
bit-few true = lit≤ tt
bit-few false = lit≤ tt

pub first_bit : (b : Block) (n : ℕ) → first_prev b n ≤ 1
unfolding first_prev
first_bit b n = bit-few (leb n (64 * covered b / 16))

-- the block's own lists
pub own-lists : (b : Block) → Lists b b.scan b.source b.inverse b.levels
own-lists b = record { scan_is = refl; source_is = refl; inverse_is = refl; levels_is = refl }

module _ {book : Book} {b : Block} {p : Plan} (K : Checked book b p) where
  pub readable-here : (i : ℕ) → i < p.window.length → Readable b.scan b.source b.inverse b.levels p.scale (p.covered + i)
  readable-here i h = rw (K.planned.source_is, K.planned.covered_is) (readable K.passed i h)

  pub base_short : p.base ≤ 1024
  base_short = rw K.planned.base_is (base-few (covered b))

  pub covered-few : p.covered ≤ 1024
  covered-few = rw K.planned.covered_is K.passed.most

  pub position-few : (i : ℕ) → i < p.window.length → p.covered + i < 65536
  position-few i h = rw K.planned.covered_is (small-position K.passed i h)

  pub window-few : p.window.length ≤ 1024
  window-few = K.passed.window.most

  pub window-some : 0 < p.window.length
  window-some = K.passed.window.some

  pub level-current : (i : ℕ) → i < p.window.length → T (is_current (input_at b (covered b + i)))
  level-current i h = K.passed.current (covered b + i) (omega arith) (inner (covered b) p.window.length i h K.passed.window.fits)

  pub remaining-few : (k : ℕ) → input_remaining b k ≤ 65536
  unfolding input_remaining
  remaining-few k = omega (arith, among-most b.scan b.levels k (64 * covered b - k), K.passed.most)

  pub remaining-step : (k : ℕ) → k < 64 * covered b → input_remaining b k ≡ nz (input_at b k) + input_remaining b (suc k)
  unfolding input_remaining input_at
  remaining-step k h = rw add-one at (among_first b.scan b.levels (64 * covered b) k h)

  pub first_is : (n : ℕ) {x : ℕ} → x ≡ cond (leb n (64 * p.covered / 16)) 1 0 → x ≡ first_prev b n
  unfolding first_prev
  first_is n e = e ∙ ap (λ (c : ℕ). cond (leb n (64 * c / 16)) 1 0) K.planned.covered_is

  pub positions-cons : (w i : ℕ) → i < p.window.length → positions w p.window book b i ≡ position_at w p.window book b i ∷ positions w p.window book b (suc i)
  unfolding positions_from
  positions-cons w i h =
      let one : p.window.length - i ≡ suc (p.window.length - suc i) = omega arith in
      rw one

-- ---- by the lists that the code is handed
module _ {book : Book} {scan : List ℕ} {source inverse : List Float} {levels : List ℤ} {plan : Plan} (s : Searched book scan source inverse levels plan) where
  pub scan_long : length s.block.scan ≡ 64 * covered s.block
  scan_long = s.checked.passed.scan_long

  pub levels-few : length levels ≤ 65536
  levels-few = rw s.lists.levels_is (omega (arith, s.checked.passed.levels_long, s.checked.passed.most))

  -- the scan is one of as many levels as there are
  pub scan-of : Perm scan (length levels)
  scan-of = rw (s.lists.scan_is, s.lists.levels_is, s.checked.passed.levels_long) s.checked.passed.scanned

  pub window-fits : plan.covered + plan.window.length ≤ length scan
  window-fits = omega (arith, ap length s.lists.scan_is, s.checked.planned.covered_is, scan_long, s.checked.passed.window.fits)

  pub readable_of : (i : ℕ) → i < plan.window.length → Readable scan source inverse levels plan.scale (plan.covered + i)
  readable_of i h = let l = s.lists in rw (l.scan_is, l.source_is, l.inverse_is, l.levels_is) (readable-here s.checked i h)

  pub whole-past : Whole plan.covered (plan.covered + plan.window.length) scan levels
  whole-past =
      rw (s.lists.scan_is, s.lists.levels_is, s.checked.planned.covered_is)
      (whole s.checked.passed (covered s.block + plan.window.length) (omega arith))

-- a block that passed, as its own
abbrev pub searched-of : {book : Book} (b : Block) {p : Plan} → Checked book b p → Searched book b.scan b.source b.inverse b.levels p
searched-of b K = record { block = b; lists = own-lists b; checked = K }
