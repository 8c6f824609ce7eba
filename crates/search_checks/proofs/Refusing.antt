-- What the checks of a search let pass. Assumes nothing.
use mathlib.Core.Path.{◌≡◌, refl, sym, ap, ◌∙◌, subst⁻¹, subst}
use mathlib.Core.Bool.{Bool, true, false, cond, ◌&&◌}
use Prim.Native.Nat.{ℕ, ◌*◌, ◌≤◌, ◌<◌}
use lib.Dec.{leb, leb→le, leb-zero}
use Rattle.block.specs.Block.{Block, covered}
use Rattle.block.specs.Checks.{enough_room, search_refusal}
use Rattle.block_checks.proofs.Laws.{passed, width_few}
use Rattle.block_checks.specs.Passed.{Passed}
use Rattle.laws.proofs.Tests.{and_left, and_right}
use Rattle.prices.specs.Book.{Book}
use Rattle.problem.proofs.Refusals.{searched, searched-width}
use Rattle.steps.specs.Plan.{Planned}
use Rattle.steps.specs.declared.plan.Plan.{Plan}
use Rattle.weights.specs.Window.{window_for}
use Rattle.weights.specs.declared.Window.{Window}
use Rattle.search_checks.specs.Checked.{Accepted, Checked}
use Rattle.prices.proofs.Passed.{listed, by-lists}

-- ---- a block that passed
module _ (w cap : ℕ) (book : Book) (b : Block) (room : Bool) (none : search_refusal w (window_for cap (covered b)) book b room ≡ 0) where
  pub accepted : 0 < cap → Accepted (window_for cap (covered b)) book b
  accepted some =
      let s = searched w _ book b room none in
      record { book_passed = s.0; passed = passed w cap b some s.1.0 }

  -- .. by the book's lists
  pub accepted-listed : 0 < cap → Accepted (window_for cap (covered b)) (listed book) b
  accepted-listed some = subst (λ (k : Book). Accepted (window_for cap (covered b)) k b) (by-lists book (searched w _ book b room none).0) (accepted some)

  -- .. by the book that was checked
  pub accepted-checked : {checked : Book} → checked ≡ book → 0 < cap → Accepted (window_for cap (covered b)) checked b
  accepted-checked same some = subst⁻¹ (λ (k : Book). Accepted (window_for cap (covered b)) k b) same (accepted some)

  pub accepted-room : room ≡ true
  accepted-room = (searched w _ book b room none).1.1

  pub accepted-width : w ≤ 12
  accepted-width = width_few w (searched-width w _ book b room none)

-- .. and its plan
pub window-of : (cap : ℕ) (b : Block) {v : Window} → v ≡ window_for cap (b.shape.cx * b.shape.cy) → v ≡ window_for cap (covered b)
unfolding covered
window-of cap b e = e

pub checked-of : (cap : ℕ) (b : Block) {book : Book} {p : Plan} → p.window ≡ window_for cap (b.shape.cx * b.shape.cy) → Accepted (window_for cap (covered b)) book b → Planned b p → Checked book b p
checked-of cap b e a planned =
    record { book_passed = a.book_passed; passed = subst⁻¹ (λ (v : Window). Passed v b) (window-of cap b e) a.passed; planned = planned }

-- ---- room

-- check 14
pub room_of : (bytes floats window choices row_a row_b : ℕ) → enough_room bytes floats window choices row_a row_b ≡ true → (floats ≤ row_a) × ((floats ≤ row_b) × (bytes * window ≤ choices))
unfolding enough_room
room_of n m w c a b e =
    let both = and_left (leb (n * w) c && leb m a) (leb m b) e in (
      leb→le m a (rw (and_right (leb (n * w) c) (leb m a) both) tt),
      (leb→le m b (rw (and_right (leb (n * w) c && leb m a) (leb m b) e) tt), leb→le (n * w) c (rw (and_left (leb (n * w) c) (leb m a) both) tt)),
    )

both : (t : Bool) → (t && true && true) ≡ t
both true = refl
both false = refl

-- a search that asks for no row
pub no_rows : (bytes window choices row_a row_b : ℕ) → enough_room bytes 0 window choices row_a row_b ≡ leb (bytes * window) choices
unfolding enough_room
no_rows n w c a b = rw (leb-zero a, leb-zero b) (both (leb (n * w) c))

-- the answer of check 14
pub room-answer : (v : Window) (bytes floats choices row_a row_b : ℕ) {x : Window} {r t : Bool} → x ≡ v → r ≡ enough_room bytes floats x.length choices row_a row_b → r ≡ t
    → cond {A = ℕ} t 0 14 ≡ cond {A = ℕ} (enough_room bytes floats v.length choices row_a row_b) 0 14
room-answer v bytes floats choices row_a row_b e g h =
    ap (λ (q : Bool). cond {A = ℕ} q 0 14) (sym h ∙ g ∙ ap (λ (y : Window). enough_room bytes floats y.length choices row_a row_b) e)
