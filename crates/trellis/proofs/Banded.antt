-- The whole call: each way it ends is the defined outcome. Assumes nothing.
use mathlib.Core.Path.{◌≡◌, ap, ◌∙◌, subst, subst⁻¹}
use mathlib.Core.Bool.{true, false}
use mathlib.Core.List.{List}
use Prim.Native.Nat.{ℕ, ◌*◌, ◌≤◌}
use borrow.Author.Tests.{eq-eqb, ne_eqb}
use lib.IntN.{ℤ}
use lib.ListN.{length, replicate}
use lib.Ieee.{Float, inf}
use Rattle.block.specs.Block.{Block, covered}
use Rattle.block.specs.Checks.{choice_bytes, states, search_refusal, enough_room}
use Rattle.block.specs.Outcome.{Lent, Result, cleared, refused, result_of}
use Rattle.block.specs.Answer.{Answer}
use Rattle.block_checks.specs.declared.Asked.{Asked}
use Rattle.block_checks.specs.declared.RoomLengths.{RoomLengths}
use Rattle.prices.specs.Book.{Book}
use Rattle.search_checks.proofs.Checked.{searched-of}
use Rattle.search_checks.specs.Checked.{Checked}
use Rattle.search_checks.proofs.Refusing.{room_of}
use Rattle.steps.specs.declared.plan.Plan.{Plan}
use Rattle.weights.specs.Window.{window_for}
use Rattle.weights.specs.declared.Window.{Window}
use Rattle.weights.proofs.Lengths.{whole-window}
use Rattle.trellis.specs.Walk.{Roomy, FoundIn, Done}
use Rattle.trellis.specs.Outcome.{answered, written, searched_outcome, refusal, banded_outcome}
use Rattle.trellis.specs.declared.search.Found.{Found}
use Rattle.trellis.specs.Demand.{PromisedIn, Promised}

module _ (w : ℕ) (v : Window) (book : Book) (b : Block) (l : Lent) where
  -- refused by a check
  pub refused-banded : {n : ℕ} → n ≡ refusal w v book b l → (n ≡ 0 → ⊥) → refused n l ≡ banded_outcome w v book b l
  unfolding banded_outcome
  refused-banded e some = rw (ne_eqb _ 0 (λ z. some (e ∙ z))) (ap (λ (m : ℕ). refused m l) e)

  -- a call whose checks pass answers as the search of the checked book does
  pub let-pass : refusal w v book b l ≡ 0 → {checked : Book} → checked ≡ book → {after : Result} → after ≡ searched_outcome w v checked b l → after ≡ banded_outcome w v book b l
  unfolding banded_outcome
  let-pass none same e = rw (eq-eqb (refusal w v book b l) 0 none) (e ∙ ap (λ (k : Book). searched_outcome w v k b l) same)

  -- let pass, and searched
  pub searched-banded : {answer : Answer} {levels : List ℤ} {choices : List ℕ} {row_a row_b : List Float} {m n k : ℕ}
      → (answer ≡ answered w v book b) × (levels ≡ written w v book b) → choices ≡ replicate m 255 → m ≡ length l.choices → row_a ≡ replicate n (inf false) → n ≡ length l.row_a
      → row_b ≡ replicate k (inf false) → k ≡ length l.row_b → result_of answer levels choices row_a row_b ≡ searched_outcome w v book b l
  unfolding searched_outcome cleared
  searched-banded a c cm r rn s sk = rw (a.0, a.1, c, cm, r, rn, s, sk)

  pub by-check : {a : Asked} → a ≡ record { bytes = choice_bytes w; floats = states w } → {r : RoomLengths} → r ≡ record { choices = length l.choices; row_a = length l.row_a; row_b = length l.row_b }
      → {n : ℕ} → n ≡ search_refusal w v book b (enough_room a.bytes a.floats v.length r.choices r.row_a r.row_b) → n ≡ refusal w v book b l
  unfolding refusal
  by-check e k f = rw (e, k) at f

-- check 14
pub roomy_of : (w : ℕ) (v : Window) (choices : List ℕ) (row_a row_b : List Float) {a : Asked} → a ≡ record { bytes = choice_bytes w; floats = states w } → {r : RoomLengths}
    → r ≡ record { choices = length choices; row_a = length row_a; row_b = length row_b } → enough_room a.bytes a.floats v.length r.choices r.row_a r.row_b ≡ true → Roomy w v choices row_a row_b
roomy_of w v choices row_a row_b e k held =
    let r = room_of (choice_bytes w) (states w) v.length (length choices) (length row_a) (length row_b) (rw (e, k) at held) in
    record { first = r.0; second = r.1.0; choices_long = r.1.1 }

pub room-kept : {w : ℕ} {v x : Window} {choices : List ℕ} {row_a row_b : List Float} → x ≡ v → Roomy w v choices row_a row_b → Roomy w x choices row_a row_b
room-kept {w} {v} {x} {choices} {row_a} {row_b} e R = subst⁻¹ (λ (y : Window). Roomy w y choices row_a row_b) e R

-- document 01's window
pub whole : {w : ℕ} {book : Book} {b : Block} {l : Lent} {r : Result} → PromisedIn w (window_for 1024 (covered b)) book b l r → Promised w book b l r
whole {w} {book} {b} {l} {r} P = subst (λ (v : Window). PromisedIn w v book b l r) (whole-window (covered b)) P

-- the search that is done is the block's
module _ {hw : ℕ} {book : Book} {b : Block} {p : Plan} (narrow : hw ≤ 12) (K : Checked book b p) {choices : List ℕ} {f : Found} (F : FoundIn hw p.window book b choices f) (long : choice_bytes hw * p.window.length ≤ length choices) where
  pub done-of : Done hw b.scan b.source b.inverse b.levels p choices f
  done-of = record { narrow = narrow; book = book; searched = searched-of b K; found = F; room = long }

  pub done-answer : {answer : Answer} {levels : List ℤ}
      → ((d : Done hw b.scan b.source b.inverse b.levels p choices f) → (answer ≡ answered hw p.window d.book d.searched.block) × (levels ≡ written hw p.window d.book d.searched.block))
      → (answer ≡ answered hw p.window book b) × (levels ≡ written hw p.window book b)
  unfolding done-of
  done-answer e = e done-of

pub windowed-answer : (hw : ℕ) (book : Book) (b : Block) {v x : Window} {answer : Answer} {levels : List ℤ} → x ≡ v → (answer ≡ answered hw x book b) × (levels ≡ written hw x book b)
    → (answer ≡ answered hw v book b) × (levels ≡ written hw v book b)
windowed-answer hw book b e a = rw e at a
