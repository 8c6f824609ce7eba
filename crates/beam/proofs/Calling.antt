-- The whole call: each way it ends is the defined outcome. Assumes nothing.
use mathlib.Core.Path.{◌≡◌, ap, ◌∙◌, subst}
use mathlib.Core.List.{List}
use Prim.Native.Nat.{ℕ, ◌*◌, ◌≤◌}
use borrow.Author.Tests.{eq-eqb, ne_eqb}
use lib.IntN.{ℤ}
use lib.ListN.{length, replicate}
use Rattle.block.specs.Block.{Block, covered}
use Rattle.block.specs.Checks.{search_refusal, enough_room}
use Rattle.block.specs.Answer.{Answer}
use Rattle.block.specs.Answer.{Refused}
use Rattle.prices.specs.Book.{Book}
use Rattle.search_checks.proofs.Checked.{own-lists}
use Rattle.search_checks.proofs.Refusing.{no_rows}
use Rattle.search_checks.specs.Checked.{Checked, Searched}
use Rattle.steps.specs.declared.plan.Plan.{Plan}
use Rattle.weights.specs.Window.{window_for}
use Rattle.weights.specs.declared.Window.{Window}
use Rattle.weights.proofs.Lengths.{whole-window}
use Rattle.beam.specs.Beam.{Outcome, answered, written, refusal, outcome_of, searched_outcome, beam_outcome}
use Rattle.beam.specs.Demand.{PromisedIn, Promised}

pub own-answer : {v : Window} {book : Book} (b : Block) {p : Plan} → Checked book b p → p.window ≡ v → {answer : Answer} {after : List ℤ}
    → ((s : Searched book b.scan b.source b.inverse b.levels p) → (answer ≡ answered p.window book s.block) × (after ≡ written p.window book s.block))
    → (answer ≡ answered v book b) × (after ≡ written v book b)
own-answer {v} {book} b K e {answer} {after} f = rw e at (f (record { block = b; lists = own-lists b; checked = K }))

-- refused by a check
pub refused-beam : (w : ℕ) (v : Window) (book : Book) (b : Block) (choices : List ℕ) {n : ℕ} → n ≡ refusal w v book b choices → (n ≡ 0 → ⊥) → outcome_of (Refused n) b.levels choices ≡ beam_outcome w v book b choices
unfolding beam_outcome
refused-beam w v book b choices e some = rw (ne_eqb _ 0 (λ z. some (e ∙ z))) (ap (λ (m : ℕ). outcome_of (Refused m) b.levels choices) e)

-- let pass, and searched
pub searched-beam : (v : Window) (book : Book) (b : Block) (choices : List ℕ) {answer : Answer} {after : List ℤ} {bytes : List ℕ} {m : ℕ}
    → (answer ≡ answered v book b) × (after ≡ written v book b) → bytes ≡ replicate m 255 → m ≡ length choices → outcome_of answer after bytes ≡ searched_outcome v book b choices
unfolding searched_outcome
searched-beam v book b choices a c n = rw (a.0, a.1, c, n)

-- a call whose checks pass answers as the search of the checked book does
pub let-pass : (w : ℕ) (v : Window) (book : Book) (b : Block) (choices : List ℕ) → refusal w v book b choices ≡ 0 → {checked : Book} → checked ≡ book → {after : Outcome} → after ≡ searched_outcome v checked b choices → after ≡ beam_outcome w v book b choices
unfolding beam_outcome
let-pass w v book b choices none same e = rw (eq-eqb (refusal w v book b choices) 0 none) (e ∙ ap (λ (k : Book). searched_outcome v k b choices) same)

pub by-check : (w : ℕ) (v : Window) (book : Book) (b : Block) (choices : List ℕ) {n : ℕ} → n ≡ search_refusal w v book b (enough_room 6 0 v.length (length choices) 0 0) → n ≡ refusal w v book b choices
unfolding refusal
by-check w v book b choices e = e ∙ ap (search_refusal w v book b) (no_rows 6 v.length (length choices) 0 0)

pub room-kept : {v x : Window} {n : ℕ} → x ≡ v → 6 * v.length ≤ n → 6 * x.length ≤ n
room-kept e h = rw e h

-- document 01's window
pub whole : {w : ℕ} {book : Book} {b : Block} {choices : List ℕ} {r : Outcome} → PromisedIn w (window_for 1024 (covered b)) book b choices r → Promised w book b choices r
whole {w} {book} {b} {choices} {r} P = subst (λ (v : Window). PromisedIn w v book b choices r) (whole-window (covered b)) P
