-- What an answer told says of the search's outcome and of the levels. Assumes nothing.
use mathlib.Core.Path.{◌≡◌, refl, ap, subst}
use mathlib.Core.List.{List}
use Prim.Native.Nat.{ℕ}
use lib.IntN.{ℤ}
use lib.Ieee.{Float}
use Rattle.block.specs.Block.{Block}
use Rattle.block.specs.Outcome.{Lent, Result}
use Rattle.block.specs.Answer.{Answer}
use Rattle.block.specs.Answer.{Cost, Count, Refused}
use Rattle.prices.specs.Book.{Book}
use Rattle.searches.specs.Outcome.{Demanded}
use Rattle.searches.specs.declared.Search.{Search}
use Rattle.weights.specs.declared.Window.{Window}
use Rattle.c_answers.specs.Told.{answer_code, cost_after, count_after}
use Rattle.c_named.specs.Named.{reply_of, told}

module _ (old_cost : Float) (old_count : ℕ) where
  pub told-block : {answer : Answer} {lent : Lent} {outcome : Result} {code count : ℕ} {cost : Float} → record { answer = answer; lent = lent } ≡ outcome
      → (code ≡ answer_code answer) × ((cost ≡ cost_after answer old_cost) × (count ≡ count_after answer old_count))
      → reply_of code cost count lent ≡ told outcome old_cost old_count
  unfolding told
  told-block e t = rw (t.0, t.1.0, t.1.1) (ap (λ (o : Result). told o old_cost old_count) e)

pub told-keeps : (answer : Answer) (before after : List ℤ) {code : ℕ} → code ≡ answer_code answer → ((number : ℕ) → answer ≡ Refused number → after ≡ before) → (code ≡ 0 → ⊥) → after ≡ before
unfolding answer_code
told-keeps (Cost cost count) before after e keeps refused = absurd (refused e)
told-keeps (Count count) before after e keeps refused = absurd (refused e)
told-keeps (Refused number) before after e keeps refused = keeps number refl

-- what is demanded of an answer holds of the outcome's
pub told-demanded : (w : ℕ) (v : Window) (s : Search) (book : Book) (b : Block) (l : Lent) {answer : Answer} {left : Lent} {outcome : Result} → record { answer = answer; lent = left } ≡ outcome
    → Demanded w v s book b l (record { answer = answer; lent = left }) → Demanded w v s book b l (record { answer = outcome.answer; lent = left })
told-demanded w v s book b l {answer} {left} e d = subst (λ (r : Answer). Demanded w v s book b l (record { answer = r; lent = left })) (ap (λ (r : Result). r.answer) e) d
