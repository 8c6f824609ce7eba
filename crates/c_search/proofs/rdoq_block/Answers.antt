use mathlib.Core.Path.{◌≡◌, refl, ◌∙◌, subst⁻¹}
use Prim.Native.Nat.{ℕ}
use lib.Ieee.{Float}
use Rattle.std.proofs.Common.{rules}
use Rattle.block.specs.Block.{Block}
use Rattle.block.specs.Outcome.{Lent}
use Rattle.prices.specs.Book.{Book}
use Rattle.rooms.proofs.Given.{given_back}
use Rattle.searches.proofs.Numbers.{named, not-named}
use Rattle.c_named.specs.Named.{named_reply, reply_of}
use Rattle.c_named.proofs.Telling.{told-block, told-keeps, told-demanded}
use Rattle.c_search.specs.Search.{Promised}
use Rattle.c_search.proofs.rdoq_block.Goals as goal

pub returns-in-Err : goal.returns-in-Err
unfolding named_reply
returns-in-Err c =
    let none = not-named _ c.in-Err.ensures in
    record { reply = rw (none.0, c.number.ensures ∙ none.1.0) refl; demanded = λ few. absurd (none.1.1 few); keeps = λ refused. refl }

-- what is promised of the room is promised of the buffers that it was made of
of-buffers : {search w : ℕ} {book : Book} {b : Block} {before after left : Lent} {cost spent : Float} {count n code : ℕ} → left ≡ after
    → Promised search w book b before cost count (reply_of code spent n after) → Promised search w book b before cost count (reply_of code spent n left)
of-buffers {search} {w} {book} {b} {before} {cost = cost} {spent} {count} {n} {code} e P = subst⁻¹ (λ (l : Lent). Promised search w book b before cost count (reply_of code spent n l)) e P

pub returns : goal.returns
unfolding named_reply
returns c =
    let found = named _ c.in-Ok.ensures in
    let searched = rw (found.1, c.new-view.ensures) at c.rdoq_block-answer.ensures.outcome in
    of-buffers (given_back _ c.rdoq_block-answer.new.room (search rules) (search rules) (search rules))
    (record {
      reply = rw found.0 (told-block _ _ searched.outcome (c.tell_answer.ensures.value, (c.tell_answer.ensures.cost_after, c.tell_answer.ensures.count_after)));
      demanded = λ few. told-demanded _ _ _ _ _ _ searched.outcome searched.demanded;
      keeps = told-keeps _ _ _ c.tell_answer.ensures.value searched.keeps;
    })
