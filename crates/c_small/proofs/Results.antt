-- Each way that the exported call ends meets its contract. Assumes nothing.
use mathlib.Core.Path.{◌≡◌, refl, sym, ◌∙◌}
use mathlib.Core.Bool.{true, false, true≢false}
use Prim.Native.Nat.{ℕ}
use lib.Ieee.{Float}
use Rattle.std.proofs.Common.{Ok, Err}
use Rattle.block.specs.Block.{Block}
use Rattle.block.specs.Outcome.{Lent}
use Rattle.block.specs.Answer.{Answer}
use Rattle.prices.specs.Book.{Book}
use Rattle.refusals.specs.Numbers.{number_of}
use Rattle.refusals.specs.declared.Refusal.{Refusal}
use Rattle.searches.specs.Named.{IsNamed}
use Rattle.searches.specs.declared.Search.{Search}
use Rattle.small.specs.Small as Small
use Rattle.small.specs.Small.{check32}
use Rattle.c_answers.specs.Told.{answer_code, cost_after, count_after}
use Rattle.c_named.specs.Named.{reply_of, named_reply}
use Rattle.searches.proofs.Numbers.{named, not-named}
use Rattle.c_named.proofs.Telling.{told-block, told-keeps, told-demanded}
use Rattle.c_small.specs.Small.{small_reply, Promised}

module _ (search : ℕ) (book : Book) (b : Block) (l : Lent) (cost : Float) (count : ℕ) where
  pub not-small : check32 b ≡ false → Promised search book b l cost count (reply_of 32 cost count l)
  unfolding small_reply
  not-small e = record { reply = rw e; demanded = λ few. absurd (true≢false (sym few ∙ e)); keeps = λ refused. refl }

  pub no-search : check32 b ≡ true → {refusal : Refusal} → IsNamed search (Err refusal) → Promised search book b l cost count (reply_of (number_of refusal) cost count l)
  unfolding small_reply named_reply
  no-search e told =
      let none = not-named search told in
      record { reply = rw (e, none.0, none.1.0) refl; demanded = λ few named. absurd (none.1.1 named); keeps = λ refused. refl }

  pub searched : check32 b ≡ true → {found : Search} → IsNamed search (Ok found) → {answer : Answer} {left back : Lent} {code after : ℕ} {spent : Float}
      → Small.Promised found book b l (record { answer = answer; lent = left })
      → (code ≡ answer_code answer) × ((spent ≡ cost_after answer cost) × (after ≡ count_after answer count)) → l.levels ≡ b.levels
      → back ≡ left → Promised search book b l cost count (reply_of code spent after back)
  unfolding small_reply named_reply
  searched e {found} told {answer} {left} P t own given =
      let which = named search told in
      let Q = rw which.1 at P in
      rw given
      (record {
        reply = rw (e, which.0) (told-block cost count Q.outcome t);
        demanded = λ small few. told-demanded _ _ _ _ _ _ Q.outcome (Q.demanded e);
        keeps = told-keeps answer l.levels left.levels t.0 (λ number k. P.keeps number k ∙ sym own);
      })
