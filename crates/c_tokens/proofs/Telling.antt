-- An answer that keeps a promise is told. Assumes nothing.
use Rattle.std.proofs.Common.{◌≡◌, ℕ, List, Result, Ok, Err, refl, sym, ap, ◌∙◌}
use lib.IntN.{ℤ}
use Rattle.block_tokens.specs.Outcome.{Given, ReadResult}
use Rattle.block_tokens.specs.Promise.{Write, Read}
use Rattle.block_tokens.specs.Reply.{reply_of}
use Rattle.block_tokens.specs.Writing.{Outputs, WriteResult}
use Rattle.block_tokens.proofs.Numbered.{write-numbered, read-numbered}
use Rattle.c_answers.specs.Told as Answers
use Rattle.c_tokens.specs.Told.{Told, reply_code, count_after}
use Rattle.refusals.specs.Numbers.{code_of}
use Rattle.refusals.specs.declared.Refusal.{Refusal}

same-code : (answer : Result ℕ Refusal) → code_of answer ≡ reply_code (reply_of answer)
unfolding reply_code
same-code (Ok tokens) = refl
same-code (Err refusal) = refl

same-count : (answer : Result ℕ Refusal) (before : ℕ) → Answers.after answer before ≡ count_after (reply_of answer) before
unfolding Answers.after count_after
same-count (Ok tokens) before = refl
same-count (Err refusal) before = refl

module _ (answer : Result ℕ Refusal) {before code count : ℕ} (c : code ≡ code_of answer) (n : count ≡ Answers.after answer before) where
  pub write-told : {g : Given} {levels : List ℤ} {o after : Outputs} → Write g levels o (reply_of answer) after → Told (λ r. Write g levels o r after) before code count
  write-told {g} {levels} {o} p =
      record {
        reply = reply_of answer;
        promised = p;
        code_is = c ∙ same-code answer;
        count_is = n ∙ same-count answer before;
        numbered = λ e. write-numbered g levels o (sym (ap (λ (r : WriteResult). r.reply) p.settled) ∙ e);
      }

  pub read_told : {g : Given} {symbols bits : List ℕ} {levels after : List ℤ} → Read g symbols bits levels (reply_of answer) after → Told (λ r. Read g symbols bits levels r after) before code count
  read_told {g} {symbols} {bits} {levels} p =
      record {
        reply = reply_of answer;
        promised = p;
        code_is = c ∙ same-code answer;
        count_is = n ∙ same-count answer before;
        numbered = λ e. read-numbered g symbols bits levels (sym (ap (λ (r : ReadResult). r.reply) p.settled) ∙ e);
      }
