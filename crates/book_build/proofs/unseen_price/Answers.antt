use Rattle.std.proofs.Common.{sym, ◌∙◌}
use lib.Ieee.{of_bits}
use Rattle.book_build.specs.Prefix.{unseen_price}
use Rattle.book_build.proofs.unseen_price.Goals.{else-strict-via-then-strict+else-is_trained, else-strict-via-else-strict}
use Rattle.book_build.proofs.unseen_price.Goals as goal

pub returns-then-is_trained : goal.returns-then-is_trained
unfolding unseen_price
returns-then-is_trained c = rw (c.if-strict.true, sym c.is_trained.ensures ∙ c.if-is_trained.true) c.infinity.ensures

pub returns-else-strict : goal.returns-else-strict
unfolding unseen_price of_bits
returns-else-strict c =
    elim c.else-strict.branch [
      | else-strict-via-then-strict+else-is_trained w ↦ simp (w.if-strict.true, sym w.is_trained.ensures ∙ w.if-is_trained.false)
      | else-strict-via-else-strict w ↦ simp w.if-strict.false
    ]
