use mathlib.Core.Path.{◌≡◌, refl, sym}
use mathlib.Core.Bool.{true≢false}
use Rattle.std.proofs.Common.{Err, arith}
use Rattle.block.specs.Block as Block
use Rattle.group_list.specs.Heads.{head_at, covered}
use Rattle.group_run.specs.Block.{lent_with, settles}
use Rattle.prices.specs.Contents.{contents}
use Rattle.group_block.specs.Lists.{head_in, numbers_in, room_in}
use Rattle.group_block.specs.Part.{part, block_from}
use Rattle.group_block.proofs.Parts.{count-few, count-picked, found-next}
use Rattle.group_block.proofs.settle_part.Goals as goal

pub predicted_at-predicted-requires : goal.predicted_at-predicted-requires
predicted_at-predicted-requires c =
    (c.requires.listed.0, (c.requires.listed.1.0, c.requires.cells_len))

pub returns-in_err-picked-clause-stepped : goal.returns-in_err-picked-clause-stepped
unfolding head_at covered settles
returns-in_err-picked-clause-stepped c =
    let a = c.args in
    let lists = a.lists.now in
    let told : c.from_residual.result ≡ Err c.in_err-picked.field-0.0 = grind arith in
    rw told
    (record {
      found = λ done k. found-next a.search (contents a.book.now) (head_in lists a.part.index) (numbers_in lists a.levels.now) a.part.at a.part.n _ a.levels.now (room_in a.room.now) done c.in_err-picked.ensures.outcome c.requires.n_is_size (c.predicted_at-predicted.ensures lists.reals.now done k);
      wrote = λ done k t. absurd (true≢false (sym t));
    })

pub write_count-requires : goal.write_count-requires
unfolding head_at covered Block.covered
write_count-requires c =
    let a = c.args in
    let lists = a.lists.now in
    let h = head_in lists a.part.index in
    record {
      i_bound = (c.requires.listed.0, (c.requires.listed.1.0, c.requires.cells_len));
      count_bound =
          rw (← count-picked c.in_ok-picked.picked)
          (count-few h.half_width a.search (contents a.book.now) (block_from h (numbers_in lists a.levels.now) a.part.at a.part.n _ a.levels.now) (lent_with (part a.part.at a.part.n a.levels.now) (room_in a.room.now)) refl a.part.at a.part.n a.levels.now c.in_ok-picked.ensures.outcome);
    }

pub returns-clause-stepped : goal.returns-clause-stepped
unfolding head_at covered
returns-clause-stepped c =
    let a = c.args in
    let lists = a.lists.now in
    record {
      found = λ done k. found-next a.search (contents a.book.now) (head_in lists a.part.index) (numbers_in lists a.levels.now) a.part.at a.part.n _ a.levels.now (room_in a.room.now) done c.in_ok-picked.ensures.outcome c.requires.n_is_size (c.predicted_at-predicted.ensures lists.reals.now done k);
      wrote = λ done k t. rw (count-picked c.in_ok-picked.picked) (c.write_count.ensures lists.reals.now done k);
    }
