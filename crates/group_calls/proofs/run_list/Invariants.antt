use Rattle.prices.specs.Contents.{contents}
use Rattle.group_block.specs.Lists.{numbers_in, room_in}
use Rattle.rooms.specs.Lending.{SameBuffers}
use Rattle.group_calls.proofs.Looping.{Looping}
use Rattle.group_calls.proofs.run_list.Given as given

abbrev pub invariant-loop-index : given.invariant-loop-index
invariant-loop-index l =
    record {
      same : SameBuffers l.initial.room l.room;
      looping : Looping l.search (contents l.book) l.lists.words.now l.lists.reals.now (numbers_in l.lists l.initial.levels) (room_in l.initial.room) l.index l.at l.levels (room_in l.room) l.cells;
    }
