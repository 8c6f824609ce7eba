use Rattle.std.proofs.Common.{◌≤◌, length, sym, ◌∙◌, arith}
use borrow.Author.Tests.{le-leb}
use Rattle.block_tokens.proofs.Accepted.{tokens-most, coded-length}
use Rattle.token_steps.specs.Steps.{levels_in, tokens_in}
use Rattle.token_write.proofs.has_room.Goals as goal

pub returns-then-coded-room : goal.returns-then-coded-room
returns-then-coded-room c =
    let d = c.args.coded.now in
    let few = tokens-most d.layout.shape (levels_in d) (coded-length d.layout.shape d.scan.now d.levels.now) in
    let fits : length (tokens_in d) ≤ c.args.room = omega (arith, few, d.layout.laid.covered_is, c.if-coded-room.true) in
    le-leb _ _ c.if-coded-room.true ∙ sym (le-leb _ _ fits)
