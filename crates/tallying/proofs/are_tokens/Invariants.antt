use Rattle.std.proofs.Common.{◌≡◌, ◌*◌, min, length, true}
use Rattle.prices.specs.Checks.{each}
use Rattle.tallying.specs.Uses.{tokens_of}
use Rattle.tallying.proofs.Checks.{is_token}
use Rattle.tallying.proofs.are_tokens.Given as given

abbrev pub invariant-loop-piece : given.invariant-loop-piece
invariant-loop-piece l = each (min (l.piece * 64) (length l.contexts)) (is_token (tokens_of l.contexts l.values)) ≡ true
