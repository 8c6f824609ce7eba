-- A call's answer is its outcome's. Assumes nothing.
use Prim.Native.Nat.{ℕ}
use mathlib.Core.Path.{◌≡◌}
use mathlib.Core.List.{List}
use borrow.Author.Tests.{eq-eqb, ne_eqb}
use lib.IntN.{ℤ}
use lib.ListN.{length}
use Rattle.block_tokens.specs.Reply.{Refused}
use Rattle.block_tokens.specs.Tokens.{coded_levels}
use Rattle.block_tokens.specs.Code.{code_in}
use Rattle.block_tokens.specs.Writing.{Outputs, WriteResult, wrote, write_result}
use Rattle.block_tokens.specs.Reading.{read_tokens}
use Rattle.block_tokens.specs.Outcome.{Given, lent_refusal, write_outcome, ReadResult, read_as, read_result, read_outcome}
use Rattle.coding.specs.Coding.{Coded}
use Rattle.block_tokens.specs.Passed.{Passed}

-- a code that passed
pub coded : {g : Given} {levels : List ℤ} → Passed g levels → Coded g.coding.map g.coding.configs
coded {g} p = record { clusters = g.coding.clusters; codes = p.codes }

module _ (g : Given) (levels : List ℤ) {n : ℕ} (e : n ≡ lent_refusal g levels) where
  module _ (some : n ≡ 0 → ⊥) where
    pub write-refused : (o : Outputs) → wrote (Refused n) o ≡ write_outcome g levels o
    unfolding write_outcome
    write-refused o = rw (← e, ne_eqb n 0 some)

    pub read-refused : (symbols bits : List ℕ) → read_as (Refused n) levels ≡ read_outcome g symbols bits levels
    unfolding read_outcome
    read-refused symbols bits = rw (← e, ne_eqb n 0 some)

module _ (g : Given) (levels : List ℤ) (none : lent_refusal g levels ≡ 0) where
  pub written : (o : Outputs) (r : WriteResult) → r ≡ write_result (code_in g.coding) g.shape (coded_levels g.shape g.scan levels) o → r ≡ write_outcome g levels o
  unfolding write_outcome
  written o r d = rw (eq-eqb _ 0 none) d

  pub read : (symbols bits : List ℕ) (r : ReadResult) → r ≡ read_result g.shape g.scan (length symbols) levels (read_tokens (code_in g.coding) g.shape symbols bits)
      → r ≡ read_outcome g symbols bits levels
  unfolding read_outcome
  read symbols bits r d = rw (eq-eqb _ 0 none) d
