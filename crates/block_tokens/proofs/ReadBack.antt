-- An accepted writing is read back, from the outputs as they stand. Assumes nothing.
use Prim.Native.Nat.{ℕ, ◌*◌}
use mathlib.Core.Path.{◌≡◌, ◌∙◌}
use mathlib.Core.List.{List, map}
use borrow.Author.Tests.{eq-eqb}
use lib.IntN.{ℤ}
use lib.ListN.{length, take, length-map}
use Rattle.scan.specs.Scan.{put}
use Rattle.block_tokens.specs.Reply.{Tokens}
use Rattle.block_tokens.specs.Tokens.{Token, covered_by, block_tokens, coded_levels}
use Rattle.block_tokens.specs.Code.{Code, code_in, symbol_in, bits_in}
use Rattle.block_tokens.specs.Writing.{Outputs, written, wrote}
use Rattle.block_tokens.specs.Outcome.{Given, lent_refusal, write_outcome, read_as, read_result, read_outcome}
use Rattle.block_tokens.specs.Passed.{Passed}
use Rattle.block_tokens.specs.Promise.{ReadBack}
use Rattle.block_tokens.proofs.Passed.{codes-within, covered-most, passed}
use Rattle.block_tokens.proofs.RoundTrip.{written-reads}
use Rattle.block_tokens.proofs.Through.{coded-put, first-kept}
use Rattle.block_tokens.proofs.Accepted.{coded-length, write-not-refused, Wrote, wrote-all, lent_same, front}

module _ (g : Given) (levels : List ℤ) (o : Outputs) (n : ℕ) (e : (write_outcome g levels o).reply ≡ Tokens n) where
  abbrev qs : List ℤ
  qs = coded_levels g.shape g.scan levels

  abbrev ts : List Token
  ts = block_tokens g.shape qs

  abbrev x : Code
  x = code_in g.coding

  lent_ok : lent_refusal g levels ≡ 0
  unfolding write_outcome
  lent_ok = write-not-refused (lent_refusal g levels) _ o n e

  accepted : Wrote x g.shape qs o n
  unfolding write_outcome
  accepted = wrote-all x g.shape qs o n (rw (eq-eqb _ 0 lent_ok) at e)

  after_is : write_outcome g levels o ≡ wrote (Tokens n) (written x ts o)
  unfolding write_outcome
  after_is = rw (eq-eqb _ 0 lent_ok) accepted.same

  symbols-are : take n (write_outcome g levels o).outputs.symbols ≡ map (symbol_in x) ts
  unfolding written
  symbols-are = rw after_is (front (symbol_in x) ts o.symbols n accepted.number)

  bits_are : take n (write_outcome g levels o).outputs.bits ≡ map (bits_in x) ts
  unfolding written
  bits_are = rw after_is (front (bits_in x) ts o.bits n accepted.number)

  module _ (old : List ℤ) (sized : length old ≡ length levels) where
    read-lent : lent_refusal g old ≡ 0
    read-lent = lent_same g old levels sized ∙ lent_ok

    known : Passed g old
    known = passed g old read-lent

    read : read_outcome g (map (symbol_in x) ts) (map (bits_in x) ts) old ≡ read_as (Tokens n) (put g.scan qs (covered_by g.shape) (63 * covered_by g.shape) old)
    unfolding read_outcome read_result
    read =
        let back = written-reads (codes-within known.codes) g.shape (covered-most known.shaped) qs
        (record { long = coded-length g.shape g.scan levels; small = accepted.small; few = accepted.few })
        in
        rw (eq-eqb _ 0 read-lent, back, length-map ts (symbol_in x), accepted.number)

    pub read_back : ReadBack g levels (take n (write_outcome g levels o).outputs.symbols) (take n (write_outcome g levels o).outputs.bits) n old
    read_back =
        let long = coded-length g.shape g.scan levels in
        rw (symbols-are, bits_are)
        (record {
          reply = rw read;
          coded = rw read (coded-put g.shape g.scan old known.scanned qs long);
          first = λ k l. rw read (first-kept g.shape g.scan old known.scanned qs long k l);
        })
