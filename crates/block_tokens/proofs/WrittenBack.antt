-- An accepted reading is written again. Assumes nothing.
use Prim.Native.Nat.{ℕ, ◌*◌}
use mathlib.Core.Path.{◌≡◌, refl, sym, ap, ◌∙◌}
use mathlib.Core.Bool.{true}
use mathlib.Core.List.{List, map}
use native.Mathlib.Omega.{arith}
use borrow.Author.Tests.{eq-eqb}
use lib.IntN.{ℤ}
use lib.ListN.{length, length-map}
use Rattle.block.specs.declared.Shape.{Shape}
use Rattle.laws.specs.Refusals.{first_refused}
use Rattle.scan.specs.Scan.{put}
use Rattle.scan.proofs.Through.{put-length}
use Rattle.block_tokens.specs.Reply.{Tokens}
use Rattle.block_tokens.specs.Tokens.{Token, covered_by, block_tokens}
use Rattle.block_tokens.specs.Code.{Code, code_in, symbol_in, bits_in}
use Rattle.block_tokens.specs.Writing.{Outputs, written, room_for, write_checks, wrote, write_result}
use Rattle.block_tokens.specs.Reading.{Reading, read_tokens}
use Rattle.block_tokens.specs.Outcome.{Given, lent_refusal, write_outcome, read_result, read_outcome}
use Rattle.block_tokens.specs.Passed.{Passed}
use Rattle.block_tokens.specs.Promise.{WrittenBack}
use Rattle.block_tokens.proofs.Passed.{codes-within, covered-most, passed}
use Rattle.block_tokens.proofs.RoundTrip.{Writable, read-writes}
use Rattle.block_tokens.proofs.Through.{coded-put}
use Rattle.block_tokens.proofs.Accepted.{read-not-refused, lent_same, front}

-- what an accepted reading says
record Taken (r : Reading) (h : Shape) (scan : List ℕ) (count n : ℕ) (levels : List ℤ) : Type 0 where
  qs : List ℤ
  read : r ≡ Reading.Levels qs
  number : n ≡ count
  after : (read_result h scan count levels r).levels ≡ put scan qs (covered_by h) (63 * covered_by h) levels

taken : (r : Reading) (h : Shape) (scan : List ℕ) (count n : ℕ) (levels : List ℤ) → (read_result h scan count levels r).reply ≡ Tokens n → Taken r h scan count n levels
unfolding read_result
taken (Reading.Levels qs) h scan count n levels e = record { qs = qs; read = refl; number = cc; after = refl }
taken (Reading.Refused m) h scan count n levels e = let z : ◌≡◌ {A = ℕ} 0 1 = cc in absurd (omega arith)

module _ (g : Given) (symbols bits : List ℕ) (levels : List ℤ) (n : ℕ) (e : (read_outcome g symbols bits levels).reply ≡ Tokens n) where
  abbrev x : Code
  x = code_in g.coding

  lent_ok : lent_refusal g levels ≡ 0
  unfolding read_outcome
  lent_ok = read-not-refused (lent_refusal g levels) _ levels n e

  known : Passed g levels
  known = passed g levels lent_ok

  accepted : Taken (read_tokens x g.shape symbols bits) g.shape g.scan (length symbols) n levels
  unfolding read_outcome
  accepted = taken _ g.shape g.scan (length symbols) n levels (rw (eq-eqb _ 0 lent_ok) at e)

  abbrev qs : List ℤ
  qs = accepted.qs

  abbrev ts : List Token
  ts = block_tokens g.shape qs

  abbrev after : List ℤ
  after = put g.scan qs (covered_by g.shape) (63 * covered_by g.shape) levels

  after_is : (read_outcome g symbols bits levels).levels ≡ after
  unfolding read_outcome
  after_is = rw (eq-eqb _ 0 lent_ok) accepted.after

  again : Writable x g.shape qs × ((map (symbol_in x) ts ≡ symbols) × (map (bits_in x) ts ≡ bits))
  again =
      let r = read-writes (codes-within known.codes) g.shape (covered-most known.shaped) symbols bits qs accepted.read in
      (r.writable, (r.same-symbols, r.same_bits))

  number : n ≡ length ts
  number = accepted.number ∙ sym (ap length again.1.0) ∙ length-map ts (symbol_in x)

  module _ (o : Outputs) (room : room_for n o ≡ true) where
    rewritten : write_outcome g after o ≡ wrote (Tokens n) (written x ts o)
    unfolding write_outcome write_result write_checks first_refused
    rewritten =
        let lent : lent_refusal g after ≡ 0 = lent_same g after levels (put-length g.scan qs _ _ levels) ∙ lent_ok in
        let coded = coded-put g.shape g.scan levels known.scanned qs again.0.long in
        rw (eq-eqb _ 0 lent, coded, again.0.small, again.0.few, ← number, room)

    pub written_back : WrittenBack g (read_outcome g symbols bits levels).levels symbols bits n o
    unfolding written
    written_back =
        rw after_is
        (record {
          reply = rw rewritten;
          symbols_same = rw rewritten (front (symbol_in x) ts o.symbols n number ∙ again.1.0);
          bits_same = rw rewritten (front (bits_in x) ts o.bits n number ∙ again.1.1);
        })
