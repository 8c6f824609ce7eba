-- What the first pass tells, and what the call answers by it. Assumes nothing.
use Prim.Native.Nat.{ℕ, ◌+◌, ◌-◌, ◌*◌, ◌≤◌}
use mathlib.Core.Path.{◌≡◌, refl, sym, ap, ap₂, ◌∙◌}
use mathlib.Core.List.{List, []}
use native.Mathlib.Omega.{arith}
use lib.IntN.{ℤ}
use lib.ListN.{length, length-map}
use Rattle.block.specs.declared.Shape.{Shape}
use Rattle.coding.specs.Coding as Coding
use Rattle.scan.specs.Scan.{put}
use Rattle.block_tokens.specs.Tokens.{covered_by, block_tokens}
use Rattle.block_tokens.specs.Code.{Code, code_of, symbol_in}
use Rattle.block_tokens.specs.Outcome.{read_as, read_result}
use Rattle.block_tokens.specs.Passed.{Shaped, Scanned}
use Rattle.block_tokens.specs.Reading.{Reading, Levels, Refused, read_tokens}
use Rattle.block_tokens.specs.Reply as Reply
use Rattle.block_tokens.proofs.Accepted.{tokens-most}
use Rattle.block_tokens.proofs.Numbered.{Numbered, tokens-told}
use Rattle.block_tokens.proofs.Passed.{codes-within, covered-most}
use Rattle.block_tokens.proofs.RoundTrip.{read-writes}
use Rattle.token_read.specs.Passes.{refusal_of, Accepted, Restored}
use Rattle.token_read.proofs.Restoring.{put-zeros}

-- Where it refuses nothing there are levels, since no reading is refused by 0.
pub accepted : (x : Code) (h : Shape) (symbols bits : List ℕ) → 0 ≡ refusal_of (read_tokens x h symbols bits) → Accepted x h symbols bits
unfolding refusal_of
accepted x h symbols bits e = go (read_tokens x h symbols bits) refl (tokens-told x h symbols bits) e
  where
    go : (r : Reading) → read_tokens x h symbols bits ≡ r → Numbered r → 0 ≡ refusal_of r → Accepted x h symbols bits
    go (Levels qs) d n f = record { levels = qs; read = d }
    go (Refused m) d n f = absurd (n.some (rw f))

-- Any other number is the refusal's.
pub refused : (h : Shape) (scan : List ℕ) (count : ℕ) (levels : List ℤ) (r : Reading) {n : ℕ} → n ≡ refusal_of r → (n ≡ 0 → ⊥) → read_as (Reply.Refused n) levels ≡ read_result h scan count levels r
unfolding refusal_of read_result
refused h scan count levels (Levels qs) e some = absurd (some e)
refused h scan count levels (Refused m) e some = rw e

-- as many pairs as the block has tokens
pub pairs-few : {map configs : List ℕ} (k : Coding.Coded map configs) {h : Shape} {symbols bits : List ℕ} → Shaped h → Accepted (code_of map configs) h symbols bits → length symbols ≤ 64513
pairs-few {map} {configs} k {h} {symbols} {bits} shaped ok =
    let most = covered-most shaped in
    let r = read-writes (codes-within k.codes) h most symbols bits ok.levels ok.read in
    let number : length symbols ≡ length (block_tokens h ok.levels) = sym (ap length r.same-symbols) ∙ length-map (block_tokens h ok.levels) (symbol_in (code_of map configs)) in
    omega (arith, tokens-most h ok.levels r.writable.long)

-- with 0 past the last token all levels stand there
pub restored : {x : Code} {h : Shape} {scan symbols bits : List ℕ} {levels now after : List ℤ} {k : ℕ} (count : ℕ) → Scanned h scan levels → Accepted x h symbols bits → Restored x h scan symbols bits levels k now
    → after ≡ put scan [] k (length scan - k) now → read_as (Reply.Tokens count) after ≡ read_result h scan count levels (read_tokens x h symbols bits)
unfolding read_result
restored {x} {h} {scan} {symbols} {bits} {levels} {now} {after} {k} count scanned ok d e =
    let c = covered_by h in
    let from : k ≡ c + (k - c) = omega (arith, d.from) in
    let all : k - c + (length scan - k) ≡ 63 * c = omega (arith, d.from, d.to, scanned.order.size) in
    let whole : after ≡ put scan ok.levels c (63 * c) levels =
    e
    ∙ ap₂ (λ (m : ℕ) (l : List ℤ). put scan [] m (length scan - k) l) from (d.put_there ok.levels ok.read)
    ∙ put-zeros scan ok.levels c (k - c) (length scan - k) levels (d.zeros ok.levels ok.read)
    ∙ ap (λ (m : ℕ). put scan ok.levels c m levels) all
    in
    rw (ok.read, whole)
