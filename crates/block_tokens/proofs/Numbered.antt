-- No reading, and no outcome, is a refusal by 0. Assumes nothing.
use Prim.Native.Nat.{ℕ, suc, ◌-◌, ◌*◌}
use mathlib.Core.Path.{◌≡◌, refl}
use mathlib.Core.Bool.{Bool, true, false, cond}
use mathlib.Core.List.{List, [], ◌∷◌, zip_with}
use native.Mathlib.Omega.{arith}
use borrow.Author.Tests.{eqb-false}
use lib.Dec.{eqb, leb, ltb}
use lib.IntN.{ℤ, pos}
use lib.ListN.{length, replicate}
use Rattle.block.specs.declared.Shape.{Shape}
use Rattle.laws.specs.Refusals.{first_refused}
use Rattle.least_cost.specs.Position.{nz}
use Rattle.packing.specs.Signed.{unpack_signed}
use Rattle.block_tokens.specs.Reply.{Reply}
use Rattle.block_tokens.specs.Tokens.{covered_by, count_context, prev_by, level_context, block_tokens, coded_levels}
use Rattle.block_tokens.specs.Code.{Code, code_in}
use Rattle.block_tokens.specs.Writing.{Outputs, written, write_checks, WriteResult, wrote, write_result}
use Rattle.block_tokens.specs.Reading.{Pair, pair, splits_in, value_in, Reading, Levels, Refused, before, read_levels, read_block, read_tokens}
use Rattle.block_tokens.specs.Outcome.{Given, lent_refusal, write_outcome, read_as, read_result, read_outcome}

-- a refusal has a number above 0
pub record Numbered (r : Reading) : Type 0 where
  pub some : (r ≡ Refused 0 → ⊥)

levels-numbered : (qs : List ℤ) → Numbered (Levels qs)
levels-numbered qs = record { some = λ e. let z : ◌≡◌ {A = ℕ} 0 1 = cc in omega arith }

refused-numbered : (n : ℕ) → Numbered (Refused (suc n))
refused-numbered n = record { some = λ e. let z : suc n ≡ 0 = cc in omega arith }

before-numbered : (q : ℤ) (r : Reading) → Numbered r → Numbered (before q r)
unfolding before
before-numbered q (Levels qs) n = levels-numbered (q ∷ qs)
before-numbered q (Refused m) n = record { some = λ e. n.some e }

either : (t : Bool) {r s : Reading} → Numbered r → Numbered s → Numbered (cond t r s)
either true a b = a
either false a b = b

levels-told : (x : Code) (h : Shape) (k prev owed : ℕ) (ps : List Pair) → Numbered (read_levels x h k prev owed ps)
unfolding read_levels
levels-told x h k prev owed [] =
    either (eqb owed 0) (levels-numbered (replicate (64 * covered_by h - k) (pos 0))) (either (ltb (64 * covered_by h - k) owed) (refused-numbered 24) (refused-numbered 21))
levels-told x h k prev owed (p ∷ ps) =
    let at = level_context h owed k prev in
    let q = unpack_signed (value_in x at p) in
    either (eqb owed 0) (refused-numbered 21)
    (either (ltb (64 * covered_by h - k) owed) (refused-numbered 24)
    (either (splits_in x at p)
    (either (leb (value_in x at p) 65536) (before-numbered q _ (levels-told x h (suc k) (nz q) (owed - nz q) ps)) (refused-numbered 23))
    (refused-numbered 19)))

block-told : (x : Code) (h : Shape) (ps : List Pair) → Numbered (read_block x h ps)
unfolding read_block
block-told x h [] = refused-numbered 21
block-told x h (p ∷ ps) =
    let count = value_in x (count_context h) p in
    either (splits_in x (count_context h) p)
    (either (leb count (63 * covered_by h)) (levels-told x h (covered_by h) (prev_by h count) count ps) (refused-numbered 20))
    (refused-numbered 19)

pub tokens-told : (x : Code) (h : Shape) (symbols bits : List ℕ) → Numbered (read_tokens x h symbols bits)
unfolding read_tokens
tokens-told x h symbols bits = either (eqb (length symbols) (length bits)) (block-told x h (zip_with pair symbols bits)) (refused-numbered 21)

-- ---- the outcomes

unrefused : (r : ℕ) (w : WriteResult) (o : Outputs) → (w.reply ≡ Reply.Refused 0 → ⊥) → (cond (eqb r 0) w (wrote (Reply.Refused r) o)).reply ≡ Reply.Refused 0 → ⊥
unrefused r w o own e = go (eqb r 0) refl e
  where
    go : (t : Bool) → eqb r 0 ≡ t → (cond t w (wrote (Reply.Refused r) o)).reply ≡ Reply.Refused 0 → ⊥
    go true d f = own f
    go false d f = eqb-false r 0 d cc

tokens-not : (n : ℕ) → Reply.Tokens n ≡ Reply.Refused 0 → ⊥
tokens-not n e = let z : ◌≡◌ {A = ℕ} 0 1 = cc in omega arith

write-own : (x : Code) (h : Shape) (qs : List ℤ) (o : Outputs) → (write_result x h qs o).reply ≡ Reply.Refused 0 → ⊥
unfolding write_result
write-own x h qs o e = unrefused (first_refused (write_checks x h qs o) 0) (wrote (Reply.Tokens (length (block_tokens h qs))) (written x (block_tokens h qs) o)) o (tokens-not _) e

pub write-numbered : (g : Given) (levels : List ℤ) (o : Outputs) → (write_outcome g levels o).reply ≡ Reply.Refused 0 → ⊥
unfolding write_outcome
write-numbered g levels o e =
    unrefused (lent_refusal g levels) (write_result (code_in g.coding) g.shape (coded_levels g.shape g.scan levels) o) o (write-own _ g.shape _ o) e

read-own : (h : Shape) (scan : List ℕ) (n : ℕ) (levels : List ℤ) (r : Reading) → Numbered r → (read_result h scan n levels r).reply ≡ Reply.Refused 0 → ⊥
unfolding read_result
read-own h scan n levels (Levels qs) k e = tokens-not n e
read-own h scan n levels (Refused m) k e = k.some (let z : m ≡ 0 = cc in rw z)

pub read-numbered : (g : Given) (symbols bits : List ℕ) (levels : List ℤ) → (read_outcome g symbols bits levels).reply ≡ Reply.Refused 0 → ⊥
unfolding read_outcome
read-numbered g symbols bits levels e = go (eqb (lent_refusal g levels) 0) refl e
  where
    reading : Reading
    reading = read_tokens (code_in g.coding) g.shape symbols bits

    go : (t : Bool) → eqb (lent_refusal g levels) 0 ≡ t
        → (cond t (read_result g.shape g.scan (length symbols) levels reading) (read_as (Reply.Refused (lent_refusal g levels)) levels)).reply ≡ Reply.Refused 0 → ⊥
    go true d f = read-own g.shape g.scan (length symbols) levels reading (tokens-told (code_in g.coding) g.shape symbols bits) f
    go false d f = eqb-false (lent_refusal g levels) 0 d cc
