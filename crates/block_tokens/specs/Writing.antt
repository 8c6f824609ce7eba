-- What the writer writes, and what it refuses, once what it is lent has passed.
use Rattle.std.specs.Prelude.{ℕ, Bool, true, cond, ◌&&◌, List, [], ◌∷◌, ◌++◌, map, eqb, leb, ltb, ℤ, nat_abs, length, drop}
use Rattle.block.specs.declared.Shape.{Shape}
use Rattle.laws.specs.Refusals.{first_refused}
use Rattle.block_tokens.specs.Reply.{Reply, Tokens, Refused}
use Rattle.block_tokens.specs.Tokens.{Token, block_tokens}
use Rattle.block_tokens.specs.Code.{Code, symbol_in, extra_in, bits_in}

-- the first numbers of an output are overwritten, the others stay
unfoldable pub over : List ℕ → List ℕ → List ℕ
over xs old = xs ++ drop (length xs) old

-- the writer's four outputs
pub record Outputs : Type 0 where
  pub contexts : List ℕ
  pub symbols : List ℕ
  pub extra_bits : List ℕ
  pub bits : List ℕ

abbrev pub outputs : List ℕ → List ℕ → List ℕ → List ℕ → Outputs
outputs contexts symbols extra_bits bits = record { contexts = contexts; symbols = symbols; extra_bits = extra_bits; bits = bits }

unfoldable pub written : Code → List Token → Outputs → Outputs
written x ts o =
    record {
      contexts = over (map (λ t. t.context) ts) o.contexts;
      symbols = over (map (symbol_in x) ts) o.symbols;
      extra_bits = over (map (extra_in x) ts) o.extra_bits;
      bits = over (map (bits_in x) ts) o.bits;
    }

-- 24: each level lies within ±32,768
unfoldable pub all_within : List ℤ → Bool
all_within [] = true
all_within (q ∷ qs) = leb (nat_abs q) 32768 && all_within qs

-- 20: each token has one of the 128 symbols
unfoldable pub all_coded : Code → List Token → Bool
all_coded x [] = true
all_coded x (t ∷ ts) = ltb (symbol_in x t) 128 && all_coded x ts

-- 23: each output has room for n numbers
unfoldable pub room_for : ℕ → Outputs → Bool
room_for n o = leb n (length o.contexts) && leb n (length o.symbols) && leb n (length o.extra_bits) && leb n (length o.bits)

-- The writer's own checks, in their order, of the levels qs from scan position c on.
unfoldable pub write_checks : Code → Shape → List ℤ → Outputs → List (Bool × ℕ)
write_checks x h qs o =
    let ts = block_tokens h qs in
    (all_within qs, 24) ∷ (all_coded x ts, 20) ∷ (room_for (length ts) o, 23) ∷ []

-- what the writer answers, and what stands in the outputs afterwards
pub record WriteResult : Type 0 where
  pub reply : Reply
  pub outputs : Outputs

abbrev pub wrote : Reply → Outputs → WriteResult
wrote reply o = record { reply = reply; outputs = o }

-- All tokens and their number; or the number of the first check that fails, and nothing is written.
unfoldable pub write_result : Code → Shape → List ℤ → Outputs → WriteResult
write_result x h qs o =
    let ts = block_tokens h qs in
    let refusal = first_refused (write_checks x h qs o) 0 in
    cond (eqb refusal 0) (wrote (Tokens (length ts)) (written x ts o)) (wrote (Refused refusal) o)
