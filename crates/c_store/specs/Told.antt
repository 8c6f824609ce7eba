-- What a read tells a caller from C: a code, and the length behind a pointer where the code is 0.
use Rattle.std.specs.Prelude.{ℕ, ◌≡◌, cond, List, [], eqb, length, take}
use Rattle.store_map.specs.Map.{reply}
use Rattle.store_map.specs.Map as Map
use Rattle.store_map.specs.Store.{Store, run_in, read_refusal, read_tokens, Kept}
use Rattle.store_calls.specs.Calls.{Length, Value, Refused}

unfoldable pub length_code : Length → ℕ
length_code (Value n) = 0
length_code (Refused m) = m

unfoldable pub length_after : Length → ℕ → ℕ
length_after (Value n) before = n
length_after (Refused m) before = before

pub record ReadTold (s : Store) (k : ℕ) (buffer : List ℕ) (before code : ℕ) (after : List ℕ) (size : ℕ) : Type 0 where
  pub settled : code ≡ read_refusal s k (length buffer)
  -- the caller's length
  pub sized : size ≡ cond (eqb (read_refusal s k (length buffer)) 0) (run_in s k).size before
  -- the reader's buffer
  pub tokens : after ≡ read_tokens s k buffer
  -- what that says of the map
  pub kept : Kept s (Map.read k (length buffer)) (reply code (cond (eqb code 0) (take size after) [])) s
