-- What the public calls on a store promise: reply and every lent number by a definition, and what that means as a plain map.
use Rattle.std.specs.Prelude.{ℕ, zero, suc, ◌≡◌, cond, List, [], ltb, length, take, Result, Ok, Err}
use Rattle.refusals.specs.Numbers.{number_of}
use Rattle.refusals.specs.declared.Refusal.{Refusal}
use Rattle.store_map.specs.Map.{Reply, reply}
use Rattle.store_map.specs.Map as Map
use Rattle.store_map.specs.Store.{Store, right, outcome_of, put_outcome, drop_outcome, run_in, read_refusal, read_tokens, Kept}

-- what each call refuses first: the number, or 0 where it refuses neither
unfoldable pub lent_refusal : Store → ℕ → ℕ
lent_refusal s k = cond (right s) (cond (ltb k 1024) 0 33) 37

-- the length of a run, or the number of the refusal
pub data Length : Type 0 where
  Value : ℕ → Length
  Refused : ℕ → Length

-- what the code answers, by number
abbrev pub length_of : Result ℕ Refusal → Length
length_of (Ok n) = Value n
length_of (Err refusal) = Refused (number_of refusal)

pub record Put (s : Store) (k : ℕ) (tokens : List ℕ) (code : ℕ) (t : Store) : Type 0 where
  -- code, room and record
  pub settled : outcome_of code t ≡ put_outcome s k tokens
  -- what they say of the map
  pub kept : Kept s (Map.put k tokens) (reply code []) t

pub record Dropped (s : Store) (k : ℕ) (code : ℕ) (t : Store) : Type 0 where
  pub settled : outcome_of code t ≡ drop_outcome s k
  pub kept : Kept s (Map.drop k) (reply code []) t

-- a refusal, or the length where it is 0
unfoldable pub length_reply : ℕ → ℕ → Length
length_reply zero n = Value n
length_reply (suc m) n = Refused (suc m)

-- an answer as the map would give it: the tokens at the front of the reader's buffer
unfoldable pub told : Length → List ℕ → Reply
told (Value n) buffer = reply 0 (take n buffer)
told (Refused m) buffer = reply m []

pub record Read (s : Store) (k : ℕ) (buffer : List ℕ) (answer : Length) (after : List ℕ) : Type 0 where
  pub settled : answer ≡ length_reply (read_refusal s k (length buffer)) (run_in s k).size
  -- the reader's buffer
  pub tokens : after ≡ read_tokens s k buffer
  pub kept : Kept s (Map.read k (length buffer)) (told answer after) s
