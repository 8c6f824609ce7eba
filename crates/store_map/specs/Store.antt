-- What the calls on a store answer, and what room, record and the reader's buffer hold afterwards (ticket 14).
use Rattle.std.specs.Prelude.{ℕ, suc, ◌+◌, ◌≡◌, Bool, true, false, cond, List, [], ◌∷◌, ◌++◌, eqb, leb, ltb, length}
use Rattle.store_record.specs.Placed.{placed}
use Rattle.store_record.specs.Runs.{run, runs_of, recorded, valid_record, holds, others, run_under, live, end_of, packed}
use Rattle.store_record.specs.declared.Run.{Run}
use Rattle.store_record.specs.Tokens.{tokens_of, joined}
use Rattle.store_map.specs.Map.{Entry, entry, Call, Reply, reply, reply_on, after}

-- room and record, as they are lent
pub record Store : Type 0 where
  pub room : List ℕ
  pub rec : List ℕ

abbrev pub store_of : List ℕ → List ℕ → Store
store_of room rec = record { room = room; rec = rec }

-- whether a store passes check 37
abbrev pub right : Store → Bool
right s = valid_record (length s.room) s.rec

-- a refusal, 0 where there is none, and the store afterwards
pub record Outcome : Type 0 where
  pub refusal : ℕ
  pub store : Store

abbrev pub outcome_of : ℕ → Store → Outcome
outcome_of n s = record { refusal = n; store = s }

-- ---- put

unfoldable pub put_refusal : Store → ℕ → List ℕ → ℕ
put_refusal s k ts =
    cond (right s) (cond (ltb k 1024) (cond (leb (live (others k (runs_of s.rec)) + length ts) (length s.room)) 0 34) 33) 37

-- a room and its runs, with place for more tokens at `at`
pub record Space : Type 0 where
  pub room : List ℕ
  pub runs : List Run
  pub at : ℕ

-- Place for n tokens: behind the last run where they fit there, else behind all runs, moved together.
unfoldable pub space : List ℕ → List Run → ℕ → Space
space room rs n =
    cond (leb (end_of 0 rs + n) (length room)) (record { room = room; runs = rs; at = end_of 0 rs }) (record { room = placed 0 (joined room rs) room; runs = packed 0 rs; at = live rs })

-- the store with these tokens under number k, behind the runs under other numbers
unfoldable pub stored : Store → ℕ → List ℕ → Store
stored s k ts =
    let sp = space s.room (others k (runs_of s.rec)) (length ts) in
    store_of (placed sp.at ts sp.room) (recorded (sp.runs ++ (run k sp.at (length ts) ∷ [])) s.rec)

unfoldable pub put_outcome : Store → ℕ → List ℕ → Outcome
put_outcome s k ts = outcome_of (put_refusal s k ts) (cond (eqb (put_refusal s k ts) 0) (stored s k ts) s)

-- ---- drop

unfoldable pub drop_refusal : Store → ℕ → ℕ
drop_refusal s k = cond (right s) (cond (ltb k 1024) (cond (holds k (runs_of s.rec)) 0 35) 33) 37

unfoldable pub dropped : Store → ℕ → Store
dropped s k = store_of s.room (recorded (others k (runs_of s.rec)) s.rec)

unfoldable pub drop_outcome : Store → ℕ → Outcome
drop_outcome s k = outcome_of (drop_refusal s k) (cond (eqb (drop_refusal s k) 0) (dropped s k) s)

-- ---- read

-- the run under number k
unfoldable pub run_in : Store → ℕ → Run
run_in s k = run_under k (runs_of s.rec)

-- for a reader's buffer of `room` tokens
unfoldable pub read_refusal : Store → ℕ → ℕ → ℕ
read_refusal s k room = cond (right s) (cond (ltb k 1024) (cond (holds k (runs_of s.rec)) (cond (leb (run_in s k).size room) 0 36) 35) 33) 37

-- the reader's buffer afterwards: the run at its front, nothing past it changed
unfoldable pub read_tokens : Store → ℕ → List ℕ → List ℕ
read_tokens s k buffer = cond (eqb (read_refusal s k (length buffer)) 0) (placed 0 (tokens_of s.room (run_in s k)) buffer) buffer

-- ---- what that means

unfoldable pub entries : List ℕ → List Run → List Entry
entries room [] = []
entries room (x ∷ xs) = entry x.number (tokens_of room x) ∷ entries room xs

-- the map that a store stands for
unfoldable pub map_of : Store → List Entry
map_of s = entries s.room (runs_of s.rec)

-- A call on a store that took it from s to t and answered r.
pub record Kept (s : Store) (c : Call) (r : Reply) (t : Store) : Type 0 where
  -- a store that fails check 37 is answered by that
  pub wrong : right s ≡ false → r ≡ reply 37 []
  -- any other answers as the map that it stands for
  pub answered : right s ≡ true → r ≡ reply_on (length s.room) (map_of s) c
  -- and stands for that map after the call
  pub kept : right s ≡ true → map_of t ≡ after (length s.room) (map_of s) c
  -- it passes check 37 again
  pub still : right s ≡ true → right t ≡ true
  -- a refusal changes nothing
  pub refused : (n : ℕ) → r.refusal ≡ suc n → t ≡ s
  pub long : length t.room ≡ length s.room
