-- A run of calls on a store, and the answers of a plain map (ticket 14).
use Rattle.std.specs.Prelude.{ℕ, ◌≡◌, List, [], ◌∷◌, length, replicate}
use Rattle.store_map.specs.Map.{Entry, Call, Reply, reply_on, after}
use Rattle.store_map.specs.Store.{Store, Kept}

-- a call, its answer, and the store that it left
pub record Event : Type 0 where
  pub call : Call
  pub answer : Reply
  pub left : Store

-- Each call is handed room and record as the last one left them, and keeps what the contracts of put, drop and read promise.
abbrev pub Trace : Store → List Event → Type 0
Trace s [] = s ≡ s
Trace s (e ∷ es) = Kept s e.call e.answer e.left × Trace e.left es

unfoldable pub calls_of : List Event → List Call
calls_of [] = []
calls_of (e ∷ es) = e.call ∷ calls_of es

unfoldable pub answers_of : List Event → List Reply
answers_of [] = []
answers_of (e ∷ es) = e.answer ∷ answers_of es

-- what a map of at most `size` tokens answers to a run of calls
unfoldable pub replies : ℕ → List Entry → List Call → List Reply
replies size m [] = []
replies size m (c ∷ cs) = reply_on size m c ∷ replies size (after size m c) cs

-- From an empty store, of any room, the answers are those of a plain map.
abbrev pub AsMap : Type 0
AsMap = (s : Store) (es : List Event) → s.rec ≡ replicate 3073 0 → Trace s es → answers_of es ≡ replies (length s.room) [] (calls_of es)
