-- A plain map from block number to tokens, and the calls on it (ticket 14).
use Rattle.std.specs.Prelude.{ℕ, ◌+◌, Bool, false, cond, ◌||◌, List, [], ◌∷◌, ◌++◌, eqb, leb, ltb, length}

pub record Entry : Type 0 where
  pub number : ℕ
  pub tokens : List ℕ

abbrev pub entry : ℕ → List ℕ → Entry
entry k ts = record { number = k; tokens = ts }

unfoldable pub held : ℕ → List Entry → Bool
held k [] = false
held k (e ∷ m) = eqb k e.number || held k m

unfoldable pub lookup : ℕ → List Entry → List ℕ
lookup k [] = []
lookup k (e ∷ m) = cond (eqb k e.number) e.tokens (lookup k m)

unfoldable pub without : ℕ → List Entry → List Entry
without k [] = []
without k (e ∷ m) = cond (eqb k e.number) (without k m) (e ∷ without k m)

-- how many tokens the map has
unfoldable pub total : List Entry → ℕ
total [] = 0
total (e ∷ m) = length e.tokens + total m

-- ---- calls

pub data Call : Type 0 where
  put : (k : ℕ) (tokens : List ℕ) → Call
  drop : (k : ℕ) → Call
  read : (k room : ℕ) → Call

-- the number of a refusal, or 0 with the tokens read
pub record Reply : Type 0 where
  pub refusal : ℕ
  pub tokens : List ℕ

abbrev pub reply : ℕ → List ℕ → Reply
reply n ts = record { refusal = n; tokens = ts }

-- A map of at most `size` tokens. 34 is judged without the run that a put replaces.
unfoldable pub refusal_on : ℕ → List Entry → Call → ℕ
refusal_on size m (put k ts) = cond (ltb k 1024) (cond (leb (total (without k m) + length ts) size) 0 34) 33
refusal_on size m (drop k) = cond (ltb k 1024) (cond (held k m) 0 35) 33
refusal_on size m (read k room) = cond (ltb k 1024) (cond (held k m) (cond (leb (length (lookup k m)) room) 0 36) 35) 33

unfoldable pub done : List Entry → Call → List Entry
done m (put k ts) = without k m ++ (entry k ts ∷ [])
done m (drop k) = without k m
done m (read k room) = m

unfoldable pub given : List Entry → Call → List ℕ
given m (put k ts) = []
given m (drop k) = []
given m (read k room) = lookup k m

unfoldable pub reply_on : ℕ → List Entry → Call → Reply
reply_on size m c = reply (refusal_on size m c) (cond (eqb (refusal_on size m c) 0) (given m c) [])

unfoldable pub after : ℕ → List Entry → Call → List Entry
after size m c = cond (eqb (refusal_on size m c) 0) (done m c) m
