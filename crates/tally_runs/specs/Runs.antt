-- Runs of calls on one tally, and what the tally should then hold, worked out afresh from the list of calls.
use Rattle.std.specs.Prelude.{ℕ, ◌+◌, ◌-◌, ◌<◌, ◌≡◌, cond, List, [], ◌∷◌, eqb, get_or, replicate}
use Rattle.coding.specs.Coding.{Coding}
use Rattle.tallying.specs.Uses.{Tokens, used_at, extra_used}
use Rattle.tallying.specs.Tally.{Tally, Outcome, tally_of, listed, many, added, removed}

-- A call brings its own code and tokens.
pub data Call : Type 0 where
  Add : Coding → Tokens → Call
  Remove : Coding → Tokens → Call

-- what the call does, by the contracts of `tally_add` and `tally_remove`
unfoldable pub done : Call → Tally → Outcome
done (Add k t) y = added k t y
done (Remove k t) y = removed k t y

-- the tally after a list of calls, the tally that one leaves being lent to the next; and the calls with their replies
unfoldable pub after : Tally → List Call → Tally
after y [] = y
after y (c ∷ cs) = after (done c y).tally cs

unfoldable pub answered : Tally → List Call → List (Call × ℕ)
answered y [] = []
answered y (c ∷ cs) = (c, (done c y).reply) ∷ answered (done c y).tally cs

-- a tally of n counts, all 0
abbrev pub zeros : ℕ → Tally
zeros n = tally_of (replicate n 0) 0

-- ---- Afresh: what the adds that answered 0 brought to place s, and what the removals that answered 0 took from it.
unfoldable pub brought_by : Call → ℕ → ℕ
brought_by (Add k t) s = used_at k.map k.configs t (many t) s
brought_by (Remove k t) s = 0

unfoldable pub taken_by : Call → ℕ → ℕ
taken_by (Add k t) s = 0
taken_by (Remove k t) s = used_at k.map k.configs t (many t) s

-- the same of extra bits
unfoldable pub extra_brought : Call → ℕ
extra_brought (Add k t) = extra_used k.map k.configs t (many t)
extra_brought (Remove k t) = 0

unfoldable pub extra_taken : Call → ℕ
extra_taken (Add k t) = 0
extra_taken (Remove k t) = extra_used k.map k.configs t (many t)

-- summed over the calls that answered 0
unfoldable pub summed : (Call → ℕ) → List (Call × ℕ) → ℕ
summed f [] = 0
summed f (x ∷ xs) = cond (eqb x.1 0) (f x.0) 0 + summed f xs

-- the tally of n counts that these make
unfoldable pub afresh : ℕ → List (Call × ℕ) → Tally
afresh n xs =
    tally_of (listed (λ s. summed (λ c. brought_by c s) xs - summed (λ c. taken_by c s) xs) 0 n) (summed extra_brought xs - summed extra_taken xs)

-- What any run of calls from a zero tally of n counts gives.
pub record AsSums (n : ℕ) (calls : List Call) : Type 0 where
  -- each count, with what was taken, is what was brought
  pub counts : (s : ℕ) → s < n → get_or (after (zeros n) calls).counts s 0 + summed (λ c. taken_by c s) (answered (zeros n) calls) ≡ summed (λ c. brought_by c s) (answered (zeros n) calls)
  -- so is the total
  pub extra : (after (zeros n) calls).extra + summed extra_taken (answered (zeros n) calls) ≡ summed extra_brought (answered (zeros n) calls)
  -- and so the tally is the one that the sums make: by it every further call is answered, 27 and 28 included
  pub tally : after (zeros n) calls ≡ afresh n (answered (zeros n) calls)
  pub replies : (next : Call) → (done next (after (zeros n) calls)).reply ≡ (done next (afresh n (answered (zeros n) calls))).reply
