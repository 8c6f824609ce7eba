-- A tally: a count for each of 128 symbols a cluster, and the total of extra bits. Tokens are added to it or taken out, all of them or none.
use Rattle.std.specs.Prelude.{ℕ, zero, suc, ◌+◌, ◌-◌, ◌*◌, Bool, ◌&&◌, cond, List, [], ◌∷◌, ◌++◌, eqb, leb, length, get_or}
use Rattle.coding.specs.Coding.{Coding, coding_checks}
use Rattle.laws.specs.Refusals.{first_refused}
use Rattle.prices.specs.Checks.{each}
use Rattle.tallying.specs.Uses.{Tokens, place_at, used_at, extra_used}

-- Any tally is one to begin with.
pub record Tally : Type 0 where
  pub counts : List ℕ
  pub extra : ℕ

abbrev pub tally_of : List ℕ → ℕ → Tally
tally_of counts extra = record { counts = counts; extra = extra }

-- how many tokens there are
abbrev pub many : Tokens → ℕ
many t = length t.contexts

-- 17: two lists of one length, contexts below 14,850, values up to 131,071
unfoldable pub are_tokens : Tokens → Bool
are_tokens t = eqb (length t.values) (many t) && each (many t) (λ i. leb (get_or t.contexts i 0) 14849 && leb (get_or t.values i 0) 131071)

-- 27: every count that a token adds to stays below 2^32, and the total below 2^64
unfoldable pub addable : Coding → Tokens → Tally → Bool
addable k t y =
    each (many t) (λ i. leb (get_or y.counts (place_at k.map k.configs t i) 0 + used_at k.map k.configs t (many t) (place_at k.map k.configs t i)) 4294967295)
    && leb (y.extra + extra_used k.map k.configs t (many t)) 18446744073709551615

-- 28: every count that a token is taken from has as many, and so has the total
unfoldable pub removable : Coding → Tokens → Tally → Bool
removable k t y =
    each (many t) (λ i. leb (used_at k.map k.configs t (many t) (place_at k.map k.configs t i)) (get_or y.counts (place_at k.map k.configs t i) 0))
    && leb (extra_used k.map k.configs t (many t)) y.extra

-- the checks of both calls, in their order: 128 counts a cluster belong to 2; the call's own comes last
unfoldable pub shared_checks : Coding → Tokens → ℕ → List (Bool × ℕ)
shared_checks k t places = coding_checks k (eqb places (128 * k.clusters)) ++ (are_tokens t, 17) ∷ []

unfoldable pub tally_checks : Coding → Tokens → Tally → Bool × ℕ → List (Bool × ℕ)
tally_checks k t y own = shared_checks k t (length y.counts) ++ own ∷ []

-- n numbers, f at each place from a on
unfoldable pub listed : (ℕ → ℕ) → ℕ → ℕ → List ℕ
listed f a zero = []
listed f a (suc n) = f a ∷ listed f (suc a) n

-- The tally with the first n tokens added, and with them taken out.
unfoldable pub plus : List ℕ → List ℕ → Tokens → ℕ → Tally → Tally
plus map configs t n y = tally_of (listed (λ s. get_or y.counts s 0 + used_at map configs t n s) 0 (length y.counts)) (y.extra + extra_used map configs t n)

unfoldable pub minus : List ℕ → List ℕ → Tokens → ℕ → Tally → Tally
minus map configs t n y = tally_of (listed (λ s. get_or y.counts s 0 - used_at map configs t n s) 0 (length y.counts)) (y.extra - extra_used map configs t n)

-- What a call answers, 0 or the number of its refusal, and the tally afterwards: a refused call leaves it as it was.
pub record Outcome : Type 0 where
  pub reply : ℕ
  pub tally : Tally

abbrev pub outcome_of : ℕ → Tally → Outcome
outcome_of reply tally = record { reply = reply; tally = tally }

-- the number of the first check that fails, the call's own last, and the tally; 0 where none fails, and what comes out
unfoldable pub settled : Coding → Tokens → Tally → Bool × ℕ → Tally → Outcome
settled k t y own after =
    let refusal = first_refused (tally_checks k t y own) 0 in
    outcome_of refusal (cond (eqb refusal 0) after y)

unfoldable pub added : Coding → Tokens → Tally → Outcome
added k t y = settled k t y (addable k t y, 27) (plus k.map k.configs t (many t) y)

unfoldable pub removed : Coding → Tokens → Tally → Outcome
removed k t y = settled k t y (removable k t y, 28) (minus k.map k.configs t (many t) y)
