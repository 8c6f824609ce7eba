-- What the loops that count go by, and what they leave. A loop stops before the first token that has no room.
use Rattle.std.specs.Prelude.{ℕ, suc, ◌-◌, ◌≤◌, ◌<◌, ◌≡◌, Bool, true, false, ◌&&◌, List, leb, get_or}
use Rattle.prices.specs.Checks.{each}
use Rattle.tallying.specs.Uses.{Tokens, place_at, used_at, extra_used}
use Rattle.tallying.specs.Tally.{Tally, plus, minus}

-- There is room for `room s` tokens at place s, and for `rest` extra bits. Token i has room beside the tokens before it ..
abbrev pub has_room : List ℕ → List ℕ → Tokens → (ℕ → ℕ) → ℕ → ℕ → Bool
has_room map configs t room rest i =
    leb (used_at map configs t (suc i) (place_at map configs t i)) (room (place_at map configs t i)) && leb (extra_used map configs t (suc i)) rest

-- .. and the first n all together.
abbrev pub all_room : List ℕ → List ℕ → Tokens → (ℕ → ℕ) → ℕ → ℕ → Bool
all_room map configs t room rest n =
    each n (λ i. leb (used_at map configs t n (place_at map configs t i)) (room (place_at map configs t i))) && leb (extra_used map configs t n) rest

-- what a tally has room for
abbrev pub to_add : Tally → ℕ → ℕ
to_add y s = 4294967295 - get_or y.counts s 0

abbrev pub rest_to_add : Tally → ℕ
rest_to_add y = 18446744073709551615 - y.extra

-- and what it has
abbrev pub to_remove : Tally → ℕ → ℕ
to_remove y s = get_or y.counts s 0

-- of the first n tokens `done` have been added to y, which gives z
pub record SomeAdded (map configs : List ℕ) (t : Tokens) (n : ℕ) (y : Tally) (done : ℕ) (z : Tally) : Type 0 where
  pub few : done ≤ n
  pub tally : z ≡ plus map configs t done y
  pub fitted : (i : ℕ) → i < done → has_room map configs t (to_add y) (rest_to_add y) i ≡ true
  pub stopped : done < n → has_room map configs t (to_add y) (rest_to_add y) done ≡ false

-- the same, taken out
pub record SomeRemoved (map configs : List ℕ) (t : Tokens) (n : ℕ) (y : Tally) (done : ℕ) (z : Tally) : Type 0 where
  pub few : done ≤ n
  pub tally : z ≡ minus map configs t done y
  pub fitted : (i : ℕ) → i < done → has_room map configs t (to_remove y) y.extra i ≡ true
  pub stopped : done < n → has_room map configs t (to_remove y) y.extra done ≡ false
