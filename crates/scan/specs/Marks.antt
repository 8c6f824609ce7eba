-- How check 11 is made: each number met is marked by a 1, then a number with no mark is looked for. `m i` is the mark of i, whatever holds it. Assumes nothing.
use Rattle.std.specs.Prelude.{ℕ, zero, suc, ◌/◌, ◌%◌, ◌^◌, ◌≤◌, ◌<◌, ◌≡◌, Bool, true, false, ◌&&◌, List, ltb, get_or, length, take}
use Rattle.scan.specs.Scan.{count_of, each_once}

-- the mark of a number that was met n times
unfoldable pub mark_of : ℕ → ℕ
mark_of zero = 0
mark_of (suc n) = 1

-- a byte a mark, or a bit, 64 in a word
abbrev pub byte_at : List ℕ → ℕ → ℕ
byte_at marks i = get_or marks i 0

abbrev pub bit_at : List ℕ → ℕ → ℕ
bit_at words i = get_or words (i / 64) 0 / 2 ^ (i % 64) % 2

-- the numbers below n are marked
unfoldable pub marked_below : ℕ → (ℕ → ℕ) → Bool
marked_below zero m = true
marked_below (suc n) m = marked_below n m && ltb 0 (m n)

-- Of the first k entries `bad` are not below the length; where there are none such, the marks are of the numbers met.
pub record Marks (s : List ℕ) (bad : ℕ) (m : ℕ → ℕ) (k : ℕ) : Type 0 where
  pub few : bad ≤ k
  pub below : bad ≡ 0 → (j : ℕ) → j < k → get_or s j 0 < length s
  pub met : bad ≡ 0 → (i : ℕ) → i < length s → m i ≡ mark_of (count_of i (take k s))
  pub past : 0 < bad → each_once s ≡ false

-- all entries were marked; `low` tells whether each is below the length, without which the marks say nothing
pub record Marked (s : List ℕ) (low : Bool) (m : ℕ → ℕ) : Type 0 where
  pub below : low ≡ true → (k : ℕ) → k < length s → get_or s k 0 < length s
  pub met : low ≡ true → (i : ℕ) → i < length s → m i ≡ mark_of (count_of i s)
  pub past : low ≡ false → each_once s ≡ false
