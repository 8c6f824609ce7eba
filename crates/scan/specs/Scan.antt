-- The scan of a block: where each scan position stands. Check 11 of document 01, and levels read and written through the scan.
use Rattle.std.specs.Prelude.{ℕ, zero, suc, ◌+◌, ◌<◌, ◌≡◌, Bool, true, ◌&&◌, cond, List, [], ◌∷◌, eqb, ℤ, pos, get_or, length, set}

-- how often i occurs
unfoldable pub count_of : ℕ → List ℕ → ℕ
count_of i [] = 0
count_of i (x ∷ xs) = cond (eqb i x) 1 0 + count_of i xs

-- each number below n occurs once
unfoldable pub once_below : ℕ → List ℕ → Bool
once_below zero s = true
once_below (suc n) s = once_below n s && eqb (count_of n s) 1

-- each number below the length occurs once: the scan passes check 11
unfoldable pub each_once : List ℕ → Bool
each_once s = once_below (length s) s

-- what a reader of the scan goes by: n places, each holding a number below n, no two the same
pub record Perm (s : List ℕ) (n : ℕ) : Type 0 where
  pub size : length s ≡ n
  pub bound : (k : ℕ) → k < n → get_or s k 0 < n
  pub distinct : (j k : ℕ) → j < n → k < n → get_or s j 0 ≡ get_or s k 0 → j ≡ k

-- the level at scan position k
unfoldable pub level_at : List ℕ → List ℤ → ℕ → ℤ
level_at scan block k = get_or block (get_or scan k 0) (pos 0)

-- the block with the first n of `levels` written at the scan positions from `from` on
unfoldable pub put : List ℕ → List ℤ → ℕ → ℕ → List ℤ → List ℤ
put scan levels from zero block = block
put scan levels from (suc n) block = set (put scan levels from n block) (get_or scan (from + n) 0) (get_or levels n (pos 0))

-- f 0 to f (n − 1), added up
unfoldable pub sum_to : (ℕ → ℕ) → ℕ → ℕ
sum_to f zero = 0
sum_to f (suc n) = sum_to f n + f n
