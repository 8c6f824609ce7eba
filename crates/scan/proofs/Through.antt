-- Levels written through a scan are read back through it. Assumes nothing.
use mathlib.Core.Path.{◌≡◌, refl, ◌∙◌}
use mathlib.Core.List.{List}
use Prim.Native.Nat.{ℕ, zero, suc, ◌+◌, ◌≤◌, ◌<◌}
use native.Mathlib.Nat.{not-suc-le-zero}
use native.Mathlib.Numerals.{add-one}
use native.Mathlib.Omega.{arith}
use lib.IntN.{ℤ, pos}
use lib.ListN.{length, get_or, set, length-set}
use lib.Seq.{get_or-set_same, get_or-set_other}
use Rattle.scan.specs.Scan.{Perm, level_at, put}
use Rattle.scan.proofs.Counts.{either}

-- one level, written at scan position j
pub level-same : {scan : List ℕ} {size : ℕ} → Perm scan size → (block : List ℤ) → length block ≡ size → (j : ℕ) → j < size → (v : ℤ) → level_at scan (set block (get_or scan j 0) v) j ≡ v
unfolding level_at
level-same {scan} scanned block whole j h v =
    get_or-set_same block (get_or scan j 0) v (pos 0) (rw whole (scanned.bound j h))

pub level-other : {scan : List ℕ} {size : ℕ} → Perm scan size → (block : List ℤ) (j k : ℕ) → j < size → k < size → (k ≡ j → ⊥) → (v : ℤ) → level_at scan (set block (get_or scan j 0) v) k ≡ level_at scan block k
unfolding level_at
level-other {scan} scanned block j k p q d v =
    get_or-set_other block (get_or scan j 0) (get_or scan k 0) v (pos 0) (λ e. d (scanned.distinct k j q p e))

-- one level after the other, as a loop writes them
pub put-none : (scan : List ℕ) (levels : List ℤ) (from : ℕ) (block : List ℤ) → put scan levels from 0 block ≡ block
unfolding put
put-none scan levels from block = refl

pub put-more :
    (scan : List ℕ) (levels : List ℤ) (from n : ℕ) (block : List ℤ)
    → put scan levels from (n + 1) block ≡ set (put scan levels from n block) (get_or scan (from + n) 0) (get_or levels n (pos 0))
unfolding put
put-more scan levels from n block = rw add-one

pub put-length : (scan : List ℕ) (levels : List ℤ) (from n : ℕ) (block : List ℤ) → length (put scan levels from n block) ≡ length block
unfolding put
put-length scan levels from zero block = refl
put-length scan levels from (suc n) block = simp length-set (put-length scan levels from n block)

module _ {scan : List ℕ} {size : ℕ} (scanned : Perm scan size) (levels : List ℤ) (from : ℕ) (block : List ℤ) where
  -- a scan position that is not written reads as before
  pub put-off : (n k : ℕ) → from + n ≤ size → k < size → ((i : ℕ) → i < n → k ≡ from + i → ⊥) → level_at scan (put scan levels from n block) k ≡ level_at scan block k
  unfolding put
  put-off zero k fits h off = refl
  put-off (suc n) k fits h off =
      level-other scanned (put scan levels from n block) (from + n) k (omega arith) h (off n (omega arith)) (get_or levels n (pos 0))
      ∙ put-off n k (omega arith) h (λ i l. off i (omega arith))

  pub put-before : (n k : ℕ) → from + n ≤ size → k < from → level_at scan (put scan levels from n block) k ≡ level_at scan block k
  put-before n k fits h = put-off n k fits (omega arith) (λ i l e. omega arith)

  pub put-after : (n k : ℕ) → from + n ≤ k → k < size → level_at scan (put scan levels from n block) k ≡ level_at scan block k
  put-after n k past h = put-off n k (omega arith) h (λ i l e. omega arith)

  -- a scan position that is written reads as its level
  pub put-at : length block ≡ size → (n i : ℕ) → from + n ≤ size → i < n → level_at scan (put scan levels from n block) (from + i) ≡ get_or levels i (pos 0)
  unfolding put
  put-at whole zero i fits l = absurd (not-suc-le-zero l)
  put-at whole (suc n) i fits l =
      either i n
      (λ e. rw e (level-same scanned (put scan levels from n block) (put-length scan levels from n block ∙ whole) (from + n) (omega arith) (get_or levels n (pos 0))))
      (λ d. level-other scanned (put scan levels from n block) (from + n) (from + i) (omega arith) (omega arith) (λ e. d (omega arith)) (get_or levels n (pos 0))
      ∙ put-at whole n i (omega arith) (omega arith))
