-- What the reader's passes go by, and what they give.
use Rattle.std.specs.Prelude.{ℕ, ◌-◌, ◌*◌, ◌≤◌, ◌≡◌, List, ℤ, pos, get_or}
use Rattle.block.specs.declared.Shape.{Shape}
use Rattle.scan.specs.Scan.{put}
use Rattle.block_tokens.specs.Tokens.{covered_by}
use Rattle.block_tokens.specs.Code.{Code}
use Rattle.block_tokens.specs.Reading.{Reading, Levels, Refused, read_tokens}

-- the number of the refusal; 0 where there is none
unfoldable pub refusal_of : Reading → ℕ
refusal_of (Levels qs) = 0
refusal_of (Refused n) = n

-- the two lists are read without a refusal
pub record Accepted (x : Code) (h : Shape) (symbols bits : List ℕ) : Type 0 where
  pub levels : List ℤ
  pub read : read_tokens x h symbols bits ≡ Levels levels

-- The levels read stand in the block up to scan position k, and those past it are 0.
pub record Restored (x : Code) (h : Shape) (scan symbols bits : List ℕ) (old : List ℤ) (k : ℕ) (after : List ℤ) : Type 0 where
  pub from : covered_by h ≤ k
  pub to : k ≤ 64 * covered_by h
  pub put_there : (qs : List ℤ) → read_tokens x h symbols bits ≡ Levels qs → after ≡ put scan qs (covered_by h) (k - covered_by h) old
  pub zeros : (qs : List ℤ) → read_tokens x h symbols bits ≡ Levels qs → (i : ℕ) → k - covered_by h ≤ i → get_or qs i (pos 0) ≡ pos 0
