-- The levels from scan position c on, as a list, and written back. Assumes nothing.
use Prim.Native.Nat.{ℕ, zero, suc, ◌+◌, ◌*◌, ◌<◌}
use mathlib.Core.Path.{◌≡◌, refl, sym, ap, ap₂, ◌∙◌}
use mathlib.Core.List.{List, [], ◌∷◌}
use native.Mathlib.Omega.{arith}
use native.Mathlib.Nat.{add-zero}
use lib.IntN.{ℤ, pos}
use lib.ListN.{length, get_or}
use Rattle.block.specs.declared.Shape.{Shape}
use Rattle.scan.specs.Scan.{level_at, put}
use Rattle.scan.proofs.Through.{put-at, put-before}
use Rattle.block_tokens.specs.Tokens.{covered_by, levels_from, coded_levels}
use Rattle.block_tokens.specs.Passed.{Scanned}

pub from-length : (scan : List ℕ) (levels : List ℤ) (k n : ℕ) → length (levels_from scan levels k n) ≡ n
unfolding levels_from
from-length scan levels k zero = refl
from-length scan levels k (suc n) = ap suc (from-length scan levels (suc k) n)

-- a list, level by level
from-are : (scan : List ℕ) (levels : List ℤ) (k : ℕ) (qs : List ℤ) → ((i : ℕ) → i < length qs → level_at scan levels (k + i) ≡ get_or qs i (pos 0))
    → levels_from scan levels k (length qs) ≡ qs
unfolding levels_from
from-are scan levels k [] same = refl
from-are scan levels k (q ∷ qs) same =
    let next : (i : ℕ) → i < length qs → level_at scan levels (suc k + i) ≡ get_or qs i (pos 0) =
    λ i l. ap (level_at scan levels) (omega arith) ∙ same (suc i) (omega arith)
    in
    ap₂ ◌∷◌ (ap (level_at scan levels) (sym (add-zero k)) ∙ same 0 (omega arith)) (from-are scan levels (suc k) qs next)

module _ (h : Shape) (scan : List ℕ) (levels : List ℤ) (scanned : Scanned h scan levels) (qs : List ℤ) (long : length qs ≡ 63 * covered_by h) where
  abbrev after : List ℤ
  after = put scan qs (covered_by h) (63 * covered_by h) levels

  pub coded-put : coded_levels h scan after ≡ qs
  unfolding coded_levels
  coded-put =
      ap (levels_from scan after (covered_by h)) (sym long)
      ∙ from-are scan after (covered_by h) qs (λ i l. put-at scanned.order qs (covered_by h) levels scanned.long (63 * covered_by h) i (omega arith) (omega (arith, l, long)))

  pub first-kept : (k : ℕ) → k < covered_by h → level_at scan after k ≡ level_at scan levels k
  first-kept k l = put-before scanned.order qs (covered_by h) levels (63 * covered_by h) k (omega arith) l
