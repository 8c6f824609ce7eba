-- The levels that a search may pick for one coefficient (document 01, module 6). Definitions only.
use Rattle.std.specs.Prelude.{ℕ, zero, suc, ◌-◌, Bool, false, cond, ◌&&◌, List, [], ◌∷◌, ◌++◌, eqb, leb, length, replicate, ℤ, pos, negsuc, nat_abs, Float}
use Rattle.std.proofs.Math.IntN.{suc_ℤ, pred_ℤ}
use Rattle.std.specs.Float.{nan, inf, fin, binary32}
use Rattle.std.specs.Float.Ieee.{of_int, sub, lt}
use Rattle.candidates.specs.Nearest.{nearest_of}
use Rattle.candidates.specs.declared.Candidates.{Candidates}

-- whether two levels are equal
abbrev pub eq_z : ℤ → ℤ → Bool
eq_z (pos a) (pos b) = eqb a b
eq_z (pos a) (negsuc b) = false
eq_z (negsuc a) (pos b) = false
eq_z (negsuc a) (negsuc b) = eqb a b

-- a list less each q in it
unfoldable pub without : ℤ → List ℤ → List ℤ
without q [] = []
without q (x ∷ xs) = cond (eq_z q x) (without q xs) (x ∷ without q xs)

-- a list with every repeat dropped: of equal levels the first stays
unfoldable pub drop_repeats : List ℤ → List ℤ
unfolding without
drop_repeats [] = []
drop_repeats (x ∷ xs) = x ∷ without x (drop_repeats xs)

-- one step toward zero
abbrev pub toward_zero : ℤ → ℤ
toward_zero (pos zero) = pos zero
toward_zero (pos (suc n)) = pos n
toward_zero (negsuc zero) = pos zero
toward_zero (negsuc (suc n)) = negsuc n

-- the size of a float
unfoldable pub abs : Float → Float
abs nan = nan
abs (inf s) = inf false
abs (fin s m e) = fin false m e

-- An ideal that keeps the current level alone: above 2.5 in size, and less than 0.25 from its rounding.
unfoldable pub settled : Float → Bool
unfolding abs
settled x = lt (fin false 5 (negsuc 0)) (abs x) && lt (abs (sub binary32 x (of_int binary32 (nearest_of x)))) (fin false 1 (negsuc 1))

-- Without restoring: the current level, one step toward zero, then 0.
unfoldable pub kept_of : ℤ → List ℤ
unfolding drop_repeats
kept_of current = drop_repeats (current ∷ toward_zero current ∷ pos 0 ∷ [])

-- Restoring: the current level, 0, the ideal's rounding r, r - 1 and r + 1; of a settled ideal the current level alone.
unfoldable pub restored_of : Float → ℤ → List ℤ
unfolding settled drop_repeats
restored_of ideal current =
    let r = nearest_of ideal in
    cond (settled ideal) (current ∷ []) (drop_repeats (current ∷ pos 0 ∷ r ∷ pred_ℤ r ∷ suc_ℤ r ∷ []))

-- The candidates, in trial order.
unfoldable pub candidates_of : Float → ℤ → Bool → List ℤ
unfolding kept_of restored_of
candidates_of ideal current restore = cond restore (restored_of ideal current) (kept_of current)

-- What stands past the candidates, as in the Rust: 0, or where the level may be restored the current level.
abbrev pub filler : ℤ → Bool → ℤ
filler current restore = cond restore current (pos 0)

-- a list of at most five levels, filled up to five
unfoldable pub filled : ℤ → List ℤ → Candidates
filled q xs = record { levels = xs ++ replicate (5 - length xs) q; count = length xs }

-- the candidates that stand in an array, so many of them
abbrev pub in_array : ℕ → List ℤ → Candidates
in_array count levels = record { levels = levels; count = count }

-- The levels that the leaf takes: -32,767 to 32,767.
abbrev pub is_current : ℤ → Bool
is_current q = leb (nat_abs q) 32767
