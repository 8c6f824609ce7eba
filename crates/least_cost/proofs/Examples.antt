-- Sums and ties in small cases, by computing them. Assumes nothing.
use mathlib.Core.Path.{◌≡◌, refl}
use mathlib.Core.Bool.{false}
use mathlib.Core.List.{List, [], ◌∷◌}
use lib.IntN.{ℤ, pos}
use lib.Ieee.{Float, fin, binary32, add, lt, of_int}
use Rattle.least_cost.specs.Position.{Position, Tail, nz, within, allowed}
use Rattle.least_cost.specs.Choice.{cost_of}
use Rattle.least_cost.specs.Search.{least, holder, nonzeros, has_zero, trial, step, best, pick, walk}

-- a position whose band excludes nothing, with the given candidates and local costs
abbrev place : List ℤ → (ℤ → Float) → Position
place levels cost = record { candidates = levels; low = 0; high = 9; price = λ r p c. cost c }

-- nothing remains after the window, whose tail costs x
abbrev after : Float → Tail
after x = record { count = 0; cost = λ p. x }

-- the floats next to 2^25 are 4 apart
abbrev large : Float
large = fin false 1 (pos 25)

-- From the end back: 2^25 + 2 is 2^25, and with 3 it is 2^25 + 4. From the front on it would be 2^25 + 8.
pub summed-from-the-end :
    cost_of (after large) (place [] (λ c. fin false 3 (pos 0)) ∷ place [] (λ c. fin false 1 (pos 1)) ∷ []) 0 (pos 0 ∷ pos 0 ∷ []) ≡ fin false 8388609 (pos 2)
unfolding cost_of add
summed-from-the-end = refl

-- 2 costs 2 and 1 costs 1, but with the tail both cost 2^25: 2, which is tried first, stays
pub earlier-stays : walk (after large) (place (pos 2 ∷ pos 1 ∷ []) (λ c. of_int binary32 c) ∷ []) 1 0 ≡ pos 2 ∷ []
unfolding walk pick best step trial has_zero nonzeros holder least allowed within nz add lt of_int
earlier-stays = refl

-- one nonzero level in two places, at no cost: it stays in the first, for a nonzero level stays ahead of zero wherever zero is listed
pub nonzero-ahead :
    walk (after (fin false 0 (pos 0))) (place (pos 0 ∷ pos 1 ∷ []) (λ c. fin false 0 (pos 0)) ∷ place (pos 0 ∷ pos 1 ∷ []) (λ c. fin false 0 (pos 0)) ∷ []) 1 0
    ≡ pos 1 ∷ pos 0 ∷ []
unfolding walk pick best step trial has_zero nonzeros holder least allowed within nz add lt
nonzero-ahead = refl
