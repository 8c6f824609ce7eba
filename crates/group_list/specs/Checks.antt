-- What is refused of a list before any search, in the order in which it is tested: 17, 7, the channel part of 9, 29, 30, 31, each over the whole list before the next.
use Rattle.std.specs.Prelude.{ℕ, ◌+◌, ◌-◌, ◌*◌, ◌%◌, ◌≡◌, Bool, true, not, cond, ◌&&◌, ◌||◌, List, [], ◌∷◌, eqb, leb, length, Float}
use Rattle.ac_context.specs.Contexts.{is_power_below}
use Rattle.laws.specs.Refusals.{first_refused}
use Rattle.prices.specs.Checks.{each}
use Rattle.group_list.specs.Heads.{Head, heads_of, blocks_in, covering}

-- p holds of each block and the blocks before it, the last of them first
unfoldable pub in_order : (List Head → Head → Bool) → List Head → List Head → Bool
in_order p before [] = true
in_order p before (h ∷ hs) = p before h && in_order p (h ∷ before) hs

-- a test of a list goes by the words alone: the answer t is the same whatever the floats are
abbrev pub Tested : (List Head → Head → Bool) → List ℕ → Bool → Type 0
Tested p words t = (reals : List Float) → t ≡ in_order p [] (heads_of words reals)

-- 17: whole blocks, 8 words and 7 floats each
unfoldable pub whole_blocks : List ℕ → List Float → Bool
whole_blocks words reals = eqb (length words % 8) 0 && eqb (length reals) (7 * blocks_in words)

-- 7: each side is 1, 2, 4, 8, 16 or 32
unfoldable pub sided : List Head → Head → Bool
sided before h = is_power_below 6 h.cx && is_power_below 6 h.cy

-- 9: the channel
unfoldable pub channelled : List Head → Head → Bool
channelled before h = leb h.channel 2

-- 29: within the group of 32 by 32 cells
unfoldable pub inside : List Head → Head → Bool
inside before h = leb (h.x + h.cx) 32 && leb (h.y + h.cy) 32

-- 30: none of its cells is a cell of an earlier block of its channel
unfoldable pub apart : List Head → Head → Bool
apart before h = each h.cy (λ j. each h.cx (λ i. not (covering before h.channel (h.x + i) (h.y + j))))

-- 31: the cells left of and above its top left cell, where they exist, are cells of earlier blocks of its channel
unfoldable pub neighboured : List Head → Head → Bool
neighboured before h =
    (eqb h.x 0 || covering before h.channel (h.x - 1) h.y) && (eqb h.y 0 || covering before h.channel h.x (h.y - 1))

-- the first of 7, 9, 29, 30, 31 that some block meets; 0 where none does
unfoldable pub heads_refusal : List Head → ℕ
heads_refusal hs =
    first_refused
    ((in_order sided [] hs, 7) ∷ (in_order channelled [] hs, 9) ∷ (in_order inside [] hs, 29) ∷ (in_order apart [] hs, 30) ∷ (in_order neighboured [] hs, 31) ∷ [])
    0

unfoldable pub list_refusal : List ℕ → List Float → ℕ
list_refusal words reals = cond (whole_blocks words reals) (heads_refusal (heads_of words reals)) 17
