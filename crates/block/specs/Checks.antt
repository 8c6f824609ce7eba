-- Checks 7 to 14 of document 01, with document 02's 18 and 26, in the order in which they are made.
use Rattle.std.specs.Prelude.{ℕ, ◌+◌, ◌-◌, ◌*◌, Bool, cond, ◌&&◌, List, [], ◌∷◌, ◌++◌, eqb, leb, length, get_or}
use Rattle.ac_context.specs.Contexts.{is_power_below}
use Rattle.bias.specs.Level.{valid_bias}
use Rattle.candidates.specs.Candidates.{is_current}
use Rattle.candidates.specs.Nearest.{is_ideal}
use Rattle.laws.specs.Refusals.{first_refused}
use Rattle.prices.specs.Book.{Book}
use Rattle.prices.specs.Checks.{each, book_refusal}
use Rattle.scan.specs.Scan.{each_once}
use Rattle.weights.specs.Settings.{valid_settings}
use Rattle.weights.specs.declared.Window.{Window}
use Rattle.block.specs.Block.{Block, covered, input_at, ideal}

-- each side is 1, 2, 4, 8, 16 or 32
unfoldable pub check7 : Block → Bool
check7 b = is_power_below 6 b.shape.cx && is_power_below 6 b.shape.cy

-- block, scan, source and inverse weights hold 64c numbers each
unfoldable pub check8 : Block → Bool
check8 b =
    let n = 64 * covered b in
    eqb (length b.levels) n && eqb (length b.scan) n && eqb (length b.source) n && eqb (length b.inverse) n

unfoldable pub check9 : Block → Bool
check9 b = leb b.shape.strategy 26 && leb b.shape.channel 2

-- ISO/IEC 18181-1: how many 8×8 blocks a varblock of each strategy code covers
unfoldable pub strategy_covered : List ℕ
strategy_covered =
    1 ∷ 1 ∷ 1 ∷ 1 ∷ 4 ∷ 16 ∷ 2 ∷ 2 ∷ 4 ∷ 4 ∷ 8 ∷ 8 ∷ 1 ∷ 1 ∷ 1 ∷ 1 ∷ 1 ∷ 1 ∷ 64 ∷ 32 ∷ 32 ∷ 256 ∷ 128 ∷ 128 ∷ 1024 ∷ 512 ∷ 512 ∷ []

-- the sides' product is the strategy's; which side is the longer does not matter
unfoldable pub check18 : Block → Bool
check18 b = eqb (covered b) (get_or strategy_covered b.shape.strategy 0)

unfoldable pub check10 : Block → Bool
check10 b = valid_settings b.settings && valid_bias b.bias

-- check 26: the half-width w of the band
unfoldable pub valid_width : ℕ → Bool
valid_width w = leb 1 w && leb w 12

unfoldable pub check11 : Block → Bool
check11 b = each_once b.scan

-- each level from scan position c on lies within ±32,767
unfoldable pub check12 : Block → Bool
check12 b = each (63 * covered b) (λ i. is_current (input_at b (covered b + i)))

-- each ideal of the window is a number within ±32,767
unfoldable pub check13 : Window → Block → Bool
check13 v b = each v.length (λ i. is_ideal (ideal b i))

-- The checks of a block in their order, each with its number: first what is known without a look into the buffers, then 26 ..
unfoldable pub form_checks : Block → List (Bool × ℕ)
form_checks b = (check7 b, 7) ∷ (check8 b, 8) ∷ (check9 b, 9) ∷ (check18 b, 18) ∷ (check10 b, 10) ∷ []

-- .. then what the buffers hold.
unfoldable pub content_checks : Window → Block → List (Bool × ℕ)
content_checks v b = (check11 b, 11) ∷ (check12 b, 12) ∷ (check13 v b, 13) ∷ []

-- the number of the first check that a block fails, with a half-width w and a window v; else what comes after them
unfoldable pub block_refusal : ℕ → Window → Block → ℕ → ℕ
block_refusal w v b later = first_refused (form_checks b ++ ((valid_width w, 26) ∷ content_checks v b)) later

-- The first refusal of a search among checks 1 to 14, 18 and 26; 0 where there is none. `room`: check 14 passes.
unfoldable pub search_refusal : ℕ → Window → Book → Block → Bool → ℕ
search_refusal w v book b room = cond (eqb (book_refusal book) 0) (block_refusal w v b (cond room 0 14)) (book_refusal book)

-- Check 14. A search asks for `bytes` choice bytes a window position and, in each cost row, for `floats` floats.
unfoldable pub enough_room : ℕ → ℕ → ℕ → ℕ → ℕ → ℕ → Bool
enough_room bytes floats window choices row_a row_b = leb (bytes * window) choices && leb floats row_a && leb floats row_b

-- The trellis, w being the half-width of its band: a position has 2w + 2 counts, each with a state for `prev` 0 and one for `prev` 1. A byte holds the choices of the two
-- (document 02), a row their costs.
abbrev pub choice_bytes : ℕ → ℕ
choice_bytes w = 2 * w + 2

abbrev pub states : ℕ → ℕ
states w = 2 * (2 * w + 2)

abbrev pub trellis_room : ℕ → ℕ → ℕ → ℕ → ℕ → Bool
trellis_room w window choices row_a row_b = enough_room (choice_bytes w) (states w) window choices row_a row_b

-- document 01's, a byte for each choice
abbrev pub wide_room : ℕ → ℕ → ℕ → ℕ → ℕ → Bool
wide_room w window choices row_a row_b = enough_room (states w) (states w) window choices row_a row_b

-- The beam: six bytes, a path of three for each `prev`. Greedy: nothing.
abbrev pub beam_room : ℕ → ℕ → Bool
beam_room window choices = leb (6 * window) choices
