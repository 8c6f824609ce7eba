-- The tokens of a choice, by their prices (document 01, "The steps they share"): the whole count in its context, then each packed level from scan position c on until
-- nothing remains.
use Rattle.std.specs.Prelude.{ℕ, suc, ◌+◌, ◌-◌, ◌*◌, Bool, false, cond, ◌||◌, List, [], ◌∷◌, ◌++◌, eqb, ℤ, Float}
use Rattle.std.specs.Float.{inf}
use Rattle.std.specs.Float.Ieee.{eq}
use Rattle.ac_context.specs.Contexts.{fine_non_zero_context}
use Rattle.block.specs.Block.{Block, covered, context_of, input_from}
use Rattle.block.specs.Cost.{token_price, first_prev}
use Rattle.least_cost.specs.Position.{nz}
use Rattle.least_cost.specs.Choice.{remaining}
use Rattle.prices.specs.Book.{Book, price}
use Rattle.weights.specs.declared.Window.{Window}

-- how many scan positions lie past the window
unfoldable pub past_length : Window → Block → ℕ
past_length v b = 64 * covered b - (covered b + v.length)

-- all levels from scan position c on, where a choice takes `levels` in the window: its other levels are the input's
unfoldable pub chosen_levels : Window → Block → List ℤ → List ℤ
chosen_levels v b levels = levels ++ input_from b (covered b + v.length) (past_length v b)

-- the nonzero levels of a list
abbrev pub nonzeros_of : List ℤ → ℕ
nonzeros_of qs = remaining 0 qs

-- the tokens of the levels from scan position k on
unfoldable pub level_tokens : Book → Block → ℕ → ℕ → List ℤ → List Float
level_tokens book b k prev [] = []
level_tokens book b k prev (q ∷ qs) =
    cond (eqb (nonzeros_of (q ∷ qs)) 0) [] (token_price book b (nonzeros_of (q ∷ qs)) k prev q ∷ level_tokens book b (suc k) (nz q) qs)

unfoldable pub tokens_of : Book → Block → List ℤ → List Float
tokens_of book b qs =
    price book (fine_non_zero_context b.shape.predicted (context_of b)) (nonzeros_of qs)
    ∷ level_tokens book b (covered b) (first_prev b (nonzeros_of qs)) qs

-- one of the prices is infinite
unfoldable pub some_infinite : List Float → Bool
some_infinite [] = false
some_infinite (x ∷ xs) = eq x (inf false) || some_infinite xs

-- a choice of levels for the window needs a token of infinite price
unfoldable pub needs_infinite : Window → Book → Block → List ℤ → Bool
needs_infinite v book b levels = some_infinite (tokens_of book b (chosen_levels v b levels))
