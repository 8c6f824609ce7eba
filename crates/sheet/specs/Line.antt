-- A line of the context sheet (document 01), and what is printed for it.
use Rattle.std.specs.Prelude.{ℕ, zero, suc, ◌+◌, Bool, true, false, ◌&&◌, List, [], ◌∷◌, ◌++◌, eqb, length, set, get_or, Result, Ok, Err}
use Rattle.token_calls.specs.Contexts.{zero_density_reply}
use Rattle.refusals.specs.declared.Refusal.{Refusal}
use Rattle.sheet.specs.Column.{space, digit_zero, minus, newline, column, column_value, is_column}

-- four columns: covered blocks, remaining, k, prev
unfoldable pub is_line : List ℕ → Bool
is_line text = eqb (length text) 24 && is_column text 0 && is_column text 6 && is_column text 12 && is_column text 18

unfoldable pub context_of : List ℕ → Result ℕ Refusal
context_of text =
    zero_density_reply (column_value text 0) (column_value text 6) (column_value text 12) (column_value text 18)

-- -1 and -2, each as a column
abbrev pub minus_column : ℕ → List ℕ
minus_column n = space ∷ space ∷ space ∷ space ∷ minus ∷ (digit_zero + n) ∷ []

-- the fifth column: the context, or -1 outside the domain
abbrev pub fifth : Result ℕ Refusal → List ℕ
fifth (Ok context) = column context
fifth (Err refusal) = minus_column 1

abbrev pub printed_line : Bool → List ℕ → List ℕ
printed_line true text = text ++ (fifth (context_of text) ++ (newline ∷ []))
printed_line false text = minus_column 2 ++ (newline ∷ [])

-- what is printed for a line, given without its newline
unfoldable pub printed : List ℕ → List ℕ
printed text = printed_line (is_line text) text

-- the list with the first n entries of `bytes` laid over it from `at` on
unfoldable pub laid : List ℕ → ℕ → ℕ → List ℕ → List ℕ
laid bytes at zero out = out
laid bytes at (suc n) out = set (laid bytes at n out) (at + n) (get_or bytes n 0)
