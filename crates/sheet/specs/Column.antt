-- A column of the context sheet (document 01): six characters, a decimal number right-justified, with no leading zeros.
use Rattle.std.specs.Prelude.{ℕ, zero, suc, ◌+◌, ◌-◌, ◌*◌, ◌/◌, ◌%◌, Bool, true, cond, ◌&&◌, List, [], ◌∷◌, ltb, leb, eqb, get_or}

-- the characters that the sheet is written in
abbrev pub space : ℕ
space = 32

abbrev pub digit_zero : ℕ
digit_zero = 48

abbrev pub minus : ℕ
minus = 45

abbrev pub newline : ℕ
newline = 10

-- what a digit in each of the six places is worth
unfoldable pub places : List ℕ
places = 100000 ∷ 10000 ∷ 1000 ∷ 100 ∷ 10 ∷ 1 ∷ []

-- the character at place i of the column of n: a digit, or a space in front of the first one
unfoldable pub column_char : ℕ → ℕ → ℕ
column_char n i =
    cond (ltb i 5 && eqb (n / get_or places i 0) 0) space (digit_zero + n / get_or places i 0 % 10)

unfoldable pub column : ℕ → List ℕ
column n =
    column_char n 0 ∷ column_char n 1 ∷ column_char n 2 ∷ column_char n 3 ∷ column_char n 4 ∷ column_char n 5 ∷ []

-- what a character adds to the number: a digit itself, any other nothing
unfoldable pub digit_of : ℕ → ℕ
digit_of char = cond (leb digit_zero char && ltb char 58) (char - digit_zero) 0

-- the number that six characters from `at` on stand for, if they are a column
unfoldable pub column_value : List ℕ → ℕ → ℕ
column_value text at =
    digit_of (get_or text at 0) * 100000 + digit_of (get_or text (at + 1) 0) * 10000
    + digit_of (get_or text (at + 2) 0) * 1000
    + digit_of (get_or text (at + 3) 0) * 100
    + digit_of (get_or text (at + 4) 0) * 10
    + digit_of (get_or text (at + 5) 0)

-- the first k characters from `at` on are those of n's column
unfoldable pub agrees : List ℕ → ℕ → ℕ → ℕ → Bool
agrees text at n zero = true
agrees text at n (suc k) = agrees text at n k && eqb (get_or text (at + k) 0) (column_char n k)

-- six characters are a column where they are what their number is printed as
unfoldable pub is_column : List ℕ → ℕ → Bool
is_column text at = agrees text at (column_value text at) 6
