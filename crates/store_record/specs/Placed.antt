-- Numbers written over a part of a list.
use Rattle.std.specs.Prelude.{ℕ, ◌+◌, List, ◌++◌, length, take, drop}

-- zs with ys in place of what stood from `at` on
unfoldable pub placed : ℕ → List ℕ → List ℕ → List ℕ
placed at ys zs = take at zs ++ (ys ++ drop (at + length ys) zs)
