-- Writing a run of a list's entries.
use Rattle.std.specs.Prelude.{ℕ, zero, suc, ◌+◌, List, set}

-- xs with f i at each i from a on, n of them
unfoldable pub paint : {A : Type 0} → (ℕ → A) → ℕ → ℕ → List A → List A
paint f a zero xs = xs
paint f a (suc n) xs = set (paint f a n xs) (a + n) (f (a + n))
