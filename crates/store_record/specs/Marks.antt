-- How check 37 is made: in one pass, with a mark at each number met.
use Rattle.std.specs.Prelude.{ℕ, ◌+◌, Bool, true, ◌&&◌, List, [], ◌∷◌, eqb, leb, ltb, get_or, set}
use Rattle.store_record.specs.declared.Run.{Run}

-- a run that starts at `end` or later, ends within the room, and has a number below 1,024
unfoldable pub fits : ℕ → ℕ → Run → Bool
fits end size x = ltb x.number 1024 && leb end x.start && leb (x.start + x.size) size

unfoldable pub passes : ℕ → ℕ → List ℕ → List Run → Bool
passes end size marks [] = true
passes end size marks (x ∷ xs) = fits end size x && (eqb (get_or marks x.number 0) 0 && passes (x.start + x.size) size (set marks x.number 1) xs)
