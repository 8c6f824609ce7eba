-- The tokens of a store's runs.
use Rattle.std.specs.Prelude.{ℕ, List, [], ◌∷◌, ◌++◌, take, drop}
use Rattle.store_record.specs.declared.Run.{Run}

-- the tokens of a run
unfoldable pub tokens_of : List ℕ → Run → List ℕ
tokens_of room x = take x.size (drop x.start room)

-- the tokens of the runs, one run after the other
unfoldable pub joined : List ℕ → List Run → List ℕ
joined room [] = []
joined room (x ∷ xs) = tokens_of room x ++ joined room xs
