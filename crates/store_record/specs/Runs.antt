-- A store's record (ticket 14): the number of runs, then number, start and length of each, in the order in which the runs stand in room.
use Rattle.std.specs.Prelude.{ℕ, zero, suc, ◌+◌, ◌*◌, Bool, true, false, not, cond, ◌&&◌, ◌||◌, List, [], ◌∷◌, eqb, leb, ltb, length, get_or}
use Rattle.store_record.specs.Placed.{placed}
use Rattle.store_record.specs.declared.Run.{Run}

abbrev pub run : ℕ → ℕ → ℕ → Run
run k start size = record { number = k; start = start; size = size }

-- run i of a record
abbrev pub run_at : List ℕ → ℕ → Run
run_at r i = run (get_or r (3 * i + 1) 0) (get_or r (3 * i + 2) 0) (get_or r (3 * i + 3) 0)

-- n runs of a record, from run i on
unfoldable pub runs_from : List ℕ → ℕ → ℕ → List Run
runs_from r i zero = []
runs_from r i (suc n) = run_at r i ∷ runs_from r (suc i) n

unfoldable pub runs_of : List ℕ → List Run
runs_of r = runs_from r 0 (get_or r 0 0)

-- the three numbers of each run
unfoldable pub flat : List Run → List ℕ
flat [] = []
flat (x ∷ xs) = x.number ∷ x.start ∷ x.size ∷ flat xs

-- the record that says n runs and has these in front; what stands past them is as it was
abbrev pub headed : ℕ → List Run → List ℕ → List ℕ
headed n rs r = placed 0 (n ∷ flat rs) r

unfoldable pub recorded : List Run → List ℕ → List ℕ
recorded rs r = headed (length rs) rs r

-- ---- check 37

-- each run starts where the one before it ends, or later, and ends within the room
unfoldable pub in_order : ℕ → ℕ → List Run → Bool
in_order end size [] = true
in_order end size (x ∷ xs) = leb end x.start && leb (x.start + x.size) size && in_order (x.start + x.size) size xs

-- whether a run stands under number k
unfoldable pub holds : ℕ → List Run → Bool
holds k [] = false
holds k (x ∷ xs) = eqb k x.number || holds k xs

-- each number is below m, and none is there twice
unfoldable pub numbered : ℕ → List Run → Bool
numbered m [] = true
numbered m (x ∷ xs) = ltb x.number m && not (holds x.number xs) && numbered m xs

unfoldable pub valid_runs : ℕ → List Run → Bool
valid_runs size rs = in_order 0 size rs && numbered 1024 rs

-- whether a record passes check 37, for a room of `size` tokens
unfoldable pub valid_record : ℕ → List ℕ → Bool
valid_record size r = eqb (length r) 3073 && leb (get_or r 0 0) 1024 && valid_runs size (runs_of r)

-- ---- what the calls ask of runs

-- the runs under other numbers
unfoldable pub others : ℕ → List Run → List Run
others k [] = []
others k (x ∷ xs) = cond (eqb k x.number) (others k xs) (x ∷ others k xs)

-- the run under number k
unfoldable pub run_under : ℕ → List Run → Run
run_under k [] = run 0 0 0
run_under k (x ∷ xs) = cond (eqb k x.number) x (run_under k xs)

-- how many tokens the runs have
unfoldable pub live : List Run → ℕ
live [] = 0
live (x ∷ xs) = x.size + live xs

-- where the last run ends; `end` where there is none
unfoldable pub end_of : ℕ → List Run → ℕ
end_of end [] = end
end_of end (x ∷ xs) = end_of (x.start + x.size) xs

-- the runs one after the other, from `at` on
unfoldable pub packed : ℕ → List Run → List Run
packed at [] = []
packed at (x ∷ xs) = run x.number at x.size ∷ packed (at + x.size) xs
