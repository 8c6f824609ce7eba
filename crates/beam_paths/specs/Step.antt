-- From the paths behind a position to the paths from it on. The order of paths is significant. Assumes nothing.
use Rattle.std.specs.Prelude.{ℕ, suc, Bool, false, cond, ◌||◌, List, [], ◌∷◌, ◌++◌, ℤ, pos, length, get_or, take, eqb, leb, Float}
use Rattle.std.specs.Float.{inf}
use Rattle.std.specs.Float.Ieee.{lt}
use Rattle.least_cost.specs.Position.{Position}
use Rattle.least_cost.specs.Search.{least, holder}
use Rattle.beam_paths.specs.Path.{Path, Way, way_remaining, way_cost, way_levels, ways, no_way}

-- paths kept at a position (RDOQ_BEAM_WIDTH)
abbrev pub width : ℕ
width = 3

-- ---- A sole candidate: every path takes it. Order and number are kept, infinite paths too.
unfoldable pub extended : Position → ℤ → List Path → List Path
extended q c [] = []
extended q c (x ∷ xs) =
    let w : Way = record { path = x; level = c } in
    record { remaining = way_remaining w; cost = λ p. way_cost q p w; levels = λ p. way_levels w } ∷ extended q c xs

-- ---- Several candidates: paths that reach one count merge
-- the counts that are reached, in the order in which they are named: of each path its own and the next one, infinite paths too
unfoldable pub has : ℕ → List ℕ → Bool
has n [] = false
has n (m ∷ ms) = eqb n m || has n ms

unfoldable pub naming : List ℕ → ℕ → List ℕ
naming ns n = cond (has n ns) ns (ns ++ (n ∷ []))

unfoldable pub counts_named : List ℕ → List Path → List ℕ
counts_named ns [] = ns
counts_named ns (x ∷ xs) = counts_named (naming (naming ns x.remaining) (suc x.remaining)) xs

-- the ways that reach count n
unfoldable pub reaching : ℕ → List Way → List Way
reaching n [] = []
reaching n (w ∷ ws) = cond (eqb (way_remaining w) n) (w ∷ reaching n ws) (reaching n ws)

-- for either `prev` the first least of them
unfoldable pub merged : Position → List Way → ℕ → Path
merged q ws n =
    record {
      remaining = n;
      cost = λ p. least (way_cost q p) (inf false) (reaching n ws);
      levels = λ p. way_levels (holder (way_cost q p) (inf false) no_way (reaching n ws));
    }

unfoldable pub merged_at : Position → List Way → List ℕ → List Path
merged_at q ws [] = []
merged_at q ws (n ∷ ns) = merged q ws n ∷ merged_at q ws ns

-- ---- The cheapest three
-- the smaller cost of the two
unfoldable pub key : Path → Float
key x = cond (lt (x.cost 1) (x.cost 0)) (x.cost 1) (x.cost 0)

-- in front of the first that is dearer
unfoldable pub insert : Path → List Path → List Path
insert x [] = x ∷ []
insert x (y ∷ ys) = cond (lt (key x) (key y)) (x ∷ y ∷ ys) (y ∷ insert x ys)

-- a stable sort: among equals the one named first stays first
unfoldable pub sorting : List Path → List Path → List Path
sorting done [] = done
sorting done (x ∷ xs) = sorting (insert x done) xs

-- three or fewer are kept as they stand, in the order in which they were named
unfoldable pub kept : List Path → List Path
kept xs = cond (leb (length xs) width) xs (take width (sorting [] xs))

-- ---- The step
unfoldable pub stepped : Position → List Path → List Path
stepped q xs =
    cond (eqb (length q.candidates) 1)
    (extended q (get_or q.candidates 0 (pos 0)) xs)
    (kept (merged_at q (ways xs q.candidates) (counts_named [] xs)))
