-- What follows the window, as the one path to start from. Assumes nothing.
use mathlib.Core.Path.{◌≡◌, refl}
use mathlib.Core.List.{[], ◌∷◌}
use Prim.Native.Nat.{ℕ, zero, suc, ◌+◌, ◌-◌, ◌*◌, ◌≤◌, ◌<◌}
use native.Mathlib.Omega.{arith}
use native.Mathlib.Nat.{not-suc-le-zero, le_of_suc-le-suc}
use lib.Dec.{lit≤}
use lib.ListN.{get_or}
use lib.Ieee.{Float, nan}
use Rattle.beam_paths.specs.Held.{PathsFor, no_path}
use Rattle.block.specs.Block.{Block}
use Rattle.block.specs.Band.{positions_from, tail_of}
use Rattle.least_cost.specs.Position.{Tail}
use Rattle.prices.specs.Book.{Book}
use Rattle.search_checks.specs.Start.{Starts}
use Rattle.search_checks.specs.declared.start.Start.{Start}
use Rattle.weights.specs.declared.Window.{Window}
use Rattle.beam.specs.Beam.{end_path, beam_paths}
use Rattle.beam.specs.Held.{paths}

-- one path as numbers; what stands behind it is not read
one-path : (t : Tail) (past m n : ℕ) (x y a b c d : Float) → past ≡ t.count → x ≡ t.cost 0 → y ≡ t.cost 1
    → PathsFor (end_path t ∷ []) (record { count = 1; remaining = past ∷ m ∷ n ∷ []; costs = x ∷ y ∷ a ∷ b ∷ c ∷ d ∷ [] })
unfolding end_path
one-path t past m n x y a b c d e f g =
    record {
      count_is = refl;
      few = lit≤ tt;
      three = refl;
      six = refl;
      remaining_is = counts;
      cost_is = costs;
    }
  where
    counts : (j : ℕ) → j < 1 → get_or (past ∷ m ∷ n ∷ []) j 0 ≡ (get_or (end_path t ∷ []) j no_path).remaining
    counts zero h = e
    counts (suc j) h = absurd (not-suc-le-zero (le_of_suc-le-suc h))

    costs : (j p : ℕ) → j < 1 → p ≤ 1 → get_or (x ∷ y ∷ a ∷ b ∷ c ∷ d ∷ []) (2 * j + p) nan ≡ (get_or (end_path t ∷ []) j no_path).cost p
    costs zero zero h P = f
    costs zero (suc zero) h P = g
    costs zero (suc (suc p)) h P = absurd (not-suc-le-zero (le_of_suc-le-suc P))
    costs (suc j) p h P = absurd (not-suc-le-zero (le_of_suc-le-suc h))

last-paths : (v : Window) (book : Book) (b : Block) → paths v book b v.length ≡ end_path (tail_of v book b) ∷ []
unfolding beam_paths positions_from
last-paths v book b =
    let none : v.length - v.length ≡ 0 = omega arith in
    rw none

pub starts : (v : Window) (book : Book) (b : Block) (s : Start) (m n : ℕ) (x y z t : Float) → Starts v book b s
    → PathsFor (paths v book b v.length) (record { count = 1; remaining = s.past ∷ m ∷ n ∷ []; costs = s.zero ∷ s.one ∷ x ∷ y ∷ z ∷ t ∷ [] })
unfolding tail_of
starts v book b s m n x y z t e = rw (last-paths v book b) (one-path (tail_of v book b) s.past m n s.zero s.one x y z t e.past_is e.zero e.one)
