-- From an empty store the answers are those of a plain map. Assumes nothing.
use Prim.Native.Nat.{ℕ}
use mathlib.Core.Path.{◌≡◌, refl, ap, ◌∙◌}
use mathlib.Core.Bool.{true}
use mathlib.Core.List.{List, [], ◌∷◌}
use native.Mathlib.Omega.{arith}
use borrow.Author.Tests.{eq-eqb}
use lib.ListN.{length, get_or, replicate, length-replicate, get_or-replicate}
use Rattle.store_record.specs.Runs.{runs_of, runs_from, valid_record, valid_runs, in_order, numbered}
use Rattle.store_map.specs.Map.{Entry, reply_on, after}
use Rattle.store_map.specs.Store.{Store, right, map_of, entries}
use Rattle.store_runs.specs.Trace.{Event, Trace, calls_of, answers_of, replies, AsMap}

-- from a store that passes check 37 and stands for m
pub as-from : (size : ℕ) (m : List Entry) (s : Store) (es : List Event) → length s.room ≡ size → right s ≡ true → map_of s ≡ m → Trace s es → answers_of es ≡ replies size m (calls_of es)
unfolding calls_of answers_of replies
as-from size m s [] l ok e t = refl
as-from size m s (x ∷ es) l ok e t =
    let k = t.0 in
    let same : x.answer ≡ reply_on size m x.call = rw (← l, ← e) (k.answered ok) in
    let next : map_of x.left ≡ after size m x.call = rw (← l, ← e) (k.kept ok) in
    rw (same, as-from size (after size m x.call) x.left es (k.long ∙ l) (k.still ok) next t.1)

-- ---- the empty store

none : (r : List ℕ) → r ≡ replicate 3073 0 → get_or r 0 0 ≡ 0
none r e = ap (λ (l : List ℕ). get_or l 0 0) e ∙ get_or-replicate 3073 0 0 0 (omega arith)

no-runs : (r : List ℕ) → r ≡ replicate 3073 0 → runs_of r ≡ []
unfolding runs_of runs_from
no-runs r e = rw (none r e)

empty_right : (size : ℕ) (r : List ℕ) → r ≡ replicate 3073 0 → valid_record size r ≡ true
unfolding valid_record valid_runs in_order numbered
empty_right size r e =
    rw (eq-eqb (length r) 3073 (ap length e ∙ length-replicate {A = ℕ} 3073 0), none r e, no-runs r e)

empty-map : (s : Store) → s.rec ≡ replicate 3073 0 → map_of s ≡ []
unfolding map_of entries
empty-map s e = rw (no-runs s.rec e)

pub as-map : AsMap
as-map s es e t = as-from (length s.room) [] s es refl (empty_right (length s.room) s.rec e) (empty-map s e) t
