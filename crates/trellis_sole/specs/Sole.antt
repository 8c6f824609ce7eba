-- What a position with one candidate is worked out from.
use Rattle.std.specs.Prelude.{ℕ, ◌≤◌, ◌≡◌, cond, false, List, ◌∷◌, [], T, eqb, ℤ, pos, Float}
use Rattle.std.specs.Float.{inf, fin, binary32}
use Rattle.std.specs.Float.Ieee.{lt, add}
use Rattle.costs.specs.Cost.{cost}
use Rattle.least_cost.specs.Position.{nz}
use Rattle.prices.specs.Book.{Book}
use Rattle.prices.specs.declared.Pair.{Pair}
use Rattle.steps.specs.Place.{distortion_at, context_at, rated_in, local_at}
use Rattle.steps.specs.declared.Place.{Place}
use Rattle.steps.specs.declared.best.Best.{Best}
use Rattle.trellis_row.specs.Row.{tail_at, nonzero_tail, zero_tail}
use Rattle.trellis_row.specs.declared.row.Span.{Span}
use Rattle.trellis_row.specs.declared.row.States.{States}

-- what follows level q where r remain
unfoldable pub sole_tail : ℤ → List Float → Span → ℕ → Float
sole_tail q next s r = cond (eqb (nz q) 0) (tail_at next s r 0) (nonzero_tail next s r)

-- a state of the sole level, the first of the list
unfoldable pub sole_chosen : Float → Best ℕ
sole_chosen v = record { cost = v; choice = cond (lt v (inf false)) 0 255 }

unfoldable pub sole_states : Float → Pair → Float → States
sole_states distortion token tail =
    record {
      first = sole_chosen (add binary32 (add binary32 distortion token.first) tail);
      second = sole_chosen (add binary32 (add binary32 distortion token.second) tail);
    }

-- the rated prices of q's token in a context, 0.0 where there is no token
unfoldable pub token_in : Book → Place → ℕ → ℕ → ℤ → Float
token_in book x context prev q = cond (eqb context 0) (fin false 0 (pos 0)) (rated_in book x context prev q)

pub record TokenIs (book : Book) (x : Place) (context : ℕ) (q : ℤ) (token : Pair) : Type 0 where
  pub first : token.first ≡ token_in book x context 0 q
  pub second : token.second ≡ token_in book x context 1 q

-- what a count's two states are worked out from: costs throughout, the level's distortion, and its token's prices in the count's context
pub record SoleReady (book : Book) (x : Place) (next : List Float) (s : Span) (q : ℤ) (distortion : Float) (token : Pair) (r : ℕ) : Type 0 where
  pub local : (p : ℕ) → p ≤ 1 → T (cost (local_at book x r p q))
  pub nonzero_follows : T (cost (nonzero_tail next s r))
  pub zero_follows : T (cost (zero_tail (q ∷ []) next s r))
  pub distortion_is : distortion ≡ distortion_at x q
  pub token_is : TokenIs book x (context_at x r) q token
