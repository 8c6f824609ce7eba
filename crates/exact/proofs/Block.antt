-- Every term of a block's cost is a float of binary32, and so the exact cost of the least choice is near that of any other. Assumes nothing.
use mathlib.Core.Path.{◌≡◌, refl, sym, subst}
use mathlib.Core.Bool.{Bool, true, false, cond}
use mathlib.Core.List.Memᴰ.{head as here}
use mathlib.Core.List.Memᴰ.{tail as there}
use mathlib.Core.List.{List, [], ◌∷◌, Memᴰ as Mem}
use Prim.Native.Nat.{ℕ, zero, suc, ◌+◌, ◌-◌, ◌*◌}
use lib.Dec.{T, eqb}
use lib.IntN.{ℤ, pos}
use lib.Ieee.{Float, fin, binary32, add, mul, fits}
use lib.Ieee.Fits.{add-fits, mul-fits}
use Rattle.block.specs.Block.{Block, covered, input_at, input_remaining}
use Rattle.block.specs.Cost.{distortion_of, distortion, rate, token_price, local_cost, tokens_from, tail_cost, count_cost}
use Rattle.block.specs.Band.{position_at, positions_from, tail_of, problem_of}
use Rattle.least_cost.specs.Position.{Position, nz}
use Rattle.prices.specs.Book.{Book}
use Rattle.weights.specs.declared.Window.{Window}
use Rattle.exact.proofs.Choices.{Floats, WholeFloats}

either-fits : (t : Bool) (x y : Float) → T (fits binary32 x) → T (fits binary32 y) → T (fits binary32 (cond t x y))
either-fits true x y f g = f
either-fits false x y f g = g

module _ (book : Book) (b : Block) where
  distortion-fits : (i : ℕ) (q : ℤ) → T (fits binary32 (distortion b i q))
  unfolding distortion distortion_of
  distortion-fits i q = mul-fits binary32 _ _

  local_fits : (i r p : ℕ) (q : ℤ) → T (fits binary32 (local_cost book b i r p q))
  unfolding local_cost
  local_fits i r p q = either-fits (eqb r 0) _ _ (distortion-fits i q) (add-fits binary32 _ _)

  tokens-fit : (n r k p : ℕ) (sum : Float) → T (fits binary32 sum) → T (fits binary32 (tokens_from book b n r k p sum))
  unfolding tokens_from
  tokens-fit zero r k p sum h = h
  tokens-fit (suc n) r k p sum h =
      either-fits (eqb r 0) _ _ h
      (tokens-fit n (r - nz (input_at b k)) (suc k) (nz (input_at b k)) (add binary32 sum (mul binary32 b.settings.lambda (token_price book b r k p (input_at b k)))) (add-fits binary32 _ _))

  tail-fits : (n p : ℕ) → T (fits binary32 (tail_cost book b n p))
  unfolding tail_cost fits
  tail-fits n p = tokens-fit _ _ _ p (fin false 0 (pos 0)) tt

  positions-fit : (w : ℕ) (v : Window) (i n : ℕ) (q : Position) → Mem q (positions_from w v book b i n) → (r p : ℕ) (c : ℤ) → T (fits binary32 (q.price r p c))
  unfolding positions_from position_at
  positions-fit w v i zero q x' r p c = elim x' [ ]
  positions-fit w v i (suc n) q (here e) r p c = subst (λ (x : Position). T (fits binary32 (x.price r p c))) (sym e) (local_fits i r p c)
  positions-fit w v i (suc n) q (there m) r p c = positions-fit w v (suc i) n q m r p c

  pub block-floats : (w : ℕ) (v : Window) → WholeFloats (problem_of w v book b)
  unfolding problem_of tail_of count_cost
  block-floats w v =
      record {
        floats = record { tails = λ p. tail-fits v.length p; each = λ q m. positions-fit w v 0 v.length q m };
        counts = λ n. mul-fits binary32 _ _;
      }
