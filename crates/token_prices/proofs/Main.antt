-- The search prices what the writer writes. Assumes nothing.
use Prim.Native.Nat.{ℕ, suc}
use mathlib.Core.Path.{◌≡◌, refl, ap}
use mathlib.Core.Bool.{Bool, true, false, cond}
use mathlib.Core.List.{List, [], ◌∷◌, map}
use lib.Dec.{eqb}
use lib.IntN.{ℤ}
use lib.Ieee.{Float}
use Rattle.block.specs.Block.{Block, covered, context_of}
use Rattle.block.specs.Cost.{token_price, first_prev}
use Rattle.least_cost.specs.Position.{nz}
use Rattle.packing.specs.Signed.{pack_signed}
use Rattle.prices.specs.Book.{Book, price, cluster_price}
use Rattle.problem.specs.Tokens.{tokens_of, level_tokens as level_prices}
use Rattle.block_tokens.specs.Tokens.{covered_by, context_by, count_context, level_context, prev_by, nonzeros_of, level_tokens, block_tokens}
use Rattle.block_tokens.specs.Code.{symbol_in, extra_in}
use Rattle.token_prices.specs.Priced.{token_cost, Priced}

module _ (book : Book) (b : Block) where
  level-prices : (k prev : ℕ) (qs : List ℤ) → level_prices book b k prev qs ≡ map (token_cost book) (level_tokens b.shape k prev qs)
  unfolding level_prices level_tokens token_price level_context context_by covered_by context_of covered
  level-prices k prev [] = refl
  level-prices k prev (q ∷ qs) = go (eqb (nonzeros_of (q ∷ qs)) 0) (level-prices (suc k) (nz q) qs)
    where
      left : ℕ
      left = nonzeros_of (q ∷ qs)

      go : (t : Bool) → level_prices book b (suc k) (nz q) qs ≡ map (token_cost book) (level_tokens b.shape (suc k) (nz q) qs)
          → cond t [] (token_price book b left k prev q ∷ level_prices book b (suc k) (nz q) qs)
          ≡ map (token_cost book) (cond t [] (record { context = level_context b.shape left k prev; value = pack_signed q } ∷ level_tokens b.shape (suc k) (nz q) qs))
      go true r = refl
      go false r = ap (λ (xs : List Float). token_price book b left k prev q ∷ xs) r

  prices-of-tokens : (qs : List ℤ) → tokens_of book b qs ≡ map (token_cost book) (block_tokens b.shape qs)
  unfolding tokens_of block_tokens count_context context_by covered_by context_of covered first_prev prev_by
  prices-of-tokens qs =
      ap (λ (xs : List Float). price book (count_context b.shape) (nonzeros_of qs) ∷ xs)
      (level-prices (covered_by b.shape) (prev_by b.shape (nonzeros_of qs)) qs)

  pub priced : Priced book b
  unfolding price cluster_price symbol_in extra_in
  priced = record { tokens = prices-of-tokens; written = λ t. refl }
