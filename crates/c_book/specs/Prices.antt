-- What the exported price calls promise: the code, and the caller's variables, which a refusal leaves as they were. A value whose symbol is above 127 has no word, and costs +infinity.
use Rattle.std.specs.Prelude.{ℕ, ◌+◌, ◌<◌, ◌≡◌, false, Float}
use Rattle.std.specs.Float.{inf}
use Rattle.prices.specs.Book.{Book}
use Rattle.book_calls.specs.Prices.{symbol_in}
use Rattle.price_leaves.specs.Leaf.{price_reply, pair_reply}
use Rattle.refusals.specs.Numbers.{code_of}
use Rattle.c_answers.specs.Told.{after, first_after, second_after}

pub record PriceTold (b : Book) (context v : ℕ) (before : Float) (code : ℕ) (bits : Float) : Type 0 where
  pub code_is : code ≡ code_of (price_reply b context v)
  pub bits_are : bits ≡ after (price_reply b context v) before
  pub no_word : 127 < symbol_in b context v → code ≡ 0 → bits ≡ inf false

-- the same of a pair, each price by itself
pub record PairTold (b : Book) (context v : ℕ) (before₁ before₂ : Float) (code : ℕ) (after₁ after₂ : Float) : Type 0 where
  pub code_is : code ≡ code_of (pair_reply b context v)
  pub first_is : after₁ ≡ first_after (pair_reply b context v) before₁
  pub second_is : after₂ ≡ second_after (pair_reply b context v) before₂
  pub no_first_word : 127 < symbol_in b context v → code ≡ 0 → after₁ ≡ inf false
  pub no_second_word : 127 < symbol_in b (context + 1) v → code ≡ 0 → after₂ ≡ inf false
