-- The search prices what the writer writes.
use Rattle.std.specs.Prelude.{◌≡◌, List, map, ℤ, pos, Float}
use Rattle.std.specs.Float.Ieee.{add, of_int}
use Rattle.std.specs.Float.{binary32}
use Rattle.block.specs.Block.{Block}
use Rattle.prices.specs.Book.{Book, symbol_at, price}
use Rattle.problem.specs.Tokens.{tokens_of}
use Rattle.block_tokens.specs.Tokens.{Token, block_tokens}
use Rattle.block_tokens.specs.Code.{Code, code_of, cluster_of, symbol_in, extra_in}

-- what the writer takes of a price book
abbrev pub code_of_book : Book → Code
code_of_book book = code_of book.map book.configs

-- the price of a token
abbrev pub token_cost : Book → Token → Float
token_cost book t = price book t.context t.value

pub record Priced (book : Book) (b : Block) : Type 0 where
  -- The tokens by which document 01 reckons the cost of the levels qs from scan position c on are those that the writer writes of them ..
  pub tokens : (qs : List ℤ) → tokens_of book b qs ≡ map (token_cost book) (block_tokens b.shape qs)
  -- .. and each costs the price of the symbol written plus the number of extra bits written.
  pub written : (t : Token)
      → token_cost book t ≡ add binary32 (symbol_at book.symbols (cluster_of (code_of_book book) t.context) (symbol_in (code_of_book book) t)) (of_int binary32 (pos (extra_in (code_of_book book) t)))
