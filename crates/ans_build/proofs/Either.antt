-- A book from either builder: where checks 1 to 4 pass, its ready prices filled, it passes checks 1 to 6. Assumes nothing.
use Prim.Native.Nat.{ℕ, ◌<◌}
use mathlib.Core.Path.{◌≡◌}
use mathlib.Core.Bool.{true}
use mathlib.Core.List.{List}
use lib.ListN.{get_or}
use lib.Ieee.{Float}
use Rattle.prices.specs.Book.{Book}
use Rattle.prices.specs.Checks.{all_priced, check1, check2, check3, check4, check5, first_two, first_five, fill_refusal, book_refusal}
use Rattle.book_build.specs.Prefix.{Prefix, prefix_refusal, prefix_symbols}
use Rattle.book_build.specs.Fill.{filled}
use Rattle.book_build.proofs.Filled.{filled-passes}
use Rattle.book_build.proofs.Prefixed as Prefixed
use Rattle.ans_build.specs.Ans.{ans_refusal, ans_symbols}
use Rattle.ans_build.proofs.Built.{built-passes}

-- where a book's symbol prices come from
pub data Built (symbols : List Float) : Type 0 where
  prefix : (p : Prefix) (xs : List Float) → ((i : ℕ) → get_or p.depths i 0 < 256) → prefix_refusal p xs ≡ 0 → symbols ≡ prefix_symbols p xs → Built symbols
  ans : (n : ℕ) (freqs : List ℕ) (xs : List Float) → ans_refusal n freqs xs ≡ 0 → symbols ≡ ans_symbols n freqs xs → Built symbols

priced : (symbols : List Float) → Built symbols → all_priced symbols ≡ true
priced symbols (prefix p xs bytes e s) = rw s (Prefixed.built-passes p xs bytes e)
priced symbols (ans n freqs xs e s) = rw s (built-passes n freqs xs e)

pub either-passes : (b : Book) → Built b.symbols → check1 b ≡ true → check2 b ≡ true → check3 b ≡ true → check4 b ≡ true → book_refusal (filled b) ≡ 0
unfolding fill_refusal first_five first_two check5
either-passes b from one two three four = filled-passes b (rw (one, two, three, four, priced b.symbols from))
