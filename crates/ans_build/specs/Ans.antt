-- Symbol prices from the frequencies of an ANS code (ticket 2): 128 a cluster, each at most 4,096.
use Rattle.std.specs.Prelude.{ℕ, ◌*◌, List, Bool, cond, ◌&&◌, leb, eqb, length, get_or, Float}
use Rattle.prices.specs.Checks.{each}
use Rattle.book_build.specs.Paint.{paint}
use Rattle.ans_prices.specs.Ans.{ans_price}

-- 19: no frequency is above the whole
unfoldable pub all_whole : List ℕ → Bool
all_whole freqs = each (length freqs) (λ i. leb (get_or freqs i 0) 4096)

-- Symbol price i, from its frequency.
unfoldable pub ans_entry : List ℕ → ℕ → Float
ans_entry freqs i = ans_price (get_or freqs i 0)

-- Checks 1 and 2 for the builder's own lengths, then 19; 0 where none fails.
unfoldable pub ans_refusal : ℕ → List ℕ → List Float → ℕ
ans_refusal n freqs symbols =
    cond (leb 1 n && leb n 256) (cond (eqb (length freqs) (128 * n) && eqb (length symbols) (128 * n)) (cond (all_whole freqs) 0 19) 2) 1

-- Every symbol price where the checks pass, else what was there.
unfoldable pub ans_symbols : ℕ → List ℕ → List Float → List Float
ans_symbols n freqs symbols = cond (eqb (ans_refusal n freqs symbols) 0) (paint (ans_entry freqs) 0 (128 * n) symbols) symbols
