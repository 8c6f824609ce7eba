-- The parts joined: what holds of each entry of the table. Assumes nothing.
use Prim.Native.Nat.{ℕ, zero, suc, ◌+◌, ◌-◌, ◌^◌, ◌<◌, ◌≤◌}
use native.Mathlib.Nat.{add-zero, add-suc, suc-add}
use native.Mathlib.Omega.{arith}
use mathlib.Core.Bool.{Bool, true, false, not, ◌&&◌, ◌||◌}
use mathlib.Core.List.{List, [], ◌∷◌, ◌++◌}
use mathlib.Core.Path.{◌≡◌, refl, sym, ap, ◌∙◌, subst}
use borrow.Author.Tests.{ne_eqb}
use lib.Dec.{T, eqb, ltb, eqb→eq}
use lib.IntN.{pos}
use lib.ListN.{length, get_or}
use lib.Ieee.{Float, fin, fits, to_bits, of_bits, of_int, add, sub, mul, div, binary32}
use lib.Ieee.Bits.{of_bits-to_bits}
use lib.Ieee.Fits.{sub-fits}
use Rattle.laws.proofs.Table.{every, at}
use Rattle.ans_log.specs.Log.{dirty_log2, moved, of_parts, series}
use Rattle.ans_prices.specs.Ans.{ans_price, near, nearest64}
use Rattle.ans_prices.specs.Table.{PriceTable}
use Rattle.ans_prices.proofs.Prices.{prices, part0, part1, part2, part3, part4, part5, part6, part7}
use Rattle.ans_prices.proofs.Tested.{right, right0, right1, right2, right3, right4, right5, right6, right7}

-- a test over a list, then over the next
joined : (f : ℕ → ℕ → Bool) (i : ℕ) (xs ys : List ℕ) → T (every f i xs) → T (every f (i + length xs) ys) → T (every f i (xs ++ ys))
joined f i [] ys t u = subst (λ (j : ℕ). T (every f j ys)) (add-zero i) u
joined f i (x ∷ xs) ys t u = go (f i x) t (joined f (suc i) xs ys)
  where
    go : (b : Bool) → T (b && every f (suc i) xs) → (T (every f (suc i) xs) → T (every f (suc i + length xs) ys) → T (every f (suc i) (xs ++ ys))) → T (b && every f (suc i) (xs ++ ys))
    go true t r = r t (subst (λ (j : ℕ). T (every f j ys)) (add-suc i (length xs) ∙ sym (suc-add i (length xs))) u)
    go false t r = t

from6 : T (every right 3073 (part6 ++ part7))
unfolding part6
from6 = joined right 3073 part6 (part7) right6 right7

from5 : T (every right 2561 (part5 ++ part6 ++ part7))
unfolding part5
from5 = joined right 2561 part5 (part6 ++ part7) right5 from6

from4 : T (every right 2049 (part4 ++ part5 ++ part6 ++ part7))
unfolding part4
from4 = joined right 2049 part4 (part5 ++ part6 ++ part7) right4 from5

from3 : T (every right 1537 (part3 ++ part4 ++ part5 ++ part6 ++ part7))
unfolding part3
from3 = joined right 1537 part3 (part4 ++ part5 ++ part6 ++ part7) right3 from4

from2 : T (every right 1025 (part2 ++ part3 ++ part4 ++ part5 ++ part6 ++ part7))
unfolding part2
from2 = joined right 1025 part2 (part3 ++ part4 ++ part5 ++ part6 ++ part7) right2 from3

from1 : T (every right 513 (part1 ++ part2 ++ part3 ++ part4 ++ part5 ++ part6 ++ part7))
unfolding part1
from1 = joined right 513 part1 (part2 ++ part3 ++ part4 ++ part5 ++ part6 ++ part7) right1 from2

from0 : T (every right 0 (part0 ++ part1 ++ part2 ++ part3 ++ part4 ++ part5 ++ part6 ++ part7))
unfolding part0
from0 = joined right 0 part0 (part1 ++ part2 ++ part3 ++ part4 ++ part5 ++ part6 ++ part7) right0 from1

whole : T (every right 0 prices)
unfolding prices
whole = from0

entry : (f : ℕ) → f < 4097 → get_or prices f 0 ≡ to_bits binary32 (ans_price f)
unfolding prices part0 part1 part2 part3 part4 part5 part6 part7
entry f h = eqb→eq _ _ (at right prices whole f h)

pub table : PriceTable prices
table = record { each = entry }

-- a price is a float of this format, so that its bits read back
price-fits : (f : ℕ) → T (fits binary32 (ans_price f))
unfolding ans_price fits
price-fits zero = tt
price-fits (suc f) = rw (ne_eqb (suc f) 0 (λ e. omega arith)) (sub-fits binary32 (fin false 3 (pos 2)) (dirty_log2 (of_int binary32 (pos (suc f)))))

pub read-price : (f : ℕ) → of_bits binary32 (to_bits binary32 (ans_price f)) ≡ ans_price f
read-price f = of_bits-to_bits binary32 (ans_price f) (price-fits f)

-- what a test over all entries shows of each price
pub tested : (test : ℕ → Float → Bool) → T (every (λ f x. test f (of_bits binary32 x)) 0 prices) → (f : ℕ) → f < 4097 → T (test f (ans_price f))
unfolding prices part0 part1 part2 part3 part4 part5 part6 part7
tested test t f h =
    subst (λ (x : Float). T (test f x)) (ap (of_bits binary32) (entry f h) ∙ read-price f) (at (λ f x. test f (of_bits binary32 x)) prices t f h)

-- ---- how near a price is to the logarithm

close-all : T (every (λ f x. eqb f 0 || near f (of_bits binary32 x)) 0 prices)
unfolding prices part0 part1 part2 part3 part4 part5 part6 part7 near nearest64 of_bits
close-all = tt

pub price-near : (f : ℕ) → 1 ≤ f → f ≤ 4096 → T (near f (ans_price f))
price-near f l h = rw (ne_eqb f 0 (λ e. omega arith)) at (tested (λ f x. eqb f 0 || near f x) close-all f (omega arith))

-- powers of two are exact: 1 costs 12, and so on down to 2^j, which costs 12 − j
pub powers : ℕ → Bool
powers zero = eqb (to_bits binary32 (ans_price 1)) (to_bits binary32 (of_int binary32 (pos 12)))
powers (suc j) = powers j && eqb (to_bits binary32 (ans_price (2 ^ suc j))) (to_bits binary32 (of_int binary32 (pos (12 - suc j))))

pub powers-exact : T (powers 12)
unfolding powers ans_price dirty_log2 moved of_parts series to_bits of_bits of_int add sub mul div
powers-exact = tt
