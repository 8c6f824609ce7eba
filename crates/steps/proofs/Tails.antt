-- The tokens past the window, one after the other. Assumes nothing.
use mathlib.Core.Path.{◌≡◌, refl}
use mathlib.Core.List.{List}
use Prim.Native.Nat.{ℕ, zero, suc, ◌+◌, ◌-◌, ◌<◌}
use native.Mathlib.Omega.{arith}
use native.Mathlib.Numerals.{add-one}
use lib.IntN.{ℤ}
use lib.Ieee.{Float, add, mul, binary32}
use borrow.Author.Tests.{ne_eqb}
use Rattle.block.specs.Block.{Block, input_at}
use Rattle.block.specs.Cost.{token_price, tokens_from}
use Rattle.least_cost.specs.Position.{nz}
use Rattle.prices.specs.Book.{Book}
use Rattle.scan.specs.Scan.{level_at}
use Rattle.steps.specs.Plan.{Planned}
use Rattle.steps.specs.declared.plan.Plan.{Plan}

pub tokens-done : (book : Book) (b : Block) (n k p : ℕ) (s : Float) → tokens_from book b n 0 k p s ≡ s
unfolding tokens_from
tokens-done book b zero k p s = refl
tokens-done book b (suc n) k p s = refl

pub tokens-more : (book : Book) (b : Block) (size r k p : ℕ) (s : Float) → k < size → (r ≡ 0 → ⊥)
    → tokens_from book b (size - k) r k p s
    ≡ tokens_from book b (size - (k + 1)) (r - nz (input_at b k)) (k + 1) (nz (input_at b k)) (add binary32 s (mul binary32 b.settings.lambda (token_price book b r k p (input_at b k))))
unfolding tokens_from
tokens-more book b size r k p s h some =
    let one : size - k ≡ suc (size - (k + 1)) = omega arith in
    rw (one, ne_eqb r 0 some, add-one)

pub tokens-past : (book : Book) (b : Block) (size r p : ℕ) (s : Float) → tokens_from book b (size - size) r size p s ≡ s
unfolding tokens_from
tokens-past book b size r p s =
    let none : size - size ≡ 0 = omega arith in
    rw none

-- one token, as the code adds it
pub tokens-step : (book : Book) (b : Block) (plan : Plan) (scan : List ℕ) (levels : List ℤ) (size r k p n : ℕ) (s cost : Float) (level : ℤ) → scan ≡ b.scan → levels ≡ b.levels → Planned b plan
    → level ≡ level_at scan levels k → cost ≡ mul binary32 plan.lambda (token_price book b r k p level) → n ≡ nz level → k < size → (r ≡ 0 → ⊥)
    → tokens_from book b (size - (k + 1)) (r - n) (k + 1) n (add binary32 s cost) ≡ tokens_from book b (size - k) r k p s
unfolding input_at
tokens-step book b plan scan levels size r k p n s cost level es el planned ev ec en h some =
    let more = tokens-more book b size r k p s h some in
    let lambda = planned.lambda_is in
    cc
