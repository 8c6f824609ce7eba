-- A search of a part of the list's numbers leaves its levels in their place; of the block that the cells predict for, it is the list's next. Assumes nothing.
use mathlib.Core.Path.{◌≡◌, refl, sym, ap, ◌∙◌, subst, subst⁻¹}
use mathlib.Core.List.{List, ◌++◌}
use Prim.Native.Nat.{ℕ, ◌+◌, ◌-◌, ◌*◌, ◌≤◌}
use native.Mathlib.Omega.{arith}
use lib.IntN.{ℤ}
use lib.ListN.{take, drop}
use lib.Ieee.{Float}
use lib.Seq.{drop-drop}
use Rattle.bias.specs.declared.DequantBias.{DequantBias}
use Rattle.block.specs.Block as Block
use Rattle.block.specs.Block.{Block, block_of}
use Rattle.block.specs.Outcome.{Lent, Result, result_of}
use Rattle.std.specs.Prelude.{Option, Some, None, Ok}
use Rattle.block.specs.Answer.{Answer, answer_of}
use Rattle.block.specs.declared.Picked.{Picked}
use Rattle.block.specs.declared.Shape.{Shape}
use Rattle.group_cells.specs.Cells.{Counted, predicted}
use Rattle.group_list.specs.Heads.{Head, covered}
use Rattle.group_run.specs.Block.{Numbers, Room, lent_with, size, block_at, searched, count_in}
use Rattle.group_run.proofs.Outcomes.{count-within}
use Rattle.prices.specs.Book.{Book}
use Rattle.searches.specs.Outcome.{search_outcome}
use Rattle.searches.specs.declared.Search.{Search}
use Rattle.weights.specs.Window.{window_of}
use Rattle.weights.specs.declared.Settings.{Settings}
use Rattle.group_block.specs.Part.{part, in_place, numbers_from, block_from}

-- f: what the search finds of k numbers
pub part-result : (at n : ℕ) (levels : List ℤ) (f : ℕ → Result) {answer : Answer} {after : List ℤ} {choices : List ℕ} {row_a row_b : List Float} → result_of answer after choices row_a row_b ≡ f (at + n - at)
    → result_of answer (take at levels ++ (after ++ drop (at + n - at) (drop at levels))) choices row_a row_b ≡ in_place at n levels (f n)
part-result at n levels f {answer} {after} {choices} {row_a} {row_b} e =
    let k : at + n - at ≡ n = omega arith in
    subst (λ (m : ℕ). result_of answer (take at levels ++ (after ++ drop m (drop at levels))) choices row_a row_b ≡ in_place at n levels (f n)) (sym k)
    (rw (drop-drop n at levels) (ap (in_place at n levels) (e ∙ ap f k)))

-- a result of a block's parts is the result of the parts that they are equal to
pub of_parts : {X : Result} (F : Shape → Settings → DequantBias → Result) {shape shape' : Shape} {settings settings' : Settings} {bias bias' : DequantBias}
    → X ≡ F shape settings bias → shape ≡ shape' → settings ≡ settings' → bias ≡ bias' → X ≡ F shape' settings' bias'
of_parts F e a b c = rw (← a, ← b, ← c) e

-- what was picked is counted
counted : (cost : Option Float) (n : ℕ) → count_in (answer_of (Ok (record { cost = cost; count = n }))) ≡ n
unfolding count_in
counted (Some cost) n = refl
counted None n = refl

pub count-picked : (picked : Picked) → count_in (answer_of (Ok picked)) ≡ picked.count
count-picked picked = counted picked.cost picked.count

-- what a search of a part counts
pub count-few : (w : ℕ) (s : Search) (book : Book) (b : Block) (l : Lent) → l.levels ≡ b.levels → (at n : ℕ) (levels : List ℤ) {X : Result}
    → X ≡ in_place at n levels (search_outcome w (window_of (Block.covered b)) s book b l) → count_in X.answer ≤ 63 * Block.covered b
count-few w s book b l own at n levels e = subst⁻¹ (λ (a : Answer). count_in a ≤ 63 * Block.covered b) (ap (λ (r : Result). r.answer) e) (count-within w book b l own s)

-- .. is the list's next
pub found-next : (s : Search) (book : Book) (h : Head) (g : Numbers) (at n p : ℕ) (levels : List ℤ) (room : Room) (done : List Counted) {X : Result}
    → X ≡ in_place at n levels (search_outcome h.half_width (window_of (Block.covered (block_from h g at n p levels))) s book (block_from h g at n p levels) (lent_with (part at n levels) room)) → n ≡ size h → p ≡ predicted done h
    → X ≡ in_place at (size h) levels (searched s book done h (numbers_from g at levels) room)
unfolding searched block_at covered Block.covered
found-next s book h g at n p levels room done e k f = rw (k, f) at e
