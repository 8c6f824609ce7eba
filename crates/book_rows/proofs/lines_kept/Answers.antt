use Prim.Native.Nat.{ℕ, ◌+◌, ◌-◌, ◌*◌, ◌%◌, ◌<◌}
use mathlib.Core.Path.{◌≡◌, refl, sym, ◌∙◌, subst, subst⁻¹}
use mathlib.Core.Bool.{true}
use native.Mathlib.Omega.{arith}
use native.Mathlib.Nat.{add_assoc, add-zero, mod-lt}
use lib.Dec.{T}
use lib.Ieee.{Float, add, binary32}
use mathlib.Core.List.{List}
use Rattle.prices.specs.Book.{at}
use Rattle.prices.specs.Checks.{each}
use Rattle.prices.proofs.Each.{each_more, each-fails}
use Rattle.book_rows.specs.Row.{above, line_four}
use borrow.Author.Rules.{rules}
use Rattle.book_rows.proofs.lines_kept.Goals as goal

pub loop-i-init : goal.loop-i-init
unfolding each
loop-i-init c = refl

pub overflow_mul-at : goal.overflow_mul-at
overflow_mul-at c = omega (arith, mod-lt c.loop-i.i c.requires.lines_nonzero)

pub overflow_add-at : goal.overflow_add-at
overflow_add-at c = omega (arith, mod-lt c.loop-i.i c.requires.lines_nonzero)

pub offset_bounds-symbols-at : goal.offset_bounds-symbols-at
offset_bounds-symbols-at c = omega (arith, mod-lt c.loop-i.i c.requires.lines_nonzero)

pub bounds-symbols-at : goal.bounds-symbols-at
bounds-symbols-at c = omega (arith, mod-lt c.loop-i.i c.requires.lines_nonzero)

pub overflow_add-b : goal.overflow_add-b
overflow_add-b c = omega (arith, mod-lt c.loop-i.i c.requires.lines_nonzero)

pub offset_bounds-symbols-at-in-loop-i : goal.offset_bounds-symbols-at-in-loop-i
offset_bounds-symbols-at-in-loop-i c = omega (arith, mod-lt c.loop-i.i c.requires.lines_nonzero)

pub bounds-symbols-at-in-loop-i : goal.bounds-symbols-at-in-loop-i
bounds-symbols-at-in-loop-i c = omega (arith, mod-lt c.loop-i.i c.requires.lines_nonzero)

pub overflow_add-c : goal.overflow_add-c
overflow_add-c c = omega (arith, mod-lt c.loop-i.i c.requires.lines_nonzero)

pub offset_bounds-symbols-at-in-loop-i-2 : goal.offset_bounds-symbols-at-in-loop-i-2
offset_bounds-symbols-at-in-loop-i-2 c = omega (arith, mod-lt c.loop-i.i c.requires.lines_nonzero)

pub bounds-symbols-at-in-loop-i-2 : goal.bounds-symbols-at-in-loop-i-2
bounds-symbols-at-in-loop-i-2 c = omega (arith, mod-lt c.loop-i.i c.requires.lines_nonzero)

pub overflow_add-d : goal.overflow_add-d
overflow_add-d c = omega (arith, mod-lt c.loop-i.i c.requires.lines_nonzero)

pub offset_bounds-symbols-at-in-loop-i-3 : goal.offset_bounds-symbols-at-in-loop-i-3
offset_bounds-symbols-at-in-loop-i-3 c = omega (arith, mod-lt c.loop-i.i c.requires.lines_nonzero)

pub bounds-symbols-at-in-loop-i-3 : goal.bounds-symbols-at-in-loop-i-3
bounds-symbols-at-in-loop-i-3 c = omega (arith, mod-lt c.loop-i.i c.requires.lines_nonzero)

-- symbol j of a turn's four has a price above 0
priced : (symbols : List Float) (from i lines : ℕ) (extra : Float) → 0 < lines → ((k : ℕ) → k < 4 * lines → T (above (add binary32 (at symbols (from + k)) extra)))
    → (j : ℕ) → j < 4 → T (above (add binary32 (at symbols (from + 4 * (i % lines) + j)) extra))
priced symbols from i lines extra some all j h =
    subst⁻¹ (λ (w : ℕ). T (above (add binary32 (at symbols w) extra))) (add_assoc from (4 * (i % lines)) j) (all (4 * (i % lines) + j) (omega (arith, mod-lt i some)))

pub four_kept-requires : goal.four_kept-requires
four_kept-requires c =
    let a = c.args in
    let p = priced a.symbols.now a.from c.loop-i.i a.lines a.extra c.requires.lines_nonzero c.requires.by_index in
    record {
      to_in_bounds = omega arith;
      a_above = subst (λ (w : ℕ). T (above (add binary32 (at a.symbols.now w) a.extra))) (add-zero _) (p 0 (omega arith));
      b_above = p 1 (omega arith);
      c_above = p 2 (omega arith);
      d_above = p 3 (omega arith);
    }

pub loop-i-preserved : goal.loop-i-preserved
unfolding line_four
loop-i-preserved c = each_more _ _ c.loop-i.invariant (sym c.four_kept.ensures ∙ c.if-not-four_kept.false)

pub returns-then-not-four_kept : goal.returns-then-not-four_kept
unfolding line_four
returns-then-not-four_kept c = sym (each-fails _ _ c.loop-i.i c.loop-i-test.true (sym c.four_kept.ensures ∙ c.if-not-four_kept.true))

pub returns : goal.returns
returns c =
    let all : c.loop-i.i ≡ c.args.fours = omega arith in
    sym (rw all at c.loop-i.invariant)
