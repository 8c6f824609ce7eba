use Prim.Native.Nat.{ℕ, ◌+◌, ◌-◌, ◌*◌, ◌^◌, ◌≤◌}
use mathlib.Core.Path.{◌≡◌, refl, sym, ap, ap₂, ◌∙◌, subst, subst⁻¹}
use mathlib.Core.Bool.{Bool, true}
use native.Mathlib.Omega.{arith}
use native.Mathlib.Nat.{add_assoc, le_trans, le_of_eq, lt_of_lt_of_le}
use Rattle.prices.specs.Book.{at}
use Rattle.prices.specs.Checks.{each, symbol_price}
use Rattle.prices.proofs.Each.{each_more, each-fails}
use Rattle.book_rows.specs.Row.{run_kept, octave_kept}
use Rattle.book_rows.proofs.Octave.{run-within}
use Rattle.book_rows.proofs.octave_kept.Lts
use Rattle.book_rows.proofs.octave_kept.Reads
use Rattle.book_rows.proofs.octave_kept.Tie
use Rattle.book_rows.proofs.octave_kept.Goals as goal

abbrev After-run_kept : Type 0
After-run_kept = Lts.After-run_kept Tie.the-claims Reads.Pre Reads.Post goal.the-invariant-loop-i goal.the-decreases-loop-i Tie.handed_clauses

abbrev At-loop-i : Type 0
At-loop-i = Lts.At-loop Tie.the-claims Reads.Pre Reads.Post goal.the-invariant-loop-i goal.the-decreases-loop-i Tie.handed_clauses

abbrev In-loop-i : Type 0
In-loop-i = Lts.In-loop Tie.the-claims Reads.Pre Reads.Post goal.the-invariant-loop-i goal.the-decreases-loop-i Tie.handed_clauses

abbrev Start : Type 0
Start = Lts.Start Tie.the-claims Reads.Pre Reads.Post goal.the-invariant-loop-i goal.the-decreases-loop-i Tie.handed_clauses

abbrev start : At-loop-i → Start
start c = c.before.before.before.before.before.before

-- run j
abbrev run : At-loop-i → ℕ → Bool
run c j =
    let a = (start c).args in
    each (2 ^ (a.l + a.bits)) (run_kept a.symbols.now a.ready.now (a.from + j * 2 ^ a.l) (a.to + j * 2 ^ (a.l + a.bits)) a.l a.bits)

-- where its symbols and its values begin
symbols-at : (c : At-loop-i) → c.loop-i.i * c.power-period.result ≡ c.loop-i.i * 2 ^ (start c).args.l
symbols-at c = ap (λ (p : ℕ). c.loop-i.i * p) c.loop-i.invariant.1

values-at : (c : At-loop-i) → c.loop-i.i * c.power-count.result ≡ c.loop-i.i * 2 ^ ((start c).args.l + (start c).args.bits)
values-at c = ap (λ (p : ℕ). c.loop-i.i * p) c.loop-i.invariant.2

-- both are among those given
symbols-in : (c : In-loop-i)
    → let a = (start c.before).args in c.loop-i.i * 2 ^ a.l + 2 ^ a.l ≤ 2 ^ (a.m + a.l)
symbols-in c = run-within _ _ _ (lt_of_lt_of_le c.loop-i-test.true (le_of_eq c.loop-i.invariant.0))

values-in : (c : In-loop-i)
    → let a = (start c.before).args in c.loop-i.i * 2 ^ (a.l + a.bits) + 2 ^ (a.l + a.bits) ≤ 2 ^ (a.m + a.l + a.bits)
values-in c =
    le_trans (run-within (start c.before).args.m _ _ (lt_of_lt_of_le c.loop-i-test.true (le_of_eq c.loop-i.invariant.0)))
    (le_of_eq (ap (λ (k : ℕ). 2 ^ k) (omega arith)))

told : (c : After-run_kept) → c.run_kept.result ≡ run c.before.before c.loop-i.i
told c =
    let a = (start c.before.before).args in
    c.run_kept.ensures
    ∙ ap₂ (λ (x y : ℕ). each (2 ^ (a.l + a.bits)) (run_kept a.symbols.now a.ready.now (a.from + x) (a.to + y) a.l a.bits)) (symbols-at c.before.before) (values-at c.before.before)

pub loop-i-init : goal.loop-i-init
unfolding each
loop-i-init c = (c.power-runs.ensures, c.power-period.ensures, c.power-count.ensures, refl)

pub overflow_mul-i : goal.overflow_mul-i
overflow_mul-i c = omega (arith, symbols-at c.before.before, symbols-in c.before, (start c.before.before).requires)

pub overflow_add-from : goal.overflow_add-from
overflow_add-from c = omega (arith, symbols-at c.before.before, symbols-in c.before, (start c.before.before).requires)

pub overflow_mul-i-in-loop-i : goal.overflow_mul-i-in-loop-i
overflow_mul-i-in-loop-i c = omega (arith, values-at c.before.before, values-in c.before, (start c.before.before).requires)

pub overflow_add-to : goal.overflow_add-to
overflow_add-to c = omega (arith, values-at c.before.before, values-in c.before, (start c.before.before).requires)

pub run_kept-requires : goal.run_kept-requires
run_kept-requires c = let begin = start c.before.before in
    let a = begin.args in
    let i = c.loop-i.i in
    record {
      bits_bound = omega arith;
      l_in_bounds = omega (arith, symbols-at c.before.before, symbols-in c.before, begin.requires);
      bits_in_bounds = omega (arith, values-at c.before.before, values-in c.before, begin.requires);
      by_index = λ j h.
          subst⁻¹ (λ (w : ℕ). symbol_price (at a.symbols.now w) ≡ true) (ap (λ (p : ℕ). a.from + p + j) (symbols-at c.before.before) ∙ add_assoc a.from (i * 2 ^ a.l) j)
          (begin.requires.by_index (i * 2 ^ a.l + j) (omega (arith, symbols-in c.before)));
    }

pub loop-i-preserved : goal.loop-i-preserved
loop-i-preserved c =
    let inv = c.loop-i.invariant in
    (inv.0, inv.1, inv.2, each_more _ _ inv.3 (sym (told c.before.before) ∙ c.if-not-run_kept.false))

pub returns-then-not-run_kept : goal.returns-then-not-run_kept
unfolding octave_kept
returns-then-not-run_kept c =
    let loop = c.loop-i in
    sym (each-fails _ _ loop.i (lt_of_lt_of_le c.loop-i-test.true (le_of_eq loop.invariant.0)) (sym (told c.before.before) ∙ c.if-not-run_kept.true))

pub returns : goal.returns
unfolding octave_kept
returns c = sym (subst (λ (n : ℕ). each n (run c.before.before) ≡ true) (omega (arith, c.loop-i.invariant)) c.loop-i.invariant.3)
