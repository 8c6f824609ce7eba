use Prim.Native.Nat.{ℕ, zero, suc, ◌+◌, ◌-◌, ◌*◌, ◌%◌, ◌^◌, ◌<◌, ◌≤◌}
use mathlib.Core.Path.{◌≡◌, sym, ap, ap₂, ◌∙◌, subst, subst⁻¹}
use mathlib.Core.Bool.{◌&&◌}
use native.Mathlib.Omega.{arith}
use native.Mathlib.Nat.{add-zero}
use lib.Dec.{T}
use lib.IntN.{pos}
use lib.Ieee.{Float, add, of_int, binary32}
use lib.Ieee.Fits.{add-fits}
use lib.Pow.{pow_pos, pow_mono}
use Rattle.costs.specs.Cost.{cost}
use Rattle.prices.specs.Book.{at}
use Rattle.prices.specs.Checks.{each}
use Rattle.prices.proofs.Costs.{extra-exact, zero-extra, zero-sum-cost}
use Rattle.book_rows.specs.Row.{above, line_kept, four_kept, line_four, run_kept}
use Rattle.book_rows.proofs.Steps.{price-above, equal-bits}
use Rattle.book_rows.proofs.Runs.{power-fours, run-line, run-pair, run-turns, run-lines}
use Rattle.book_rows.proofs.run_kept.Lts
use Rattle.book_rows.proofs.run_kept.Reads
use Rattle.book_rows.proofs.run_kept.Tie
use Rattle.book_rows.proofs.run_kept.Goals as goal

abbrev Else-bits-eq0 : Type 0
Else-bits-eq0 = Lts.Else1 Tie.the-claims Reads.Pre Reads.Post Tie.handed_clauses

abbrev Start : Type 0
Start = Lts.Start Tie.the-claims Reads.Pre Reads.Post Tie.handed_clauses

abbrev Then-l-bits-lt2 : Type 0
Then-l-bits-lt2 = Lts.Then2 Tie.the-claims Reads.Pre Reads.Post Tie.handed_clauses

abbrev start : Else-bits-eq0 → Start
start c = c.before.before.before.before

-- the symbols' prices, where there is an extra bit
above_at : (c : Else-bits-eq0) (i : ℕ) → let a = (start c).args in i < 2 ^ a.l → T (above (add binary32 (at a.symbols.now (a.from + i)) (of_int binary32 (pos a.bits))))
above_at c i h = price-above _ _ ((start c).requires.by_index i h) (omega (arith, c.if-bits-eq0.false))

above-first : (c : Else-bits-eq0) → let a = (start c).args in T (above (add binary32 (at a.symbols.now a.from) (of_int binary32 (pos a.bits))))
above-first c =
    let a = (start c).args in
    subst (λ (w : ℕ). T (above (add binary32 (at a.symbols.now w) (of_int binary32 (pos a.bits))))) (add-zero a.from) (above_at c 0 (pow_pos a.l))

-- a run of two values
one : (c : Then-l-bits-lt2) → (start c.before).args.l + (start c.before).args.bits ≡ 1
one c = omega (arith, c.if-bits-eq0.false, c.if-l-bits-lt2.true)

small_power : (l : ℕ) → l < 2 → l < 2 ^ l
small_power zero h = omega arith
small_power (suc zero) h = omega arith
small_power (suc (suc l)) h = absurd (omega arith)

pub int_to_float-extra : goal.int_to_float-extra
int_to_float-extra c = extra-exact _ (omega arith)

pub line_kept-requires : goal.line_kept-requires
line_kept-requires c = let first = c.before.before.before.before.before in
    let a = first.args in
    let none = c.if-bits-eq0.true in
    let size = c.power.ensures in
    let few : 2 ^ a.l ≤ 2 ^ 7 = pow_mono {j = 7} (omega arith) in
    let same : 2 ^ (a.l + a.bits) ≡ 2 ^ a.l = ap (λ (k : ℕ). 2 ^ k) (omega arith) in
    record {
      count_bound = omega (arith, size);
      symbols_in_bounds = omega (arith, size, first.requires);
      ready_in_bounds = omega (arith, size, same, first.requires);
      by_index = λ i h.
          subst⁻¹ (λ (n : ℕ). T (cost (add binary32 (at a.symbols.now (a.from + i)) (of_int binary32 (pos n))))) none
          (subst⁻¹ (λ (x : Float). T (cost (add binary32 (at a.symbols.now (a.from + i)) x))) zero-extra
          (zero-sum-cost _ (first.requires.by_index i (omega (arith, size)))));
    }

pub returns-then-bits-eq0 : goal.returns-then-bits-eq0
returns-then-bits-eq0 c =
    let a = c.args in
    let none = c.if-bits-eq0.true in
    c.line_kept.ensures
    ∙ ap₂ (λ (n b : ℕ). each n (line_kept a.symbols.now a.ready.now a.from a.to (of_int binary32 (pos b)))) c.power.ensures none
    ∙ run-line a.symbols.now a.ready.now a.from a.to a.l
    ∙ sym (ap (λ (b : ℕ). each (2 ^ (a.l + b)) (run_kept a.symbols.now a.ready.now a.from a.to a.l b)) none)

pub bounds-symbols-from : goal.bounds-symbols-from
bounds-symbols-from c = omega (arith, (start c.before.before.before).requires, pow_pos (start c.before.before.before).args.l)

pub bounds-ready-to : goal.bounds-ready-to
bounds-ready-to c = omega (arith, (start c.before.before.before.before).requires, ap (λ (k : ℕ). 2 ^ k) (one c.before.before.before))

pub bounds-ready-to-then-l-bits-lt2 : goal.bounds-ready-to-then-l-bits-lt2
bounds-ready-to-then-l-bits-lt2 c = omega (arith, (start c.before.before.before.before.before).requires, ap (λ (k : ℕ). 2 ^ k) (one c.before.before.before.before))

pub returns-then-l-bits-lt2 : goal.returns-then-l-bits-lt2
returns-then-l-bits-lt2 c =
    let two = c.before.before.before.before in
    let a = (start two.before).args in
    let read = c.shared_slice_known-then-l-bits-lt2-3-1.given in
    let above = above-first two.before in
    let none : a.l ≡ 0 = omega (arith, two.if-bits-eq0.false, two.if-l-bits-lt2.true) in
    ap₂ ◌&&◌ (equal-bits _ _ above (read a.to) (add-fits binary32 _ _)) (equal-bits _ _ above (read (a.to + 1)) (add-fits binary32 _ _))
    ∙ sym (run-pair a.symbols.now a.ready.now a.from a.to a.bits)
    ∙ sym (ap₂ (λ (n l : ℕ). each (2 ^ n) (run_kept a.symbols.now a.ready.now a.from a.to l a.bits)) (one two) none)

pub bounds-symbols-from-then-l-lt2 : goal.bounds-symbols-from-then-l-lt2
bounds-symbols-from-then-l-lt2 c = omega (arith, (start c.before.before.before.before.before).requires, pow_pos (start c.before.before.before.before.before).args.l)

pub bounds-symbols-from-then-l-lt2-2 : goal.bounds-symbols-from-then-l-lt2-2
bounds-symbols-from-then-l-lt2-2 c = omega (arith, (start c.before.before.before.before.before.before).requires, small_power (start c.before.before.before.before.before.before).args.l c.if-l-lt2.true)

pub turns_kept-requires : goal.turns_kept-requires
turns_kept-requires c = let three = c.before.before in
    let one = three.before.before.before.before in
    let a = (start one).args in
    record { fours_in_bounds = omega (arith, three.power-fours.ensures, power-fours (a.l + a.bits) (omega (arith, three.if-l-bits-lt2.false)), (start one).requires); a_above = above-first one; b_above = above_at one a.l (small_power a.l three.if-l-lt2.true) }

pub returns-then-l-lt2 : goal.returns-then-l-lt2
returns-then-l-lt2 c =
    let three = c.before.before.before.before in
    let a = (start three.before.before.before).args in
    let x = add binary32 (at a.symbols.now a.from) (of_int binary32 (pos a.bits)) in
    let y = add binary32 (at a.symbols.now (a.from + a.l)) (of_int binary32 (pos a.bits)) in
    c.turns_kept.ensures
    ∙ ap (λ (n : ℕ). each n (λ i. four_kept a.ready.now (a.to + 4 * i) x y x y)) three.power-fours.ensures
    ∙ run-turns a.symbols.now a.ready.now a.from a.to a.bits a.l three.if-l-lt2.true (omega (arith, three.if-l-bits-lt2.false))

pub lines_kept-requires : goal.lines_kept-requires
lines_kept-requires c = let three = c.before in
    let one = three.before.before.before.before in
    let a = (start one).args in
    let lines = c.power-lines.ensures in
    let symbols = power-fours a.l three.if-l-lt2.false in
    record { lines_nonzero = omega (arith, lines, pow_pos (a.l - 2)); lines_in_bounds = omega (arith, lines, symbols, (start one).requires); fours_in_bounds = omega (arith, three.power-fours.ensures, power-fours (a.l + a.bits) (omega (arith, three.if-l-lt2.false)), (start one).requires); by_index = λ i h. above_at one i (omega (arith, lines, symbols)) }

pub returns : goal.returns
returns c =
    let three = c.before.before.before in
    let a = (start three.before.before.before).args in
    c.lines_kept.ensures
    ∙ ap₂ (λ (n p : ℕ). each n (λ i. line_four a.symbols.now a.ready.now (a.from + 4 * (i % p)) (a.to + 4 * i) (of_int binary32 (pos a.bits)))) three.power-fours.ensures c.power-lines.ensures
    ∙ run-lines a.symbols.now a.ready.now a.from a.to a.bits a.l three.if-l-lt2.false
