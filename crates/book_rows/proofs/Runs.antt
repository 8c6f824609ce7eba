-- The ready prices of a run, as `run_kept` compares them.
use Prim.Native.Nat.{ℕ, zero, suc, ◌+◌, ◌-◌, ◌*◌, ◌/◌, ◌%◌, ◌^◌, ◌<◌, ◌≤◌}
use mathlib.Core.Path.{◌≡◌, refl, sym, ap, ap₂, ◌∙◌}
use mathlib.Core.Bool.{Bool, ◌&&◌}
use native.Mathlib.Omega.{arith}
use native.Mathlib.Nat.{add-zero, mod-one, mod-lt, mod-eq_of_lt, mul-add-mod_self_right}
use mathlib.Core.List.{List}
use lib.IntN.{pos}
use lib.Ieee.{Float, add, of_int, binary32}
use lib.Pow.{pow-add, pow_pos}
use lib.Pow as Pow
use Rattle.prices.specs.Book.{at}
use Rattle.prices.specs.Checks.{each, same_bits}
use Rattle.prices.proofs.Each.{each-blocks, each_same}
use Rattle.book_rows.specs.Row.{line_kept, four_kept, line_four, run_kept}

-- four at a time
pub power-fours : (k : ℕ) → 2 ≤ k → 2 ^ k ≡ 2 ^ (k - 2) * 4
power-fours k h = ap (λ (j : ℕ). 2 ^ j) (omega arith) ∙ pow-add 2 (k - 2) 2

pub four : (f : ℕ → Bool) → each 4 f ≡ (f 0 && f 1 && f 2 && f 3)
unfolding each
four f = refl

pub and-four : {a b c d a' b' c' d' : Bool} → a ≡ a' → b ≡ b' → c ≡ c' → d ≡ d' → (a && b && c && d) ≡ (a' && b' && c' && d')
and-four ea eb ec ed = rw (ea, eb, ec, ed) refl

four-mod : (i k t : ℕ) → t < 4 → (i * 4 + t) % (2 ^ k * 4) ≡ 4 * (i % 2 ^ k) + t
four-mod i k t h =
    let small : i % 2 ^ k < 2 ^ k = mod-lt i (pow_pos k) in
    let parts : i * 4 + t ≡ i / 2 ^ k * (2 ^ k * 4) + (4 * (i % 2 ^ k) + t) = omega (arith, Pow.split i k) in
    ap (λ (w : ℕ). w % (2 ^ k * 4)) parts
    ∙ mul-add-mod_self_right (i / 2 ^ k) (2 ^ k * 4) (4 * (i % 2 ^ k) + t)
    ∙ mod-eq_of_lt (omega arith)

module _ (symbols ready : List Float) (from to : ℕ) where
  -- no extra bits: a line
  pub run-line : (l : ℕ) → each (2 ^ l) (line_kept symbols ready from to (of_int binary32 (pos 0))) ≡ each (2 ^ (l + 0)) (run_kept symbols ready from to l 0)
  unfolding line_kept run_kept
  run-line l =
      rw (add-zero l)
      (each_same (line_kept symbols ready from to (of_int binary32 (pos 0))) (run_kept symbols ready from to l 0) (2 ^ l)
      (λ i h. ap (λ (w : ℕ). same_bits (at ready (to + i)) (add binary32 (at symbols (from + w)) (of_int binary32 (pos 0)))) (sym (mod-eq_of_lt h))))

  module _ (bits : ℕ) where
    abbrev kept : ℕ → ℕ → Bool
    kept w z = same_bits (at ready w) (add binary32 (at symbols z) (of_int binary32 (pos bits)))

    -- two values of one symbol
    pub run-pair : each 2 (run_kept symbols ready from to 0 bits) ≡ (same_bits (at ready to) (add binary32 (at symbols from) (of_int binary32 (pos bits))) && same_bits (at ready (to + 1)) (add binary32 (at symbols from) (of_int binary32 (pos bits))))
    unfolding each run_kept
    run-pair = ap₂ ◌&&◌ (ap₂ kept (add-zero to) (add-zero from)) (ap (kept (to + 1)) (add-zero from))

    fours : (l : ℕ) (g : ℕ → Bool) → 2 ≤ l + bits → ((i : ℕ) → (kept (to + (i * 4 + 0)) (from + (i * 4 + 0) % 2 ^ l) && kept (to + (i * 4 + 1)) (from + (i * 4 + 1) % 2 ^ l) && kept (to + (i * 4 + 2)) (from + (i * 4 + 2) % 2 ^ l) && kept (to + (i * 4 + 3)) (from + (i * 4 + 3) % 2 ^ l)) ≡ g i)
        → each (2 ^ (l + bits - 2)) g ≡ each (2 ^ (l + bits)) (run_kept symbols ready from to l bits)
    unfolding run_kept
    fours l g h same =
        sym
        (ap (λ (n : ℕ). each n (run_kept symbols ready from to l bits)) (power-fours (l + bits) h)
        ∙ each-blocks (run_kept symbols ready from to l bits) 4 (2 ^ (l + bits - 2))
        ∙ each_same _ g (2 ^ (l + bits - 2)) (λ i k. four (λ t. run_kept symbols ready from to l bits (i * 4 + t)) ∙ same i))

    -- one or two symbols
    pub run-turns : (l : ℕ) → l < 2 → 2 ≤ l + bits
        → each (2 ^ (l + bits - 2)) (λ i. four_kept ready (to + 4 * i) (add binary32 (at symbols from) (of_int binary32 (pos bits))) (add binary32 (at symbols (from + l)) (of_int binary32 (pos bits))) (add binary32 (at symbols from) (of_int binary32 (pos bits))) (add binary32 (at symbols (from + l)) (of_int binary32 (pos bits))))
        ≡ each (2 ^ (l + bits)) (run_kept symbols ready from to l bits)
    unfolding four_kept
    run-turns zero small h =
        fours 0 _ h
        (λ i.
        and-four
        (ap₂ kept (omega arith) (ap (λ (w : ℕ). from + w) (mod-one (i * 4 + 0)) ∙ add-zero from))
        (ap₂ kept (omega arith) (ap (λ (w : ℕ). from + w) (mod-one (i * 4 + 1))))
        (ap₂ kept (omega arith) (ap (λ (w : ℕ). from + w) (mod-one (i * 4 + 2)) ∙ add-zero from))
        (ap₂ kept (omega arith) (ap (λ (w : ℕ). from + w) (mod-one (i * 4 + 3)))))
    run-turns (suc zero) small h =
        fours 1 _ h
        (λ i.
        and-four
        (ap₂ kept (omega arith) (omega arith))
        (ap₂ kept (omega arith) (omega arith))
        (ap₂ kept (omega arith) (omega arith))
        (ap₂ kept (omega arith) (omega arith)))
    run-turns (suc (suc l)) small h = absurd (omega arith)

    -- four symbols or eight
    pub run-lines : (l : ℕ) → 2 ≤ l
        → each (2 ^ (l + bits - 2)) (λ i. line_four symbols ready (from + 4 * (i % 2 ^ (l - 2))) (to + 4 * i) (of_int binary32 (pos bits)))
        ≡ each (2 ^ (l + bits)) (run_kept symbols ready from to l bits)
    unfolding line_four four_kept
    run-lines l h = fours l _ (omega arith) (λ i. and-four (place i 0 (omega arith) ∙ ap₂ kept (add-zero _) (add-zero _)) (place i 1 (omega arith)) (place i 2 (omega arith)) (place i 3 (omega arith)))
      where
        place : (i t : ℕ) → t < 4 → kept (to + (i * 4 + t)) (from + (i * 4 + t) % 2 ^ l) ≡ kept (to + 4 * i + t) (from + 4 * (i % 2 ^ (l - 2)) + t)
        place i t q =
            let turn : (i * 4 + t) % 2 ^ l ≡ 4 * (i % 2 ^ (l - 2)) + t = ap (λ (n : ℕ). (i * 4 + t) % n) (power-fours l h) ∙ four-mod i (l - 2) t q in
            ap₂ kept (omega arith) (omega (arith, turn))
