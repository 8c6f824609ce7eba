-- How large the tables' entries are, each bound by one test over its table, and with them the contexts. Assumes nothing.
use mathlib.Core.Path.{◌≡◌, refl, sym, subst}
use mathlib.Core.Bool.{Bool, true, false, cond}
use Prim.Native.Nat.{ℕ, zero, suc, ◌+◌, ◌-◌, ◌*◌, ◌/◌, ◌≤◌, ◌<◌}
use native.Mathlib.Omega.{arith}
use native.Mathlib.Nat.{add-zero, add-suc, add-mul, le_refl, le_trans, div-mul-le_self, div-add-mod', mod-lt, lt_of_mul-lt-mul_right}
use borrow.Author.Tests.{lt-ltb}
use lib.Pow.{pow_pos, pow_mono}
use mir.Val.{bool_byte}
use lib.Dec.{T, lit<, lit≤, ltb, leb, ltb→lt, leb→le}
use lib.ListN.{length, get_or}
use Rattle.ac_context.specs.Contexts.{strategy_order, block_context_map, channel_row, coeff_freq_context, coeff_num_nonzero_context, zero_density_context, Coefficient, Covered, block_context}
use Rattle.laws.proofs.Table.{at, every, follows, between}

below : ℕ → ℕ → ℕ → Bool
below n i x = ltb x n

pub order_below : (code : ℕ) → code < 27 → get_or strategy_order code 0 < 13
unfolding below strategy_order
order_below code h = ltb→lt _ _ (at (below 13) strategy_order tt code h)

pub row_below : (c : ℕ) → c < 3 → get_or channel_row c 0 < 3
unfolding below channel_row
row_below c h = ltb→lt _ _ (at (below 3) channel_row tt c h)

pub map_below : (i : ℕ) → i < 39 → get_or block_context_map i 0 < 15
unfolding below block_context_map
map_below i h = ltb→lt _ _ (at (below 15) block_context_map tt i h)

pub block_context-below : (c code : ℕ) → c < 3 → code < 27 → block_context c code < 15
unfolding block_context
block_context-below c code p q = map_below _ (omega (arith, order_below code q, row_below c p))

pub freq-below : (i : ℕ) → i < 64 → get_or coeff_freq_context i 0 < 31
unfolding below coeff_freq_context
freq-below i h = ltb→lt _ _ (at (below 31) coeff_freq_context tt i h)

pub num-below : (i : ℕ) → i < 64 → get_or coeff_num_nonzero_context i 0 < 207
unfolding below coeff_num_nonzero_context
num-below i h = ltb→lt _ _ (at (below 207) coeff_num_nonzero_context tt i h)

-- the count table by rule, on the places from lo up to hi
pub num-by : (lo hi : ℕ) (f : ℕ → ℕ) → T (every (follows lo hi f) 0 coeff_num_nonzero_context) → (k : ℕ) → lo ≤ k → k < hi → k < 64 → (f k ≡ get_or coeff_num_nonzero_context k 0) × (f k < 207)
unfolding coeff_num_nonzero_context
num-by lo hi f t k low high h =
    let e = between lo hi f coeff_num_nonzero_context t k low high h in
    (sym e, subst (λ (x : ℕ). x < 207) e (num-below k h))

-- what a cast gives of a bool
pub bit_is : (b : Bool) → bool_byte b ≡ cond b 1 0
bit_is true = refl
bit_is false = refl

pub bit-most : (b : Bool) → bool_byte b ≤ 1
bit-most true = lit≤ tt
bit-most false = lit≤ tt

-- the count table never falls
rises : ℕ → ℕ → Bool
rises i x = cond (ltb i 63) (leb x (get_or coeff_num_nonzero_context (suc i) 0)) true

rises-all : T (every rises 0 coeff_num_nonzero_context)
unfolding rises coeff_num_nonzero_context
rises-all = tt

count-length : length coeff_num_nonzero_context ≡ 64
unfolding coeff_num_nonzero_context
count-length = refl

rise : (i : ℕ) → i < 63 → get_or coeff_num_nonzero_context i 0 ≤ get_or coeff_num_nonzero_context (suc i) 0
unfolding rises
rise i h =
    leb→le _ _ (rw (lt-ltb i 63 h) at (at rises coeff_num_nonzero_context rises-all i (rw count-length (omega arith))))

rise-by : (d i : ℕ) → i + d < 64 → get_or coeff_num_nonzero_context i 0 ≤ get_or coeff_num_nonzero_context (i + d) 0
rise-by zero i h = rw add-zero (le_refl _)
rise-by (suc d) i h = rw add-suc (le_trans (rise-by d i (omega arith)) (rise (i + d) (omega arith)))

-- at each position the largest context is that of the most levels that can remain there
fullest : ℕ → ℕ → Bool
fullest i x = cond (ltb 0 i) (leb (get_or coeff_num_nonzero_context (64 - i) 0 + x) 228) true

fullest-all : T (every fullest 0 coeff_freq_context)
unfolding fullest coeff_freq_context coeff_num_nonzero_context
fullest-all = tt

freq-length : length coeff_freq_context ≡ 64
unfolding coeff_freq_context
freq-length = refl

full : (i : ℕ) → 0 < i → i < 64 → get_or coeff_num_nonzero_context (64 - i) 0 + get_or coeff_freq_context i 0 ≤ 228
unfolding fullest
full i p h = leb→le _ _ (rw (lt-ltb 0 i p) at (at fullest coeff_freq_context fullest-all i (rw freq-length h)))

pub covered-some : {c log2 : ℕ} → Covered c log2 → 0 < c
covered-some {c} {log2} w = rw w.power (pow_pos log2)

pub covered-most : {c log2 : ℕ} → Covered c log2 → c ≤ 1024
covered-most {c} {log2} w = rw w.power (pow_mono w.most)

-- no more than 64 covered blocks lie behind a position and before the end of what remains
index-sum : (c remaining k : ℕ) → 0 < c → remaining + k ≤ 64 * c → (remaining + c - 1) / c + k / c ≤ 64
index-sum c r k p h =
    let s : ((r + c - 1) / c + k / c) * c < 65 * c = rw add-mul (omega (arith, div-mul-le_self (r + c - 1) c, div-mul-le_self k c)) in
    omega (arith, lt_of_mul-lt-mul_right c s)

pub first-index : (c k : ℕ) → 0 < c → c ≤ k → 0 < k / c
first-index c k p h =
    let s : 0 * c < k / c * c = omega (arith, div-add-mod' k c, mod-lt k p) in
    lt_of_mul-lt-mul_right c s

pub position-below : (c remaining k : ℕ) → 0 < c → 1 ≤ remaining → remaining + k ≤ 64 * c → k / c < 64
position-below c r k p some left =
    let s : k / c * c < 64 * c = omega (arith, div-mul-le_self k c) in
    lt_of_mul-lt-mul_right c s

pub count-below : (c remaining k : ℕ) → 0 < c → c ≤ k → remaining + k ≤ 64 * c → (remaining + c - 1) / c < 64
count-below c r k p coded left = omega (arith, index-sum c r k p left, first-index c k p coded)

pub context-below : {c remaining k prev : ℕ} → 0 < c → Coefficient c remaining k prev → zero_density_context c remaining k prev < 458
unfolding zero_density_context
context-below {c} {remaining} {k} {prev} p w =
    let i : ℕ = k / c in
    let j : ℕ = (remaining + c - 1) / c in
    let sum : j + i ≤ 64 = index-sum c remaining k p w.left in
    let far : get_or coeff_num_nonzero_context j 0 ≤ get_or coeff_num_nonzero_context (j + (64 - i - j)) 0 =
    rise-by (64 - i - j) j (omega (arith, first-index c k p w.coded)) in
    let same : j + (64 - i - j) ≡ 64 - i = omega arith in
    let most = full i (first-index c k p w.coded) (position-below c remaining k p w.some w.left) in
    omega (arith, rw same at far, most, w.flag)

-- the context with `prev` 1 is the next one
pub next-context : (c remaining k : ℕ) → zero_density_context c remaining k 1 ≡ zero_density_context c remaining k 0 + 1
unfolding zero_density_context
next-context c remaining k = omega arith

pub pair-below : {c remaining k : ℕ} → 0 < c → Coefficient c remaining k 0 → zero_density_context c remaining k 0 + 1 < 458
pair-below {c} {remaining} {k} p w =
    subst (λ (x : ℕ). x < 458) (next-context c remaining k)
    (context-below p (record { some = w.some; left = w.left; coded = w.coded; flag = lit< tt }))
