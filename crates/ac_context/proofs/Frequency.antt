-- The frequency contexts by rule: at 1 to 63 the rule gives the standard's table, by one test over the table. Assumes nothing.
use mathlib.Core.Path.{◌≡◌, ◌∙◌, sym, subst⁻¹}
use Prim.Native.Nat.{ℕ, ◌+◌, ◌-◌, ◌/◌, ◌≤◌, ◌<◌}
use native.Mathlib.Omega.{arith}
use borrow.Author.Tests.{lt-ltb, le-ltb}
use lib.ListN.{get_or}
use Rattle.ac_context.specs.Contexts.{coeff_freq_context, frequency_by_rule}
use Rattle.laws.proofs.Table.{between}
use Rattle.ac_context.proofs.Bounds.{freq-below}

pub frequency-by-rule : (i : ℕ) → 1 ≤ i → i < 64 → get_or coeff_freq_context i 0 ≡ frequency_by_rule i
unfolding coeff_freq_context frequency_by_rule
frequency-by-rule i low high = between 1 64 frequency_by_rule coeff_freq_context tt i low high high

-- what the code gives, branch by branch
pub by-rule : (i : ℕ) → 1 ≤ i → i < 64 → (r : ℕ) → frequency_by_rule i ≡ r → (r ≡ get_or coeff_freq_context i 0) × (r < 31)
by-rule i low high r e =
    let same = sym e ∙ sym (frequency-by-rule i low high) in
    (same, subst⁻¹ (λ (x : ℕ). x < 31) same (freq-below i high))

pub single : (i : ℕ) → i < 16 → frequency_by_rule i ≡ i - 1
unfolding frequency_by_rule
single i h = rw (lt-ltb i 16 h)

pub double : (i : ℕ) → 16 ≤ i → i < 32 → frequency_by_rule i ≡ 7 + i / 2
unfolding frequency_by_rule
double i low high = rw (le-ltb i 16 low, lt-ltb i 32 high)

pub fourfold : (i : ℕ) → 32 ≤ i → frequency_by_rule i ≡ 15 + i / 4
unfolding frequency_by_rule
fourfold i low = rw (le-ltb i 16 (omega arith), le-ltb i 32 low)
