-- Counts that share their contexts: the count table stays the same for long. Assumes nothing.
use mathlib.Core.Path.{◌≡◌, sym, ap, ◌∙◌}
use Prim.Native.Nat.{ℕ, suc, ◌+◌, ◌-◌, ◌*◌, ◌/◌, ◌%◌, ◌^◌, ◌≤◌, ◌<◌}
use native.Mathlib.Nat.{le_refl, suc-mul, div-mul-le_self, div-add-mod', mod-lt, mod-eq_of_lt, mul-le-mul_right, lt_of_mul-lt-mul_right, lt_of_le_of_lt}
use native.Mathlib.Omega.{arith}
use lib.Dec.{T, lit<}
use lib.ListN.{get_or}
use Rattle.ac_context.specs.Contexts.{coeff_num_nonzero_context, zero_density_context, Alike, CountsAlike, Covered}
use Rattle.laws.proofs.Table.{every, follows}
use Rattle.ac_context.proofs.Bounds.{num-by, covered-most}

-- from lo to last the table has v
pub alike-by :
    (lo last v : ℕ) → T (every (follows lo (suc last) (λ _. v)) 0 coeff_num_nonzero_context) → last < 64
    → (at : ℕ) → lo ≤ at → at ≤ last → Alike at last
alike-by lo last v t end at low high =
    record {
      from = high;
      most = end;
      same = λ i p q. sym (num-by lo (suc last) (λ _. v) t i (omega arith) (omega arith) (omega arith)).0 ∙ (num-by lo (suc last) (λ _. v) t at (omega arith) (omega arith) (omega arith)).0;
    }

pub alike-itself : (at : ℕ) → at < 64 → Alike at at
alike-itself at h =
    record {
      from = le_refl at;
      most = h;
      same = λ i p q. let e : i ≡ at = omega arith in ap (λ (j : ℕ). get_or coeff_num_nonzero_context j 0) e;
    }

-- a count over covered blocks, rounded up
module _ (c : ℕ) (some : 0 < c) where
  up_least : (n : ℕ) → n ≤ (n + c - 1) / c * c
  up_least n = omega (arith, div-add-mod' (n + c - 1) c, mod-lt (n + c - 1) some)

  up-most : (n last : ℕ) → n ≤ last * c → (n + c - 1) / c ≤ last
  up-most n last h =
      let s : (n + c - 1) / c * c < suc last * c = rw suc-mul (omega (arith, div-mul-le_self (n + c - 1) c)) in
      omega (arith, lt_of_mul-lt-mul_right c s)

  up-mono : (m n : ℕ) → m ≤ n → (m + c - 1) / c ≤ (n + c - 1) / c
  up-mono m n h =
      let s : (m + c - 1) / c * c < suc ((n + c - 1) / c) * c = rw suc-mul (omega (arith, div-mul-le_self (m + c - 1) c, div-add-mod' (n + c - 1) c, mod-lt (n + c - 1) some)) in
      omega (arith, lt_of_mul-lt-mul_right c s)

  pub up-below : (n : ℕ) → n ≤ 63 * c → (n + c - 1) / c < 64
  up-below n h = omega (arith, up-most n 63 h)

  pub counts-alike : (remaining last : ℕ) → Alike ((remaining + c - 1) / c) last → CountsAlike c remaining (last * c)
  unfolding zero_density_context
  counts-alike remaining last table =
      record {
        from = omega (arith, up_least remaining, mul-le-mul_right c table.from);
        most = mul-le-mul_right c (omega (arith, table.most));
        same = λ n k prev p q. rw (table.same ((n + c - 1) / c) (up-mono remaining n p) (up-most n last q));
      }

-- what the shift back gives
pub shl-up : {c log2 : ℕ} → Covered c log2 → (last : ℕ) → last < 64 → last * 2 ^ log2 % 2 ^ 64 ≡ last * c
shl-up {c} {log2} w last h =
    let most : last * c ≤ 63 * c = mul-le-mul_right c (omega arith) in
    rw (← w.power) (mod-eq_of_lt (lt_of_le_of_lt {m = 64512} (omega (arith, covered-most w)) (lit< tt)))
