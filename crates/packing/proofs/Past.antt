-- What the code's sums and shifts need of a value from 2 ^ s on.
use Prim.Native.Nat.{ℕ, ◌+◌, ◌-◌, ◌*◌, ◌/◌, ◌%◌, ◌^◌, ◌≤◌, ◌<◌}
use mathlib.Core.Path.{◌≡◌}
use mathlib.Core.Bool.{true}
use native.Mathlib.Nat.{lt_of_lt_of_le}
use lib.Pow.{pow_pos}
use Rattle.packing.specs.Hybrid.{top_bit, split, valid_config}
use Rattle.packing.specs.declared.Split.{Split}
use Rattle.packing.proofs.Hybrid.{valid, symbol-fits, top_from, top-most, symbol-past, extra-bits-past, extra-value-past, symbol-small, extra-bits-small, extra-value-small}

pub record Past (s m l v n : ℕ) : Type 0 where
  pub from : s ≤ n
  pub most : n ≤ 16
  pub few : s ≤ 6
  pub within : m + l ≤ s
  pub fits : 2 ^ s + (n - s) * 2 ^ (m + l) + v / 2 ^ (n - m) % 2 ^ m * 2 ^ l + v % 2 ^ l < 1152

pub past : (s m l v n : ℕ) → valid_config s m l ≡ true → v ≤ 131071 → 2 ^ s ≤ v → n ≡ top_bit v → Past s m l v n
past s m l v n ok hv big e =
    let p = valid s m l ok in
    rw e
    (record {
      from = top_from s m l v big;
      most = top-most v hv (lt_of_lt_of_le (pow_pos s) big);
      few = p.small;
      within = p.within;
      fits = rw (← symbol-past s m l v big) (symbol-fits s m l v ok hv);
    })

pub made : (s m l v n a b : ℕ) → 2 ^ s ≤ v → n ≡ top_bit v
    → a ≡ 2 ^ s + (n - s) * 2 ^ (m + l) + v / 2 ^ (n - m) % 2 ^ m * 2 ^ l + v % 2 ^ l
    → b ≡ v / 2 ^ l % 2 ^ (n - m - l)
    → ◌≡◌ {A = Split} (record { symbol = a; extra_bits = n - m - l; bits = b }) (split s m l v)
unfolding split
made s m l v n a b big e ea eb =
    simp (ea, eb, e, symbol-past s m l v big, extra-bits-past s m l v big, extra-value-past s m l v big)

pub small : (s m l v : ℕ) → v < 2 ^ s → ◌≡◌ {A = Split} (record { symbol = v; extra_bits = 0; bits = 0 }) (split s m l v)
unfolding split
small s m l v p = simp (symbol-small s m l v p, extra-bits-small s m l v p, extra-value-small s m l v p)
