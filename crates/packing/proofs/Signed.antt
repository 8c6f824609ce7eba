-- Packing and a decoder's unpacking of levels are inverse to one another.
use Prim.Native.Nat.{ℕ, suc, ◌+◌, ◌-◌, ◌*◌, ◌/◌, ◌%◌, ◌≤◌}
use mathlib.Core.Path.{◌≡◌, refl, ap, subst⁻¹}
use mathlib.Core.Bool.{Bool, true, false, cond}
use native.Mathlib.Omega.{arith}
use lib.Dec.{eqb}
use borrow.Author.Tests.{eq-eqb, ne_eqb, eqb-true, eqb-false}
use lib.IntN.{ℤ, pos, negsuc, neg_ℤ, nat_abs}
use Rattle.packing.specs.Signed.{unpack_signed, pack_signed}

-- what is packed unpacks to itself
pub unpack-pack : (v : ℤ) → unpack_signed (pack_signed v) ≡ v
unfolding unpack_signed pack_signed
unpack-pack (pos n) = simp (eq-eqb (2 * n % 2) 0 (omega arith)) (ap pos (omega arith))
unpack-pack (negsuc n) =
    let h : (2 * suc n - 1 + 1) / 2 ≡ suc n = omega arith in
    simp (ne_eqb ((2 * suc n - 1) % 2) 0 (λ e. omega arith), h)

-- and what is unpacked packs to itself
pub pack-unpack : (u : ℕ) → pack_signed (unpack_signed u) ≡ u
unfolding unpack_signed pack_signed
pack-unpack u = go (eqb (u % 2) 0) refl
  where
    go : (b : Bool) → eqb (u % 2) 0 ≡ b → pack_signed (cond b (pos (u / 2)) (neg_ℤ (pos ((u + 1) / 2)))) ≡ u
    go true e = let h : u % 2 ≡ 0 = eqb-true (u % 2) 0 e in omega arith
    go false e =
        let h : (u % 2 ≡ 0 → ⊥) = eqb-false (u % 2) 0 e in
        let half : (u + 1) / 2 ≡ suc (u / 2) = omega arith in
        subst⁻¹ (λ (k : ℕ). pack_signed (neg_ℤ (pos k)) ≡ u) half (omega arith)

-- a packed level of module 1 is a value of module 1
pub packed-small : (v : ℤ) → nat_abs v ≤ 32768 → pack_signed v ≤ 65536
unfolding pack_signed
packed-small (pos n) h = omega arith
packed-small (negsuc n) h = omega arith
