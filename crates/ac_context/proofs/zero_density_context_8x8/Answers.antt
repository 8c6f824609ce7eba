use lib.Dec.{lit<}
use Prim.Native.Nat.{ℕ, ◌+◌, ◌*◌, ◌<◌}
use mathlib.Core.Path.{◌≡◌, subst⁻¹}
use native.Mathlib.Nat.{div-one, add-sub_cancel}
use Rattle.ac_context.proofs.Bounds.{context-below}
use Rattle.ac_context.specs.Contexts.{zero_density_context}
use Rattle.ac_context.proofs.zero_density_context_8x8.Goals as goal

pub returns : goal.returns
unfolding zero_density_context
returns c =
    let a = c.args in
    let same : (c.coeff_num_nonzero_context.result + c.coeff_freq_context.result) * 2 + a.prev ≡ zero_density_context 1 a.nonzeros_left a.k a.prev =
    simp (div-one, add-sub_cancel) (cc) in
    (same, subst⁻¹ (λ (x : ℕ). x < 458) same (context-below (lit< tt) c.requires))
