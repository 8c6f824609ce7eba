use Prim.Native.Nat.{ℕ, ◌+◌, ◌*◌, ◌<◌}
use mathlib.Core.Path.{◌≡◌, subst⁻¹}
use native.Mathlib.Omega.{arith}
use Rattle.ac_context.proofs.Bounds.{covered-some, covered-most, first-index, position-below, count-below, context-below}
use Rattle.ac_context.specs.Contexts.{zero_density_context}
use Rattle.ac_context.proofs.zero_density_context.Goals as goal

pub overflow_add-nz : goal.overflow_add-nz
overflow_add-nz c = omega (arith, covered-most c.requires.0, c.requires.1.left)

pub coeff_num_nonzero_context-requires : goal.coeff_num_nonzero_context-requires
coeff_num_nonzero_context-requires c = rw (← c.requires.0.power) (count-below _ _ _ (covered-some c.requires.0) c.requires.1.coded c.requires.1.left)

pub coeff_freq_context-requires : goal.coeff_freq_context-requires
coeff_freq_context-requires c =
    let pre = c.requires in
    let some = covered-some pre.0 in
    rw (← pre.0.power) (first-index _ _ some pre.1.coded, position-below _ _ _ some pre.1.some pre.1.left)

pub returns : goal.returns
unfolding zero_density_context
returns c =
    let pre = c.requires in
    let power = pre.0.power in
    let a = c.args in
    let same : (c.coeff_num_nonzero_context.result + c.coeff_freq_context.result) * 2 + a.prev ≡ zero_density_context a.covered_blocks a.nonzeros_left a.k a.prev = cc in
    (same, subst⁻¹ (λ (x : ℕ). x < 458) same (context-below (covered-some pre.0) pre.1))
