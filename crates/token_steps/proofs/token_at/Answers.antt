use Rattle.std.proofs.Common.{◌≡◌, ◌≤◌, ap, ◌∙◌}
use native.Mathlib.Nat.{le_trans}
use lib.Dec.{lit≤}
use lib.IntN.{ℤ, nat_abs}
use mir.Syntax.{w32}
use mir.Val.{of_z, to_z}
use Rattle.candidates.proofs.Levels.{in-back}
use Rattle.packing.specs.Signed.{pack_signed}
use Rattle.packing.proofs.Signed.{packed-small}
use Rattle.token_steps.proofs.token_at.Goals as goal

-- the level as it is handed on
back : {v w : ℤ} → v ≡ w → nat_abs w ≤ 32768 → to_z w32 (of_z w32 v) ≡ w
back {v} {w} e small = ap (λ (z : ℤ). to_z w32 (of_z w32 z)) e ∙ in-back w small

pub split_under-split-requires : goal.split_under-split-requires
split_under-split-requires c =
    let packed = c.pack_signed.ensures ∙ ap pack_signed (back c.level_at-level.ensures c.requires.has_token.small) in
    record { coded = c.requires.coded; context_bound = (c.context_in-context.ensures.1, rw packed (le_trans (packed-small _ c.requires.has_token.small) (lit≤ tt))) }
