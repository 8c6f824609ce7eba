-- What a block of a sound form is known to be, by its number of covered blocks. Assumes nothing.
use mathlib.Core.Path.{◌≡◌}
use mathlib.Core.Bool.{true}
use Prim.Native.Nat.{ℕ, ◌+◌, ◌*◌, ◌≤◌}
use native.Mathlib.Omega.{arith}
use lib.ListN.{length}
use Rattle.ac_context.proofs.Bounds.{covered-some, covered-most}
use Rattle.block.specs.Block.{Block, covered}
use Rattle.scan.specs.Scan.{each_once, Perm}
use Rattle.scan.proofs.Once.{perm-of}
use Rattle.weights.specs.Window.{window_for}
use Rattle.weights.specs.declared.Window.{Window}
use Rattle.block_checks.specs.Parts.{form_refusal}
use Rattle.block_checks.proofs.Laws.{formed, window-fits}

module _ (b : Block) (ok : form_refusal b ≡ 0) {c : ℕ} (blocks : c ≡ b.shape.cx * b.shape.cy) where
  pub few : c ≤ 1024
  unfolding covered
  few = rw blocks (covered-most (formed b ok).power)

  pub scan-short : length b.scan ≤ 65536
  unfolding covered
  scan-short = let f = formed b ok in omega (arith, covered-most f.power, f.scan_long)

  pub scanned : each_once b.scan ≡ true → Perm b.scan (64 * c)
  unfolding covered
  scanned e = perm-of b.scan (64 * c) (rw blocks (formed b ok).scan_long) e

  pub levels-held : length b.levels ≡ 64 * c
  unfolding covered
  levels-held = rw blocks (formed b ok).levels_long

  pub source-held : length b.source ≡ 64 * c
  unfolding covered
  source-held = rw blocks (formed b ok).source_long

  pub inverse-held : length b.inverse ≡ 64 * c
  unfolding covered
  inverse-held = rw blocks (formed b ok).inverse_long

  pub window-held : (cap : ℕ) {v : Window} → v ≡ window_for cap c → c + v.length ≤ 64 * c
  unfolding covered
  window-held cap {v} e = rw (e, blocks) (window-fits cap (b.shape.cx * b.shape.cy) (covered-some (formed b ok).power))
