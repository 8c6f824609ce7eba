-- The lengths of a search's window (document 01, module 5, and "The steps they share"), for c covered blocks. Definitions only.
use Rattle.std.specs.Prelude.{ℕ, ◌*◌, min, cond, eqb}
use Rattle.weights.specs.declared.Window.{Window}

-- A window of at most `cap` positions: the first c of a block's 64c are not searched.
abbrev pub window_under : ℕ → ℕ → ℕ
window_under cap c = min cap (63 * c)

-- The Rust's cap: 63 for one covered block, else 64 for each, and 1,024 at most.
abbrev pub window_cap : ℕ → ℕ
window_cap c = cond (eqb c 1) 63 (min (64 * c) 1024)

abbrev pub window_len : ℕ → ℕ
window_len c = window_under (window_cap c) c

-- How many positions of the window may be restored.
abbrev pub restore_len : ℕ → ℕ
restore_len c = cond (eqb c 1) 20 (min (24 * c) 256)

unfoldable pub window_of : ℕ → Window
window_of c = record { length = window_len c; restoring = restore_len c }

-- The window of document 01 cut to at most `cap` positions: under 1,024 it is the whole (proofs/Lengths).
unfoldable pub window_for : ℕ → ℕ → Window
window_for cap c = record { length = min cap (window_len c); restoring = min (restore_len c) (min cap (window_len c)) }

-- The weight's base length: past it a position weighs as at it.
abbrev pub base_len : ℕ → ℕ
base_len c = min (min (24 * c) 64) (63 * c)
