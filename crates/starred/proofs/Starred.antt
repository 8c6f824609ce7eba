-- Every starred row of document 01 holds of the definitions, by computing them. Assumes nothing.
use mathlib.Core.Path.{◌≡◌, refl}
use mathlib.Core.List.{map}
use lib.Ieee.{size, lt, sub, of_int}
use Rattle.packing.specs.Signed.{pack_signed}
use Rattle.packing.specs.Hybrid.{top_bit, symbol_of, extra_bits_of}
use Rattle.ac_context.specs.Contexts.{non_zero_bucket}
use Rattle.candidates.specs.Nearest.{nearest_of}
use Rattle.candidates.specs.Candidates.{kept_of, restored_of}
use Rattle.starred.specs.Rows.{computed, rows}

pub starred : map computed rows ≡ rows
unfolding computed rows pack_signed symbol_of extra_bits_of top_bit size non_zero_bucket kept_of restored_of nearest_of lt sub of_int
starred = refl
