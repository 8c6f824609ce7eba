use Prim.Native.Nat.{ℕ, ◌^◌, ◌≤◌}
use native.Mathlib.Omega.{arith}
use borrow.Author.Rules.{rules}
use lib.Dec.{T, le→leb}
use lib.IntN.{pos}
use lib.Ieee.{binary32, in_float, of_bits}
use Rattle.weights.specs.Weights.{distortion_weight}
use Rattle.weights.proofs.rdoq_distortion_weight.Goals as goal

exact : (n : ℕ) → n ≤ 1024 → T (in_float binary32 (pos n))
unfolding in_float
exact n h = le→leb n (2 ^ 24) (omega arith)

pub int_to_float-behind : goal.int_to_float-behind
int_to_float-behind c = exact c.args.window_index (omega arith)

pub int_to_float-behind-2 : goal.int_to_float-behind-2
int_to_float-behind-2 c = exact c.max-len.result (omega arith)

pub clamp-strength-requires : goal.clamp-strength-requires
unfolding of_bits
clamp-strength-requires c = search rules

pub returns : goal.returns
unfolding distortion_weight of_bits
returns c = search rules
