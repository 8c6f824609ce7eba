use Rattle.std.proofs.Common.{◌≡◌, ℕ, ◌^◌, ◌≤◌, ◌<◌, sym, subst, arith}
use lib.Pow.{pow_mono}
use Rattle.level_calls.proofs.weighing.rdoq_window_len.Goals as goal

at_most : (c l : ℕ) → l < 11 → c ≡ 2 ^ l → c ≤ 1024
at_most c l h e = subst (λ (n : ℕ). n ≤ 1024) (sym e) (pow_mono (low l h))
  where
    low : (l : ℕ) → l < 11 → l ≤ 10
    low l h = omega arith

pub rdoq_window_len-requires : goal.rdoq_window_len-requires
rdoq_window_len-requires c = at_most _ _ c.if-log2_covered-ge11.false (c.log2_covered.ensures.power c.if-log2_covered-ge11.false)
