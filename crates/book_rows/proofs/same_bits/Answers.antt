use denote.Floats.{passes}
use Rattle.std.proofs.Common.{sym, ◌∙◌}
use Rattle.book_rows.proofs.Steps.{nan-bits, cost-no-nan}
use Rattle.book_rows.proofs.same_bits.Goals as goal

pub float_to_bits-result-then-not-is_nan : goal.float_to_bits-result-then-not-is_nan
float_to_bits-result-then-not-is_nan c = cost-no-nan _ c.requires

pub returns-else-not-is_nan : goal.returns-else-not-is_nan
returns-else-not-is_nan c =
    rw c.if-not-is_nan.false (sym (nan-bits _ _ (sym c.is_nan.ensures.value ∙ c.if-not-is_nan.false) c.requires (passes _ c.well_formed.0.1) (passes _ c.well_formed.1.0.1)))
