use lib.Ieee.{nan_bits}
use Rattle.book_examples.proofs.ready_prices.Goals as goal

pub float_from_bits-ready_price : goal.float_from_bits-ready_price
unfolding nan_bits
float_from_bits-ready_price c = tt

pub float_from_bits-ready_price-2 : goal.float_from_bits-ready_price-2
unfolding nan_bits
float_from_bits-ready_price-2 c = tt
