use Rattle.ans_prices.proofs.Prices.{prices, part0, part1, part2, part3, part4, part5, part6, part7}
use Rattle.ans_prices.proofs.Whole as Whole
use Rattle.ans.proofs.table.price_table.Goals as goal

pub returns : goal.returns
unfolding prices part0 part1 part2 part3 part4 part5 part6 part7
returns c = Whole.table
