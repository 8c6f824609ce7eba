-- What the price calls answer for a value that has no word for want of symbols. Assumes nothing.
use Prim.Native.Nat.{ℕ, ◌+◌, ◌<◌}
use mathlib.Core.Path.{◌≡◌, ap, ◌∙◌}
use mathlib.Core.Bool.{false, ◌&&◌}
use lib.ListN.{get_or}
use lib.Ieee.{Float, inf}
use Rattle.prices.specs.Book.{Book, cluster_symbol, price}
use Rattle.prices.proofs.Costs as costs
use Rattle.price_leaves.specs.Leaf.{in_domain, price_reply, pair_reply, both}
use Rattle.std.proofs.Common.{Result}
use Rattle.prices.specs.declared.Pair.{Pair}
use Rattle.refusals.specs.declared.Refusal.{Refusal}
use Rattle.refusals.specs.Numbers.{answered}
use Rattle.book_calls.specs.Prices.{symbol_in, Priced, PairPriced}

infinite : (b : Book) (context v : ℕ) → 127 < symbol_in b context v → price b context v ≡ inf false
unfolding price symbol_in
infinite b context v h = costs.no_word b.configs b.symbols (get_or b.map context 0) v h

module _ (b : Book) (context v : ℕ) where
  pub priced-as : (r : Result Float Refusal) → r ≡ price_reply b context v → Priced b context v r
  unfolding price_reply
  priced-as r e = record { reply = e; no_word = λ h. e ∙ ap (answered (in_domain b context v)) (infinite b context v h) }

  pub pair-priced-as : (r : Result Pair Refusal) → r ≡ pair_reply b context v → PairPriced b context v r
  unfolding pair_reply
  pair-priced-as r e =
      let within = in_domain b context v && in_domain b (context + 1) v in
      record {
        reply = e;
        no_first_word = λ h. e ∙ ap (λ (x : Float). both within x (price b (context + 1) v)) (infinite b context v h);
        no_second_word = λ h. e ∙ ap (both within (price b context v)) (infinite b (context + 1) v h);
      }
