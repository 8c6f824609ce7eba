-- The theorems of least cost, of a block's search problem, in document 01's words. The book passes checks 1 to 6 and the block 7 to 13; half-width and window are
-- parameters, and document 01's are 6 and `window_of c`. Assumes nothing.
use mathlib.Core.Path.{◌≡◌, ap, subst, subst⁻¹, ◌∙◌}
use mathlib.Core.Logic.{◌↔◌}
use mathlib.Core.Bool.{Bool, true, false, not}
use mathlib.Core.List.{List}
use Prim.Native.Nat.{ℕ, suc, ◌+◌, ◌*◌, ◌^◌, ◌≤◌}
use lib.Dec.{T}
use lib.IntN.{ℤ}
use lib.ListN.{length}
use lib.Ieee.{inf, le}
use lib.Ieee.Scale.{finite}
use Rattle.ac_context.specs.Contexts.{fine_zero_density_contexts_offset, zero_density_context}
use Rattle.bias.specs.Level.{is_level}
use Rattle.block.specs.Block.{Block, covered, context_of, input_remaining, input_from}
use Rattle.block.specs.Cost.{token_price}
use Rattle.block.specs.Band.{problem_of}
use Rattle.block_checks.specs.Passed.{Passed}
use Rattle.exact.specs.Exact.{whole_exact}
use Rattle.exact.proofs.Block.{block-floats}
use Rattle.exact.proofs.Choices as Exact
use Rattle.least_cost.proofs.Infinite.{whole-finite}
use Rattle.least_cost.specs.Search.{count_of, whole_cost, least_total, Banded}
use Rattle.least_cost.proofs.Whole.{Answer}
use Rattle.least_cost.proofs.Main as Least
use Rattle.packing.specs.Signed.{pack_signed}
use Rattle.prices.specs.Book.{Book}
use Rattle.prices.specs.Checks.{book_refusal}
use Rattle.prices.proofs.Costs.{symbol_price_of}
use Rattle.weights.specs.declared.Window.{Window}
use Rattle.problem.specs.Tokens.{past_length, needs_infinite}
use Rattle.problem.proofs.Terms.{price-infinite}
use Rattle.problem.proofs.Local.{packed-value}
use Rattle.problem.proofs.Problem.{sound, capped-problem, positions-length}
use Rattle.problem.proofs.Tokens.{infinite-token}
use Rattle.problem.proofs.Input.{input-banded, count-near}

module _ (w : ℕ) (v : Window) (book : Book) (ok : book_refusal book ≡ 0) (b : Block) (P : Passed v b) where
  -- Where the least cost is finite, the levels found are a choice in the band; the count and the cost answered are theirs; no choice in the band costs less, and none
  -- with a smaller count costs as little.
  pub found : T (finite (least_total (problem_of w v book b))) → Answer (problem_of w v book b)
  found = Least.found (problem_of w v book b) (sound book ok v b P w)

  -- No choice in the band costs less, finite or not.
  pub none-cheaper : (cs : List ℤ) → Banded (problem_of w v book b) cs → T (le (least_total (problem_of w v book b)) (whole_cost (problem_of w v book b) cs))
  none-cheaper = Least.none-cheaper (problem_of w v book b) (sound book ok v b P w)

  -- Refusal 15: the least cost is infinite exactly where each choice in the band needs a token of infinite price.
  pub each-needs-infinite :
      (least_total (problem_of w v book b) ≡ inf false) ↔ ((cs : List ℤ) → Banded (problem_of w v book b) cs → T (needs_infinite v book b cs))
  each-needs-infinite =
      let p = problem_of w v book b in
      let h = Least.needs-infinite p (sound book ok v b P w) 194 (past_length v b) (capped-problem book ok v b P w) in (
        λ e cs B. subst (λ (t : Bool). T t) (infinite-token book ok v b P w cs B) (h.0 e cs B),
        λ f. h.1 (λ cs B. subst⁻¹ (λ (t : Bool). T t) (infinite-token book ok v b P w cs B) (f cs B)),
      )

  -- How far from the exact sum: of two choices in the band, the one that costs no more, rounded, has an exact cost that exceeds the other's by at most one part in 2^23 for
  -- each of its sums. The other needs no token of infinite price.
  positions-many : length (problem_of w v book b).positions ≡ v.length
  unfolding problem_of
  positions-many = positions-length w v book b 0 v.length

  pub near_exact : (cs ds : List ℤ) → Banded (problem_of w v book b) cs → Banded (problem_of w v book b) ds → T (le (whole_cost (problem_of w v book b) cs) (whole_cost (problem_of w v book b) ds))
      → needs_infinite v book b ds ≡ false
      → whole_exact (problem_of w v book b) cs * 16777215 ^ suc v.length ≤ whole_exact (problem_of w v book b) ds * 16777217 ^ suc v.length
  near_exact cs ds C D h finite-price =
      let p = problem_of w v book b in
      let s = sound book ok v b P w in
      let f : finite (whole_cost p ds) ≡ true =
      whole-finite 194 (past_length v b) p s (capped-problem book ok v b P w) ds D ∙ ap not (infinite-token book ok v b P w ds D ∙ finite-price) in
      subst (λ (n : ℕ). whole_exact p cs * 16777215 ^ suc n ≤ whole_exact p ds * 16777217 ^ suc n) positions-many
      (Exact.near_exact p s (block-floats book b w v) cs ds C D h (rw f tt))

  -- A token's price is infinite exactly where its symbol's is.
  pub token-infinite :
      (remaining k prev : ℕ) (q : ℤ) → T (is_level q)
      → (token_price book b remaining k prev q ≡ inf false)
      ↔ (symbol_price_of book (fine_zero_density_contexts_offset (context_of b) + zero_density_context (covered b) remaining k prev) (pack_signed q) ≡ inf false)
  unfolding token_price
  token-infinite remaining k prev q h = price-infinite book ok _ (pack_signed q) (packed-value q h)

  -- The band is never empty: it has the input's own levels.
  pub input-in-band : Banded (problem_of w v book b) (input_from b (covered b) v.length)
  input-in-band = input-banded w v book b P

  -- The whole count differs from the input's by at most w + 1.
  pub count-within :
      (cs : List ℤ) → Banded (problem_of w v book b) cs
      → (input_remaining b (covered b) ≤ count_of (problem_of w v book b) cs + (w + 1)) × (count_of (problem_of w v book b) cs ≤ input_remaining b (covered b) + (w + 1))
  count-within = count-near w v book b P ok
