-- An answer told meets the contract. Assumes nothing.
use mathlib.Core.Path.{◌≡◌, refl, ap, ◌∙◌, subst⁻¹}
use mathlib.Core.Bool.{Bool, true, false, cond}
use Prim.Native.Nat.{ℕ}
use borrow.Author.Tests.{eqb-false}
use lib.Dec.{T, eqb}
use lib.Ieee.{Float, le}
use Rattle.block.specs.Block.{Block, covered, input_remaining}
use Rattle.block.specs.Answer.{Answer}
use Rattle.block.specs.Answer.{Cost, Refused}
use Rattle.costs.specs.Cost.{cost as is_cost}
use Rattle.input_cost.specs.Input as Input
use Rattle.input_cost.specs.Input.{input_refusal, input_cost, input_answer, NoLess}
use Rattle.prices.specs.Book.{Book}
use Rattle.weights.specs.Window.{window_of}
use Rattle.weights.specs.declared.Window.{Window}
use Rattle.c_answers.specs.Told.{answer_code, cost_after, count_after}
use Rattle.c_input.specs.Input.{reply_of, told, Promised}

module _ (v : Window) (book : Book) (b : Block) (old : Float) where
  -- a code of 0 is told of a cost alone
  told-cost : {answer : Answer} {code : ℕ} {spent : Float} → answer ≡ input_answer v book b → ((x : Float) (n : ℕ) → answer ≡ Cost x n → T (is_cost x))
      → code ≡ answer_code answer → spent ≡ cost_after answer old → code ≡ 0 → T (is_cost spent)
  unfolding input_answer answer_code cost_after
  told-cost {answer} {code} {spent} e each ec es zero = go (eqb (input_refusal v book b) 0) refl e
    where
      go : (t : Bool) → eqb (input_refusal v book b) 0 ≡ t → answer ≡ cond t (Cost (input_cost v book b) (input_remaining b (covered b))) (Refused (input_refusal v book b)) → T (is_cost spent)
      go true h k =
          let same : spent ≡ input_cost v book b = es ∙ ap (λ (a : Answer). cost_after a old) k in
          subst⁻¹ (λ (y : Float). T (is_cost y)) same (each _ _ k)
      go false h k =
          let bad : code ≡ input_refusal v book b = ec ∙ ap answer_code k in
          let none : input_refusal v book b ≡ 0 = cc in
          absurd (eqb-false (input_refusal v book b) 0 h none)

  told-no-less : {answer : Answer} {code : ℕ} {spent : Float} {x : Float} → NoLess x answer → code ≡ answer_code answer → spent ≡ cost_after answer old → (code ≡ 0) × T (le x spent)
  unfolding answer_code cost_after
  told-no-less {answer} {code} {spent} {x} N ec es =
      let same : spent ≡ N.cost = es ∙ ap (λ (a : Answer). cost_after a old) N.is in
      (ec ∙ ap answer_code N.is, subst⁻¹ (λ (y : Float). T (le x y)) same N.no_less)

pub told-input : (book : Book) (b : Block) (cost : Float) (count : ℕ) {answer : Answer} {code after : ℕ} {spent : Float} → Input.Promised book b answer
    → (code ≡ answer_code answer) × ((spent ≡ cost_after answer cost) × (after ≡ count_after answer count)) → Promised book b cost count (reply_of code spent after)
unfolding told answer_code cost_after count_after
told-input book b cost count {answer} P t =
    record {
      reply = rw (t.0, t.1.0, t.1.1) (ap (λ (a : Answer). told a cost count) P.outcome);
      is_cost = told-cost (window_of (covered b)) book b cost P.outcome P.is_cost t.0 t.1.0;
      again = λ w l before x n h wrote charged none.
          rw (t.0, t.1.0, t.1.1) (ap (λ (a : Answer). told a cost count) (P.again w l before x n h wrote charged none));
      never_less = λ w l x n h. told-no-less (window_of (covered b)) book b cost (P.never_less w l x n h) t.0 t.1.0;
    }
