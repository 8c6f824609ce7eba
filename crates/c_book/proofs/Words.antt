-- A price that is told of a value without a word is +infinity. Assumes nothing.
use mathlib.Core.Path.{◌≡◌, refl, sym, ap, ◌∙◌}
use mathlib.Core.Bool.{Bool, true, false, ◌&&◌}
use Prim.Native.Nat.{ℕ, ◌+◌}
use native.Mathlib.Omega.{arith}
use lib.Ieee.{Float, inf}
use Rattle.std.proofs.Common.{Result}
use Rattle.prices.specs.declared.Pair.{Pair}
use Rattle.refusals.specs.declared.Refusal.{Refusal}
use Rattle.refusals.specs.Numbers.{answered, code_of}
use Rattle.book_calls.specs.Prices.{Priced, PairPriced}
use Rattle.price_leaves.specs.Leaf.{in_domain, both}
use Rattle.prices.specs.Book.{Book, price}
use Rattle.c_answers.specs.Told.{after, first_after, second_after}
use Rattle.c_book.specs.Prices.{PriceTold, PairTold}

-- a reply that is an answer tells its value; any other has a code
told-real : (t : Bool) (x old : Float) → code_of (answered t x) ≡ 0 → after (answered t x) old ≡ x
unfolding after
told-real true x old e = refl
told-real false x old e = absurd (omega (arith, e))

told-first : (t : Bool) (x y old : Float) → code_of (both t x y) ≡ 0 → first_after (both t x y) old ≡ x
unfolding first_after
told-first true x y old e = refl
told-first false x y old e = absurd (omega (arith, e))

told-second : (t : Bool) (x y old : Float) → code_of (both t x y) ≡ 0 → second_after (both t x y) old ≡ y
unfolding second_after
told-second true x y old e = refl
told-second false x y old e = absurd (omega (arith, e))

pub price-told : (b : Book) (context v : ℕ) (old : Float) (r : Result Float Refusal) → Priced b context v r → {code : ℕ} {bits : Float} → (code ≡ code_of r) × (bits ≡ after r old) → PriceTold b context v old code bits
price-told b context v old r P t =
    record {
      code_is = t.0 ∙ ap code_of P.reply;
      bits_are = t.1 ∙ ap (λ (x : Result Float Refusal). after x old) P.reply;
      no_word = λ h z.
          let e = P.no_word h in
          t.1 ∙ ap (λ (x : Result Float Refusal). after x old) e ∙ told-real (in_domain b context v) (inf false) old (sym (ap code_of e) ∙ sym t.0 ∙ z);
    }

pub pair-told : (b : Book) (context v : ℕ) (old₁ old₂ : Float) (r : Result Pair Refusal) → PairPriced b context v r → {code : ℕ} {first second : Float}
    → (code ≡ code_of r) × ((first ≡ first_after r old₁) × (second ≡ second_after r old₂)) → PairTold b context v old₁ old₂ code first second
pair-told b context v old₁ old₂ r P t =
    let here = in_domain b context v && in_domain b (context + 1) v in
    record {
      code_is = t.0 ∙ ap code_of P.reply;
      first_is = t.1.0 ∙ ap (λ (x : Result Pair Refusal). first_after x old₁) P.reply;
      second_is = t.1.1 ∙ ap (λ (x : Result Pair Refusal). second_after x old₂) P.reply;
      no_first_word = λ h z.
          let e = P.no_first_word h in
          t.1.0 ∙ ap (λ (x : Result Pair Refusal). first_after x old₁) e ∙ told-first here (inf false) (price b (context + 1) v) old₁ (sym (ap code_of e) ∙ sym t.0 ∙ z);
      no_second_word = λ h z.
          let e = P.no_second_word h in
          t.1.1 ∙ ap (λ (x : Result Pair Refusal). second_after x old₂) e ∙ told-second here (price b context v) (inf false) old₂ (sym (ap code_of e) ∙ sym t.0 ∙ z);
    }
