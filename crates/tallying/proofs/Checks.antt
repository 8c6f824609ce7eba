-- The checks of both calls, and what they leave the loops with. Assumes nothing.
use mathlib.Core.Path.{◌≡◌, refl, sym, ap, ◌∙◌}
use mathlib.Core.Bool.{Bool, true, false, ◌&&◌, cond}
use mathlib.Core.List.{List, [], ◌∷◌}
use Prim.Native.Nat.{ℕ, zero, suc, ◌+◌, ◌*◌, ◌<◌, ◌≤◌, max}
use native.Mathlib.Omega.{arith}
use native.Mathlib.Numerals.{add-one}
use borrow.Author.Tests.{eq-eqb, ne_eqb, eqb-true, leb-true, leb-false, le-leb, lt-leb}
use lib.Dec.{eqb, leb}
use lib.ListN.{length, get_or}
use Rattle.coding.specs.Coding.{Coding, Codes, coding_of, coding_checks}
use Rattle.coding.specs.declared.code.Code.{Code}
use Rattle.coding.proofs.Passed.{others-right}
use Rattle.laws.specs.Refusals.{first_refused}
use Rattle.laws.proofs.Refused.{in-turn, refused-first, all_pass, none-refused, passes-first}
use Rattle.laws.proofs.Tests.{and_left, and_right}
use Rattle.prices.specs.Checks.{each}
use Rattle.prices.proofs.Each.{each_below, each-fails}
use Rattle.tallying.specs.Uses.{Tokens}
use Rattle.tallying.specs.Tally.{Tally, many, are_tokens, shared_checks, tally_checks}
use Rattle.tallying.specs.Checked.{tokens_in}
use Rattle.tallying.specs.declared.tokens.Tokens as Checked

-- ---- 17
-- the largest of a list decides
pub each-max : (p : ℕ → Bool) (n top x most : ℕ) → each n p ≡ leb top most → p n ≡ leb x most → each (n + 1) p ≡ leb (max top x) most
unfolding each
each-max p n top x most e d = rw (add-one n, e, d) (go (leb top most) (leb x most) refl refl)
  where
    go : (a b : Bool) → leb top most ≡ a → leb x most ≡ b → a && b ≡ leb (max top x) most
    go true true f g = sym (le-leb (max top x) most (omega (arith, leb-true top most f, leb-true x most g)))
    go true false f g = sym (lt-leb (max top x) most (omega (arith, leb-true top most f, leb-false x most g)))
    go false b f g = sym (lt-leb (max top x) most (omega (arith, leb-false top most f)))

swapped : (a b c d : Bool) → ((a && b) && (c && d)) ≡ ((a && c) && (b && d))
swapped true true c d = refl
swapped true false true d = refl
swapped true false false d = refl
swapped false b c d = refl

each_both : (p q : ℕ → Bool) (n : ℕ) → (each n p && each n q) ≡ each n (λ i. p i && q i)
unfolding each
each_both p q zero = refl
each_both p q (suc n) = swapped (each n p) (p n) (each n q) (q n) ∙ ap (λ b. b && (p n && q n)) (each_both p q n)

module _ (t : Tokens) where
  abbrev pub is_token : ℕ → Bool
  is_token i = leb (get_or t.contexts i 0) 14849 && leb (get_or t.values i 0) 131071

  pub other-lengths : (length t.values ≡ many t → ⊥) → false ≡ are_tokens t
  unfolding are_tokens
  other-lengths n = rw (ne_eqb (length t.values) (many t) n)

  module _ (e : length t.values ≡ many t) where
    -- where both lists have one length the tokens decide
    pub token-by-token : each (many t) is_token ≡ are_tokens t
    unfolding are_tokens
    token-by-token = rw (eq-eqb (length t.values) (many t) e) refl

    pub no-token : (i : ℕ) → i < many t → is_token i ≡ false → false ≡ are_tokens t
    no-token i h f = sym (each-fails is_token (many t) i h f) ∙ token-by-token

    pub all-tokens : each (many t) is_token ≡ true → true ≡ are_tokens t
    all-tokens f = sym f ∙ token-by-token

  pub both-lists : length t.values ≡ many t → (each (length t.contexts) (λ i. leb (get_or t.contexts i 0) 14849) && each (length t.values) (λ i. leb (get_or t.values i 0) 131071)) ≡ are_tokens t
  unfolding are_tokens
  both-lists e = rw (eq-eqb (length t.values) (many t) e, e) (each_both (λ i. leb (get_or t.contexts i 0) 14849) (λ i. leb (get_or t.values i 0) 131071) (many t))

  module _ (ok : are_tokens t ≡ true) where
    pub same-lengths : length t.values ≡ many t
    unfolding are_tokens
    same-lengths = eqb-true (length t.values) (many t) (and_left (eqb (length t.values) (many t)) (each (many t) is_token) ok)

    pub token-at : (i : ℕ) → i < many t → (get_or t.contexts i 0 ≤ 14849) × (get_or t.values i 0 ≤ 131071)
    unfolding are_tokens
    token-at i h =
        let here = each_below is_token (many t) (and_right (eqb (length t.values) (many t)) (each (many t) is_token) ok) i h in
        (leb-true _ _ (and_left (leb (get_or t.contexts i 0) 14849) (leb (get_or t.values i 0) 131071) here), leb-true _ _ (and_right (leb (get_or t.contexts i 0) 14849) (leb (get_or t.values i 0) 131071) here))

-- ---- 1 to 4, then 17
module _ (k : Coding) (t : Tokens) (places : ℕ) where
  abbrev first : List (Bool × ℕ)
  first = coding_checks k (eqb places (128 * k.clusters))

  pub code-refused : {r : ℕ} → r ≡ first_refused first 0 → (r ≡ 0 → ⊥) → r ≡ first_refused (shared_checks k t places) 0
  unfolding shared_checks
  code-refused e n = e ∙ sym (in-turn first ((are_tokens t, 17) ∷ []) 0 ∙ refused-first first _ (λ z. n (e ∙ z)))

  pub code-passed : first_refused first 0 ≡ 0 → first_refused (shared_checks k t places) 0 ≡ cond (are_tokens t) 0 17
  unfolding shared_checks coding_checks first_refused
  code-passed e = in-turn first ((are_tokens t, 17) ∷ []) 0 ∙ all_pass first (cond (are_tokens t) 0 17) refl e

  both-passed : first_refused (shared_checks k t places) 0 ≡ 0 → (first_refused first 0 ≡ 0) × (are_tokens t ≡ true)
  unfolding shared_checks coding_checks
  both-passed e =
      let code = none-refused first (first_refused ((are_tokens t, 17) ∷ []) 0) refl (sym (in-turn first ((are_tokens t, 17) ∷ []) 0) ∙ e) in
      (code, (passes-first (are_tokens t) 17 [] 0 refl (sym (all_pass first (first_refused ((are_tokens t, 17) ∷ []) 0) refl code) ∙ (sym (in-turn first ((are_tokens t, 17) ∷ []) 0) ∙ e))).0)

  pub places-are : first_refused (shared_checks k t places) 0 ≡ 0 → places ≡ 128 * k.clusters
  places-are ok = eqb-true places (128 * k.clusters) (others-right k (eqb places (128 * k.clusters)) (both-passed ok).0)

-- a code with a count for each of its places, and tokens of it
pub record Countable (map configs : List ℕ) (t : Tokens) (places : ℕ) : Type 0 where
  pub clusters : ℕ
  pub codes : Codes (coding_of clusters map configs)
  pub places_are : places ≡ 128 * clusters
  pub long : length t.values ≡ many t
  pub context : (i : ℕ) → i < many t → get_or t.contexts i 0 ≤ 14849
  pub value : (i : ℕ) → i < many t → get_or t.values i 0 ≤ 131071

pub countable : (c : Code) (t : Checked.Tokens) {places : ℕ} → places ≡ 128 * c.clusters → Countable c.map.now c.configs.now (tokens_in t) places
countable c t e =
    record {
      clusters = c.clusters;
      codes = c.codes;
      places_are = e;
      long = same-lengths (tokens_in t) t.passed;
      context = λ i h. (token-at (tokens_in t) t.passed i h).0;
      value = λ i h. (token-at (tokens_in t) t.passed i h).1;
    }

-- ---- the call's own check comes last
module _ (k : Coding) (t : Tokens) (y : Tally) (own : Bool) (n : ℕ) where
  abbrev shared : List (Bool × ℕ)
  shared = shared_checks k t (length y.counts)

  pub shared-refused : {r : ℕ} → r ≡ first_refused shared 0 → (r ≡ 0 → ⊥) → r ≡ first_refused (tally_checks k t y (own, n)) 0
  unfolding tally_checks
  shared-refused e z = e ∙ sym (in-turn shared ((own, n) ∷ []) 0 ∙ refused-first shared _ (λ h. z (e ∙ h)))

  pub shared-passed : first_refused shared 0 ≡ 0 → first_refused (tally_checks k t y (own, n)) 0 ≡ cond own 0 n
  unfolding tally_checks shared_checks coding_checks first_refused
  shared-passed e = in-turn shared ((own, n) ∷ []) 0 ∙ all_pass shared (cond own 0 n) refl e

  -- where nothing refuses, the call's own check passed
  pub own-passed : eqb n 0 ≡ false → first_refused (tally_checks k t y (own, n)) 0 ≡ 0 → own ≡ true
  unfolding tally_checks shared_checks coding_checks
  own-passed z e =
      let last = first_refused ((own, n) ∷ []) 0 in
      let split = sym (in-turn shared ((own, n) ∷ []) 0) ∙ e in
      let ok = none-refused shared last refl split in
      (passes-first own n [] 0 z (sym (all_pass shared last refl ok) ∙ split)).0
