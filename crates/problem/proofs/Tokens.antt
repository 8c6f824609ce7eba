-- A choice's whole cost has an infinite term exactly where one of its tokens has an infinite price. Assumes nothing.
use mathlib.Core.Path.{◌≡◌, refl, sym, ap, ap₂, ◌∙◌, subst}
use mathlib.Core.Bool.{Bool, true, false, not, cond, ◌&&◌, ◌||◌}
use mathlib.Core.List.{List, [], ◌∷◌, ◌++◌, Memᴰ as Mem}
use Prim.Native.Nat.{ℕ, zero, suc, ◌+◌, ◌-◌, ◌*◌, ◌≤◌, ◌<◌}
use native.Mathlib.Nat.{add-zero, add-suc}
use native.Mathlib.Omega.{arith}
use borrow.Author.Tests.{eqb-true, eq-eqb}
use lib.Dec.{T, eqb}
use lib.IntN.{ℤ, pos}
use lib.Ieee.{Float, inf, fin, eq, binary32, add, mul}
use lib.Ieee.Scale.{finite}
use Rattle.ac_context.specs.Contexts.{fine_non_zero_context}
use Rattle.block.specs.Block.{Block, covered, context_of, input_at, nonzeros_among, input_remaining, input_from}
use Rattle.block.specs.Cost.{token_price, local_cost, tokens_from, tail_cost, first_prev, count_cost}
use Rattle.block.specs.Band.{position_at, positions_from, past_window, tail_of, problem_of}
use Rattle.block_checks.specs.Passed.{Passed}
use Rattle.costs.specs.Cost.{cost, capped}
use Rattle.costs.proofs.View.{Cost, at-inf, at-fin, view}
use Rattle.costs.proofs.Order.{same_test}
use Rattle.costs.proofs.Sum.{finite-terms}
use Rattle.costs.proofs.Bound.{capped-cost, add-finite}
use Rattle.least_cost.specs.Position.{Position, nz}
use Rattle.least_cost.specs.Choice.{Choice, done, takes, remaining, has_infinite}
use Rattle.least_cost.specs.Search.{count_of, whole_infinite, Banded}
use Rattle.prices.specs.Book.{Book, price}
use Rattle.prices.specs.Checks.{book_refusal}
use Rattle.weights.specs.declared.Window.{Window}
use Rattle.problem.specs.Tokens.{past_length, chosen_levels, nonzeros_of, level_tokens, tokens_of, some_infinite, needs_infinite}
use Rattle.problem.proofs.Terms.{price-capped}
use Rattle.problem.proofs.Local.{candidates-level, token-capped, local-finite, lambda-capped, lambda-finite}
use Rattle.problem.proofs.Problem.{room, zero-capped, input-token, sum-capped, count_small}

-- ---- of a cost

pub infinite-is : (x : Float) → T (cost x) → eq x (inf false) ≡ not (finite x)
unfolding eq
infinite-is x h = go (view x h)
  where
    go : {y : Float} → Cost y → eq y (inf false) ≡ not (finite y)
    go at-inf = refl
    go (at-fin m e) = refl

-- ---- the levels of a choice, with those past the window

pub past-nonzeros : (b : Block) (k n : ℕ) → nonzeros_of (input_from b k n) ≡ nonzeros_among b.scan b.levels k n
unfolding input_from input_at nonzeros_among remaining
past-nonzeros b k zero = refl
past-nonzeros b k (suc n) = ap (λ (m : ℕ). nz (input_at b k) + m) (past-nonzeros b (suc k) n)

pub joined : (cs ys : List ℤ) → remaining (nonzeros_of ys) cs ≡ nonzeros_of (cs ++ ys)
unfolding remaining
joined [] ys = refl
joined (c ∷ cs) ys = ap (λ (m : ℕ). nz c + m) (joined cs ys)

-- what a choice counts
pub chosen-count : (v : Window) (b : Block) (cs : List ℤ) → remaining (past_window v b) cs ≡ nonzeros_of (chosen_levels v b cs)
unfolding past_window input_remaining chosen_levels past_length
chosen-count v b cs =
    ap (λ (s : ℕ). remaining s cs) (sym (past-nonzeros b (covered b + v.length) (64 * covered b - (covered b + v.length)))) ∙ joined cs _

-- where nothing remains there is no token
no-tokens : (book : Book) (b : Block) (k prev : ℕ) (qs : List ℤ) → nonzeros_of qs ≡ 0 → level_tokens book b k prev qs ≡ []
unfolding level_tokens
no-tokens book b k prev [] e = refl
no-tokens book b k prev (q ∷ qs) e = rw (eq-eqb (nonzeros_of (q ∷ qs)) 0 e)

-- a choice, taken apart
abbrev Parts : List Position → List ℤ → Type 0
Parts [] [] = T true
Parts [] (c ∷ cs) = ⊥
Parts (q ∷ qs) [] = ⊥
Parts (q ∷ qs) (c ∷ cs) = Mem c q.candidates × Choice qs cs

parts : {qs : List Position} {cs : List ℤ} → Choice qs cs → Parts qs cs
parts done = tt
parts (takes m k) = (m, k)

-- ---- tests

regroup : (s p u : Bool) → (s && p) && not u ≡ s && not (not p || u)
regroup true true u = refl
regroup true false u = refl
regroup false p u = refl

both-tests : (x y z : Bool) → (T z → T x × T y) → (T x → T y → T z) → z ≡ (x && y)
both-tests x y z f g = same_test z (x && y) (λ t. into x y (f t).0 (f t).1) (λ t. g (left x y t) (right x y t))
  where
    into : (x y : Bool) → T x → T y → T (x && y)
    into true y a c = c
    into false y a c = a

    left : (x y : Bool) → T (x && y) → T x
    left true y t = tt
    left false y t = t

    right : (x y : Bool) → T (x && y) → T y
    right true y t = t
    right false y t = absurd t

twice : (u : Bool) → not (not u) ≡ u
twice true = refl
twice false = refl

and-true : (u : Bool) → u ≡ (u && true)
and-true true = refl
and-true false = refl

swap : (x y : Bool) → (x || y) ≡ (y || x)
swap true true = refl
swap true false = refl
swap false true = refl
swap false false = refl

-- one level more: its local cost is infinite exactly where a token is due and its price is infinite
first-term :
    (t : Bool) (x : Float) (xs : List Float) (one rest : Bool) → T (cost x) → one ≡ (t || finite x) → rest ≡ some_infinite xs → (t ≡ true → xs ≡ [])
    → (not one || rest) ≡ some_infinite (cond t [] (x ∷ xs))
unfolding some_infinite
first-term true x xs one rest c e d n = ap₂ (λ (y z : Bool). not y || z) e (d ∙ ap some_infinite (n refl))
first-term false x xs one rest c e d n = ap₂ (λ (y z : Bool). not y || z) e d ∙ ap (λ (y : Bool). y || some_infinite xs) (sym (infinite-is x c))

module _ (book : Book) (ok : book_refusal book ≡ 0) (v : Window) (b : Block) (P : Passed v b) where
  -- ---- the tail
  tokens-finite :
      (n r k prev m : ℕ) (sum : Float) → r ≡ nonzeros_of (input_from b k n) → covered b ≤ k → k + n ≤ 64 * covered b → m + n ≤ 65536 → T (capped binary32 m 194 sum)
      → finite (tokens_from book b n r k prev sum) ≡ (finite sum && not (some_infinite (level_tokens book b k prev (input_from b k n))))
  unfolding tokens_from level_tokens input_from some_infinite remaining
  tokens-finite zero r k prev m sum e l h few s = and-true (finite sum)
  tokens-finite (suc n) r k prev m sum e l h few s =
      let q = input_at b k in
      let rest = input_from b (suc k) n in
      let bits = token_price book b r k prev q in
      let C = input-token book ok v b P r k prev l (omega arith) in
      let more = sum-capped book ok v b P r k prev m sum l (omega arith) (omega arith) s in
      let left : r - nz q ≡ nonzeros_of rest = omega arith in
      let next = tokens-finite n (r - nz q) (suc k) (nz q) (m + 1) _ left (omega arith) (omega arith) (omega arith) more in
      subst (λ (z : ℕ). finite (tokens_from book b (suc n) r k prev sum) ≡ (finite sum && not (some_infinite (cond (eqb z 0) [] (token_price book b z k prev q ∷ level_tokens book b (suc k) (nz q) rest))))) e
      (go (eqb r 0) (tokens_from book b n (r - nz q) (suc k) (nz q) (add binary32 sum (mul binary32 b.settings.lambda bits))) (bits ∷ level_tokens book b (suc k) (nz q) rest) (next ∙ ap (λ (t : Bool). t && not (some_infinite (level_tokens book b (suc k) (nz q) rest))) (summed C)
      ∙ regroup (finite sum) (finite bits) (some_infinite (level_tokens book b (suc k) (nz q) rest))
      ∙ ap (λ (t : Bool). finite sum && not (t || some_infinite (level_tokens book b (suc k) (nz q) rest))) (sym (infinite-is bits (capped-cost binary32 1041 149 bits C)))))
    where
      summed : T (capped binary32 1041 149 (token_price book b r k prev (input_at b k)))
          → finite (add binary32 sum (mul binary32 b.settings.lambda (token_price book b r k prev (input_at b k)))) ≡ (finite sum && finite (token_price book b r k prev (input_at b k)))
      summed C =
          let bits = token_price book b r k prev (input_at b k) in
          let term = mul binary32 b.settings.lambda bits in
          let R = room (m + 1) (omega arith) in
          let D = lambda-capped book ok v b P bits C in
          both-tests (finite sum) (finite term) (finite (add binary32 sum term)) (finite-terms binary32 sum term (capped-cost binary32 m 194 sum s) (capped-cost binary32 1 194 term D)) (add-finite binary32 m 1 194 sum term R.digits R.under s D)
          ∙ ap (λ (t : Bool). finite sum && t) (lambda-finite book ok v b P bits C)

      go : (t : Bool) (x : Float) (xs : List Float) → finite x ≡ (finite sum && not (some_infinite xs)) → finite (cond t sum x) ≡ (finite sum && not (some_infinite (cond t [] xs)))
      go true x xs d = and-true (finite sum)
      go false x xs d = d

  tail-infinite :
      (prev : ℕ)
      → not (finite (tail_cost book b v.length prev)) ≡ some_infinite (level_tokens book b (covered b + v.length) prev (input_from b (covered b + v.length) (past_length v b)))
  unfolding tail_cost past_length input_remaining
  tail-infinite prev =
      let few = P.most in
      let fits = P.window.fits in
      let k : ℕ = covered b + v.length in
      let n : ℕ = 64 * covered b - k in
      ap not (tokens-finite n (nonzeros_among b.scan b.levels k n) k prev 0 (fin false 0 (pos 0)) (sym (past-nonzeros b k n)) (omega arith) (omega arith) (omega arith) zero-capped)
      ∙ twice (some_infinite (level_tokens book b k prev (input_from b k n)))

  -- ---- the count
  count-finite : (n : ℕ) → n ≤ 131071 → finite (count_cost book b n) ≡ finite (price book (fine_non_zero_context b.shape.predicted (context_of b)) n)
  unfolding count_cost
  count-finite n h = lambda-finite book ok v b P _ (price-capped book ok _ n h)

  module _ (w : ℕ) where
    -- ---- the window
    window-infinite :
        (n i p : ℕ) (cs : List ℤ) → i + n ≡ v.length → Choice (positions_from w v book b i n) cs
        → has_infinite (tail_of v book b) (positions_from w v book b i n) p cs ≡ some_infinite (level_tokens book b (covered b + i) p (chosen_levels v b cs))
    unfolding has_infinite positions_from position_at tail_of chosen_levels level_tokens remaining
    window-infinite zero i p [] e k =
        let same : v.length ≡ i = omega arith in
        subst (λ (j : ℕ). not (finite (tail_cost book b v.length p)) ≡ some_infinite (level_tokens book b (covered b + j) p (input_from b (covered b + v.length) (past_length v b)))) same (tail-infinite p)
    window-infinite zero i p (c ∷ cs) e k = absurd (parts k)
    window-infinite (suc n) i p [] e k = absurd (parts k)
    window-infinite (suc n) i p (c ∷ cs) e k =
        let low : i < v.length = omega arith in
        let h = candidates-level book ok v b P i low c (parts k).0 in
        let r : ℕ = nz c + remaining (past_window v b) cs in
        let all = chosen_levels v b cs in
        let count : r ≡ nz c + nonzeros_of all = ap (λ (m : ℕ). nz c + m) (chosen-count v b cs) in
        let rest = subst (λ (j : ℕ). has_infinite (tail_of v book b) (positions_from w v book b (suc i) n) (nz c) cs ≡ some_infinite (level_tokens book b j (nz c) all)) (add-suc (covered b) i)
        (window-infinite n (suc i) (nz c) cs (omega arith) (parts k).1) in
        subst (λ (z : ℕ). (not (finite (local_cost book b i r p c)) || has_infinite (tail_of v book b) (positions_from w v book b (suc i) n) (nz c) cs) ≡ some_infinite (cond (eqb z 0) [] (token_price book b z (covered b + i) p c ∷ level_tokens book b (suc (covered b + i)) (nz c) all))) count
        (first-term (eqb r 0) (token_price book b r (covered b + i) p c) (level_tokens book b (suc (covered b + i)) (nz c) all) _ _
        (capped-cost binary32 1041 149 _ (token-capped book ok v b P r (covered b + i) p c h)) (local-finite book ok v b P i low c h r p) rest
        (λ z. let zero_left = eqb-true r 0 z in no-tokens book b (suc (covered b + i)) (nz c) all (omega arith)))

    -- ---- the whole cost
    pub infinite-token : (cs : List ℤ) → Banded (problem_of w v book b) cs → whole_infinite (problem_of w v book b) cs ≡ needs_infinite v book b cs
    unfolding whole_infinite problem_of count_of tail_of needs_infinite tokens_of some_infinite
    infinite-token cs B =
        let n : ℕ = remaining (past_window v b) cs in
        let small : n ≤ 131071 = count_small book ok v b P w cs B in
        let bits = price book (fine_non_zero_context b.shape.predicted (context_of b)) n in
        let all = chosen_levels v b cs in
        let front = window-infinite v.length 0 (first_prev b n) cs (omega arith) B.choice in
        ap₂ (λ (y z : Bool). y || z) front (ap not (count-finite n small) ∙ sym (infinite-is bits (capped-cost binary32 1041 149 bits (price-capped book ok _ n small))))
        ∙ swap (some_infinite (level_tokens book b (covered b + 0) (first_prev b n) all)) (eq bits (inf false))
        ∙ ap₂ (λ (m j : ℕ). eq (price book (fine_non_zero_context b.shape.predicted (context_of b)) m) (inf false) || some_infinite (level_tokens book b j (first_prev b m) all)) (chosen-count v b cs) (add-zero (covered b))
