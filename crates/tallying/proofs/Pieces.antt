-- Tokens that are tested piece by piece. Assumes nothing.
use mathlib.Core.Path.{◌≡◌, refl, sym, ap, ◌∙◌}
use mathlib.Core.Bool.{Bool, ◌&&◌}
use Prim.Native.Nat.{ℕ, ◌+◌, ◌-◌, ◌<◌, ◌≤◌}
use native.Mathlib.Omega.{arith}
use borrow.Author.Tests.{eq-eqb}
use lib.ListN.{length}
use Rattle.std.specs.List.{between}
use Rattle.std.proofs.lemmas.List.Edits.{length-between, get_or-between}
use Rattle.prices.specs.Checks.{each}
use Rattle.prices.proofs.Each.{each_same, each-run}
use Rattle.tallying.specs.Uses.{Tokens, tokens_of}
use Rattle.tallying.specs.Tally.{many, are_tokens}
use Rattle.tallying.proofs.Checks.{is_token}

module _ (t : Tokens) (same : length t.values ≡ many t) where
  -- the tokens from s to e
  abbrev pub piece : ℕ → ℕ → Tokens
  piece s e = tokens_of (between s e t.contexts) (between s e t.values)

  piece-passes : (s e : ℕ) → s ≤ e → e ≤ many t → are_tokens (piece s e) ≡ each (e - s) (λ i. is_token t (s + i))
  unfolding are_tokens
  piece-passes s e h k =
      let m : many (piece s e) ≡ e - s = length-between t.contexts s e k in
      let l : length (between s e t.values) ≡ e - s = length-between t.values s e (omega (arith, k, same)) in
      let below : (i : ℕ) → i < e - s → s + i < e = λ i j. omega (arith, j) in
      rw (eq-eqb (length (between s e t.values)) (many (piece s e)) (l ∙ sym m), m)
      (each_same (is_token (piece s e)) (λ i. is_token t (s + i)) (e - s)
      (λ i j. rw (get_or-between t.contexts s e i 0 (below i j), get_or-between t.values s e i 0 (below i j)) refl))

  pub with-piece : (s e : ℕ) → s ≤ e → e ≤ many t → each e (is_token t) ≡ (each s (is_token t) && are_tokens (piece s e))
  with-piece s e h k =
      let all : e ≡ s + (e - s) = omega (arith, h) in
      ap (λ (n : ℕ). each n (is_token t)) all ∙ each-run (is_token t) s (e - s) ∙ ap (λ (b : Bool). each s (is_token t) && b) (sym (piece-passes s e h k))
