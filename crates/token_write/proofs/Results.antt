-- What the writer answers, test by test. Assumes nothing.
use Prim.Native.Nat.{ℕ, min}
use native.Mathlib.Omega.{arith}
use mathlib.Core.Path.{◌≡◌, refl, ap}
use mathlib.Core.Bool.{Bool, true, false, cond, ◌&&◌}
use mathlib.Core.List.{List, [], ◌∷◌}
use borrow.Author.Tests.{leb-true, leb-false, le-leb, lt-leb}
use lib.Dec.{eqb, leb}
use lib.IntN.{ℤ}
use lib.ListN.{length}
use Rattle.block.specs.declared.Shape.{Shape}
use Rattle.laws.proofs.Refused.{passes-first}
use Rattle.laws.proofs.Tests.{and_left, and_right}
use Rattle.laws.specs.Refusals.{first_refused}
use Rattle.block_tokens.specs.Reply.{Tokens, Refused}
use Rattle.block_tokens.specs.Tokens.{Token, block_tokens}
use Rattle.block_tokens.specs.Code.{Code}
use Rattle.block_tokens.specs.Writing.{Outputs, outputs, written, all_within, all_coded, room_for, write_checks, wrote, write_result}
use Rattle.token_write.proofs.Filled.{RoomFor}
use Rattle.token_bounds.specs.Bounds.{levels_refusal}

module _ (x : Code) (h : Shape) (qs : List ℤ) (o : Outputs) where
  abbrev ts : List Token
  ts = block_tokens h qs

  pub refused : {n : ℕ} → n ≡ levels_refusal x h qs → (n ≡ 0 → ⊥) → wrote (Refused n) o ≡ write_result x h qs o
  unfolding levels_refusal write_result write_checks first_refused
  refused {n} e some = go (all_within qs) (all_coded x ts) e
    where
      go : (a b : Bool) → n ≡ cond a (cond b 0 20) 24
          → wrote (Refused n) o ≡ (let r = cond a (cond b (cond (room_for (length ts) o) 0 23) 20) 24 in cond (eqb r 0) (wrote (Tokens (length ts)) (written x ts o)) (wrote (Refused r) o))
      go true true d = absurd (some d)
      go true false d = ap (λ (m : ℕ). wrote (Refused m) o) d
      go false b d = ap (λ (m : ℕ). wrote (Refused m) o) d

  pub record Passing : Type 0 where
    pub small : all_within qs ≡ true
    pub coded : all_coded x ts ≡ true

  pub passing : levels_refusal x h qs ≡ 0 → Passing
  unfolding levels_refusal
  passing e =
      let t24 = passes-first (all_within qs) 24 ((all_coded x ts, 20) ∷ []) 0 refl e in
      let t20 = passes-first (all_coded x ts) 20 [] 0 refl t24.1 in
      record { small = t24.0; coded = t20.0 }

  module _ (p : Passing) (n : ℕ) (number : n ≡ length ts) where
    pub too_short : room_for n o ≡ false → wrote (Refused 23) o ≡ write_result x h qs o
    unfolding write_result write_checks first_refused
    too_short r = rw (p.small, p.coded, ← number, r)

    pub done : room_for n o ≡ true → (r : Outputs) → r ≡ written x ts o → wrote (Tokens n) r ≡ write_result x h qs o
    unfolding write_result write_checks first_refused
    done room r e = rw (p.small, p.coded, ← number, room, e)

-- ---- room

pub room_of : (n : ℕ) (contexts symbols extra bits : List ℕ) → room_for n (outputs contexts symbols extra bits) ≡ true → RoomFor n contexts symbols extra bits
unfolding room_for
room_of n contexts symbols extra bits e =
    let a = leb n (length contexts) in
    let b = leb n (length symbols) in
    let c = leb n (length extra) in
    let abc = and_left (a && b && c) (leb n (length bits)) e in
    let ab = and_left (a && b) c abc in
    record {
      contexts_long = leb-true _ _ (and_left a b ab);
      symbols_long = leb-true _ _ (and_right a b ab);
      extra_long = leb-true _ _ (and_right (a && b) c abc);
      bits_long = leb-true _ _ (and_right (a && b && c) (leb n (length bits)) e);
    }

leb-min : (n a b : ℕ) → leb n (min a b) ≡ (leb n a && leb n b)
leb-min n a b = go (leb n a) (leb n b) refl refl
  where
    go : (p q : Bool) → leb n a ≡ p → leb n b ≡ q → leb n (min a b) ≡ (leb n a && leb n b)
    go true true d e = rw (d, e) (le-leb n (min a b) (omega (arith, leb-true n a d, leb-true n b e)))
    go true false d e = rw (d, e) (lt-leb n (min a b) (omega (arith, leb-true n a d, leb-false n b e)))
    go false q d e = rw d (lt-leb n (min a b) (omega (arith, leb-false n a d)))

-- the smallest output decides
pub smallest : (n : ℕ) (contexts symbols extra bits : List ℕ)
    → leb n (min (min (min (length contexts) (length symbols)) (length extra)) (length bits)) ≡ room_for n (outputs contexts symbols extra bits)
unfolding room_for
smallest n contexts symbols extra bits =
    let a = length contexts in
    let b = length symbols in
    let c = length extra in
    rw (leb-min n (min (min a b) c) (length bits), leb-min n (min a b) c, leb-min n a b)
