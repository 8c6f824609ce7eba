-- What an accepted call says, and how many tokens there are. Assumes nothing.
use Prim.Native.Nat.{ℕ, suc, ◌+◌, ◌*◌, ◌≤◌}
use mathlib.Core.Path.{◌≡◌, refl, sym, ◌∙◌}
use mathlib.Core.Bool.{Bool, true, false, cond, ◌&&◌}
use mathlib.Core.List.{List, [], ◌∷◌, map}
use native.Mathlib.Omega.{arith}
use borrow.Author.Tests.{eqb-true, eq-eqb, leb-true, le-leb}
use native.Mathlib.Nat.{le_trans}
use Rattle.laws.proofs.Tests.{and_left, and_right}
use lib.Dec.{eqb, leb}
use lib.IntN.{ℤ}
use lib.ListN.{length, take, length-map}
use lib.Seq.{take_at}
use Rattle.block.specs.declared.Shape.{Shape}
use Rattle.laws.proofs.Refused.{passes-first}
use Rattle.laws.specs.Refusals.{first_refused}
use Rattle.least_cost.specs.Position.{nz}
use Rattle.packing.specs.Signed.{pack_signed}
use Rattle.block_tokens.specs.Reply.{Tokens, Refused}
use Rattle.block_tokens.specs.Tokens.{Token, covered_by, level_context, prev_by, nonzeros_of, level_tokens, block_tokens, coded_levels}
use Rattle.block_tokens.specs.Code.{Code}
use Rattle.block_tokens.specs.Writing.{over, Outputs, written, all_within, all_coded, room_for, write_checks, WriteResult, wrote, write_result}
use Rattle.block_tokens.specs.Outcome.{Given, lent_checks, lent_refusal, ReadResult, read_as}
use Rattle.block_tokens.proofs.Through.{from-length}

-- ---- how many tokens there are

level-tokens-most : (h : Shape) (k prev : ℕ) (qs : List ℤ) → length (level_tokens h k prev qs) ≤ length qs
unfolding level_tokens
level-tokens-most h k prev [] = omega arith
level-tokens-most h k prev (q ∷ qs) = go (eqb (nonzeros_of (q ∷ qs)) 0) (level-tokens-most h (suc k) (nz q) qs)
  where
    go : (b : Bool) → length (level_tokens h (suc k) (nz q) qs) ≤ length qs
        → length (cond b [] (record { context = level_context h (nonzeros_of (q ∷ qs)) k prev; value = pack_signed q } ∷ level_tokens h (suc k) (nz q) qs)) ≤ suc (length qs)
    go true r = omega arith
    go false r = omega arith

-- at most 63c + 1
pub tokens-most : (h : Shape) (qs : List ℤ) → length qs ≡ 63 * covered_by h → length (block_tokens h qs) ≤ 63 * covered_by h + 1
unfolding block_tokens
tokens-most h qs long = omega (arith, level-tokens-most h (covered_by h) (prev_by h (nonzeros_of qs)) qs)

pub coded-length : (h : Shape) (scan : List ℕ) (levels : List ℤ) → length (coded_levels h scan levels) ≡ 63 * covered_by h
unfolding coded_levels
coded-length h scan levels = from-length scan levels (covered_by h) (63 * covered_by h)

-- where four lengths have room for n numbers they have it for fewer
pub fewer : (m n a b c d : ℕ) → m ≤ n → leb n a && leb n b && leb n c && leb n d ≡ true → leb m a && leb m b && leb m c && leb m d ≡ true
fewer m n a b c d less e =
    let abc = and_left (leb n a && leb n b && leb n c) (leb n d) e in
    let ab = and_left (leb n a && leb n b) (leb n c) abc in
    simp (
      le-leb m a (le_trans less (leb-true n a (and_left (leb n a) (leb n b) ab))),
      le-leb m b (le_trans less (leb-true n b (and_right (leb n a) (leb n b) ab))),
      le-leb m c (le_trans less (leb-true n c (and_right (leb n a && leb n b) (leb n c) abc))),
      le-leb m d (le_trans less (leb-true n d (and_right (leb n a && leb n b && leb n c) (leb n d) e))),
    )

-- ---- an outcome, taken apart

-- no call that answers tokens was refused
pub write-not-refused : (r : ℕ) (w : WriteResult) (o : Outputs) (n : ℕ) → (cond (eqb r 0) w (wrote (Refused r) o)).reply ≡ Tokens n → r ≡ 0
write-not-refused r w o n e = go (eqb r 0) refl e
  where
    go : (b : Bool) → eqb r 0 ≡ b → (cond b w (wrote (Refused r) o)).reply ≡ Tokens n → r ≡ 0
    go true d f = eqb-true _ _ d
    go false d f = let z : ◌≡◌ {A = ℕ} 0 1 = cc in absurd (omega arith)

pub read-not-refused : (r : ℕ) (w : ReadResult) (levels : List ℤ) (n : ℕ) → (cond (eqb r 0) w (read_as (Refused r) levels)).reply ≡ Tokens n → r ≡ 0
read-not-refused r w levels n e = go (eqb r 0) refl e
  where
    go : (b : Bool) → eqb r 0 ≡ b → (cond b w (read_as (Refused r) levels)).reply ≡ Tokens n → r ≡ 0
    go true d f = eqb-true _ _ d
    go false d f = let z : ◌≡◌ {A = ℕ} 0 1 = cc in absurd (omega arith)

-- what an accepted writing says
pub record Wrote (x : Code) (h : Shape) (qs : List ℤ) (o : Outputs) (n : ℕ) : Type 0 where
  pub small : all_within qs ≡ true
  pub few : all_coded x (block_tokens h qs) ≡ true
  pub number : n ≡ length (block_tokens h qs)
  pub same : write_result x h qs o ≡ wrote (Tokens n) (written x (block_tokens h qs) o)

pub wrote-all : (x : Code) (h : Shape) (qs : List ℤ) (o : Outputs) (n : ℕ) → (write_result x h qs o).reply ≡ Tokens n → Wrote x h qs o n
unfolding write_result write_checks
wrote-all x h qs o n e =
    let ts = block_tokens h qs in
    let none = write-not-refused (first_refused (write_checks x h qs o) 0) (wrote (Tokens (length ts)) (written x ts o)) o n e in
    let t24 = passes-first (all_within qs) 24 ((all_coded x ts, 20) ∷ (room_for (length ts) o, 23) ∷ []) 0 refl none in
    let t20 = passes-first (all_coded x ts) 20 ((room_for (length ts) o, 23) ∷ []) 0 refl t24.1 in
    let count : n ≡ length ts = let f = rw (eq-eqb _ 0 none) at e in cc in
    record { small = t24.0; few = t20.0; number = count; same = rw (eq-eqb _ 0 none, count) }

-- only the number of levels matters to the checks of what is lent
pub lent_same : (g : Given) (xs ys : List ℤ) → length xs ≡ length ys → lent_refusal g xs ≡ lent_refusal g ys
unfolding lent_refusal lent_checks
lent_same g xs ys e = rw e

pub front : (f : Token → ℕ) (ts : List Token) (old : List ℕ) (n : ℕ) → n ≡ length ts → take n (over (map f ts) old) ≡ map f ts
unfolding over
front f ts old n e = take_at (map f ts) _ n (length-map ts f ∙ sym e)
