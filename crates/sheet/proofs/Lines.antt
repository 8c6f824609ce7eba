-- Where each byte of a printed line comes from. Assumes nothing.
use mathlib.Core.Path.{◌≡◌, refl, ◌∙◌, ap}
use mathlib.Core.Bool.{Bool, true}
use borrow.Author.Tests.{eqb-true}
use Rattle.laws.proofs.Tests.{and_left}
use mathlib.Core.List.{List, [], ◌∷◌, ◌++◌}
use Prim.Native.Nat.{ℕ, zero, suc, ◌+◌, ◌-◌, ◌<◌, ◌≤◌}
use native.Mathlib.Omega.{arith}
use lib.ListN.{length, get_or, set, length-set, length-append, get_or-append}
use native.Mathlib.Numerals.{add-one}
use lib.Seq.{get_or-append-add}
use Rattle.std.proofs.Common.{Result, Ok, Err}
use Rattle.refusals.specs.declared.Refusal.{Refusal}
use Rattle.sheet.specs.Column.{newline, column}
use Rattle.sheet.specs.Line.{context_of, fifth, printed_line, laid, is_line, printed}

fifth-length : (answer : Result ℕ Refusal) → length (fifth answer) ≡ 6
unfolding column
fifth-length (Ok n) = refl
fifth-length (Err n) = refl

-- the byte at i of a list that follows n others
past : (xs ys : List ℕ) (n i : ℕ) → length xs ≡ n → n ≤ i → get_or (xs ++ ys) i 0 ≡ get_or ys (i - n) 0
past xs ys n i long h =
    let place : i ≡ length xs + (i - n) = omega arith in
    ap (λ (k : ℕ). get_or (xs ++ ys) k 0) place ∙ get_or-append-add xs ys (i - n) 0

module _ (text : List ℕ) (long : length text ≡ 24) where
  pub from-line : (i : ℕ) → i < 24 → get_or (printed_line true text) i 0 ≡ get_or text i 0
  from-line i h = get_or-append text _ 0 i (rw long h)

  pub from-fifth : (i : ℕ) → 24 ≤ i → i < 30 → get_or (printed_line true text) i 0 ≡ get_or (fifth (context_of text)) (i - 24) 0
  from-fifth i low high =
      past text _ 24 i long low
      ∙ get_or-append (fifth (context_of text)) _ 0 (i - 24) (rw (fifth-length (context_of text)) (omega arith))

  pub from_end : (i : ℕ) → i ≡ 30 → get_or (printed_line true text) i 0 ≡ newline
  from_end i e =
      let last : i - 24 - 6 ≡ 0 = omega arith in
      past text _ 24 i long (omega arith)
      ∙ past (fifth (context_of text)) _ 6 (i - 24) (fifth-length (context_of text)) (omega arith)
      ∙ ap (λ (k : ℕ). get_or (newline ∷ []) k 0) last

laid-length : (bytes : List ℕ) (from n : ℕ) (out : List ℕ) → length (laid bytes from n out) ≡ length out
unfolding laid
laid-length bytes from zero out = refl
laid-length bytes from (suc n) out = simp length-set (laid-length bytes from n out)

pub line-long : (text : List ℕ) → is_line text ≡ true → length text ≡ 24
unfolding is_line
line-long text e = eqb-true _ _ (and_left _ _ (and_left _ _ (and_left _ _ (and_left _ _ e))))

pub columns-long : (text : List ℕ) → length text ≡ 24 → length (printed_line true text) ≡ 31
columns-long text long = simp (length-append, long, fifth-length (context_of text))

pub printed-as : (text : List ℕ) (b : Bool) → is_line text ≡ b → printed text ≡ printed_line b text
unfolding printed
printed-as text b e = rw e

-- what was laid is as long as what it was laid over
pub kept : (bytes : List ℕ) (from n : ℕ) (before : List ℕ) {after : List ℕ} → after ≡ laid bytes from n before → length after ≡ length before
kept bytes from n before e = ap length e ∙ laid-length bytes from n before

pub laid_none : (bytes : List ℕ) (from : ℕ) (out : List ℕ) → out ≡ laid bytes from 0 out
unfolding laid
laid_none bytes from out = refl

pub laid_more : (bytes : List ℕ) (from n : ℕ) (out now-out : List ℕ) (b : ℕ) → now-out ≡ laid bytes from n out → b ≡ get_or bytes n 0 → set now-out (from + n) b ≡ laid bytes from (n + 1) out
unfolding laid
laid_more bytes from n out now-out b e g = rw (add-one, e, g)
