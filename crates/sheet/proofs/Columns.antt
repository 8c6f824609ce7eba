-- Laws of columns. Assumes nothing.
use mathlib.Core.Path.{◌≡◌, refl}
use mathlib.Core.Bool.{Bool, true, false, and-false}
use mathlib.Core.List.{List}
use Prim.Native.Nat.{ℕ, zero, suc, ◌+◌, ◌-◌, ◌<◌}
use native.Mathlib.Nat.{add-zero, add-suc}
use native.Mathlib.Omega.{arith}
use borrow.Author.Tests.{eq-eqb, ne_eqb}
use lib.Dec.{ltb, ltb→lt}
use lib.ListN.{get_or}
use Rattle.laws.proofs.Table.{at}
use Rattle.sheet.specs.Column.{places, agrees, column_char, column}

some : ℕ → ℕ → Bool
some i x = ltb 0 x

pub place-some : (i : ℕ) → i < 6 → 0 < get_or places i 0
unfolding some places
place-some i h = ltb→lt _ _ (at some places tt i h)

module _ (text : List ℕ) (from n : ℕ) where
  pub agrees-none : agrees text from n 0 ≡ true
  unfolding agrees
  agrees-none = refl

  pub agrees-more : (k : ℕ) → agrees text from n k ≡ true → get_or text (from + k) 0 ≡ column_char n k → agrees text from n (suc k) ≡ true
  unfolding agrees
  agrees-more k before here = rw (before, eq-eqb _ _ here)

  stays : (d k : ℕ) → agrees text from n k ≡ false → agrees text from n (k + d) ≡ false
  unfolding agrees
  stays zero k e = rw add-zero e
  stays (suc d) k e = rw (add-suc, stays d k e)

  differs-here : (k : ℕ) → (get_or text (from + k) 0 ≡ column_char n k → ⊥) → agrees text from n (suc k) ≡ false
  unfolding agrees
  differs-here k other = rw (ne_eqb _ _ other, and-false)

  -- one character that differs settles it
  pub differs : (m k : ℕ) → k < m → (get_or text (from + k) 0 ≡ column_char n k → ⊥) → agrees text from n m ≡ false
  differs m k h other =
      let same : m ≡ suc k + (m - suc k) = omega arith in
      rw same (stays (m - suc k) (suc k) (differs-here k other))

pub column-at : (number i : ℕ) → i < 6 → get_or (column number) i 0 ≡ column_char number i
unfolding column
column-at number zero h = refl
column-at number (suc zero) h = refl
column-at number (suc (suc zero)) h = refl
column-at number (suc (suc (suc zero))) h = refl
column-at number (suc (suc (suc (suc zero)))) h = refl
column-at number (suc (suc (suc (suc (suc zero))))) h = refl
column-at number (suc (suc (suc (suc (suc (suc i)))))) h = absurd (omega arith)
