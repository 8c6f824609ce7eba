-- Six bytes stored one by one. Assumes nothing.
use mathlib.Core.Path.{◌≡◌, refl, sym, ap, ◌∙◌}
use mathlib.Core.Logic.{◌⊎◌, inl, inr}
use mathlib.Core.List.{List}
use Prim.Native.Nat.{ℕ, ◌+◌, ◌≤◌, ◌<◌}
use native.Mathlib.Omega.{arith}
use native.Mathlib.Nat.{eq-or-lt_of_le}
use lib.ListN.{length, get_or, set, length-set}
use lib.Seq.{get_or-set_same, get_or-set_other}
use Rattle.beam.specs.Held.{Stored}

-- n of them
pub record StoredTo (n at : ℕ) (six before after : List ℕ) : Type 0 where
  pub size : length after ≡ length before
  pub stored : (j : ℕ) → j < n → get_or after (at + j) 0 ≡ get_or six j 0
  pub behind : (j : ℕ) → at + 6 ≤ j → get_or after j 0 ≡ get_or before j 0

pub stored-none : (at : ℕ) (six before : List ℕ) → StoredTo 0 at six before before
stored-none at six before = record { size = refl; stored = λ j h. absurd (omega arith); behind = λ j h. refl }

pub stored_more : {n at : ℕ} {six before after : List ℕ} → n < 6 → at + 6 ≤ length before → StoredTo n at six before after → StoredTo (n + 1) at six before (set after (at + n) (get_or six n 0))
stored_more {n} {at} {six} {before} {after} h room s =
    record {
      size = length-set after (at + n) (get_or six n 0) ∙ s.size;
      stored = λ j k. go j (eq-or-lt_of_le (before-next j k));
      behind = λ j k. get_or-set_other after (at + n) j (get_or six n 0) 0 (λ e. omega arith) ∙ s.behind j k;
    }
  where
    before-next : (j : ℕ) → j < n + 1 → j ≤ n
    before-next j k = omega arith

    go : (j : ℕ) → (j ≡ n) ⊎ (j < n) → get_or (set after (at + n) (get_or six n 0)) (at + j) 0 ≡ get_or six j 0
    go j (inl e) =
        ap (λ (k : ℕ). get_or (set after (at + n) (get_or six n 0)) (at + k) 0) e
        ∙ get_or-set_same after (at + n) (get_or six n 0) 0 (omega (arith, s.size))
        ∙ ap (λ (k : ℕ). get_or six k 0) (sym e)
    go j (inr l) = get_or-set_other after (at + n) (at + j) (get_or six n 0) 0 (λ e. omega arith) ∙ s.stored j l

pub stored-all : {n at : ℕ} {six before after : List ℕ} → 6 ≤ n → StoredTo n at six before after → Stored at six before after
stored-all h s = record { size = s.size; stored = λ j k. s.stored j (omega arith); behind = s.behind }
