-- The candidates as the code makes them, level by level. Assumes nothing.
use mathlib.Core.Path.{◌≡◌, refl, sym, ap, ◌∙◌}
use mathlib.Core.Bool.{Bool, true, false, cond, ◌||◌, true≢false}
use mathlib.Core.List.{List, [], ◌∷◌}
use Prim.Native.Nat.{ℕ, zero, suc, ◌+◌, ◌≤◌}
use native.Mathlib.Omega.{arith}
use borrow.Author.Tests.{ne_eqb, lt-ltb}
use lib.Dec.{ltb}
use lib.ListN.{set, length}
use lib.IntN.{ℤ, pos, negsuc, suc_ℤ, pred_ℤ, suc-pred}
use lib.Signed.{lt_z}
use Rattle.candidates.specs.Candidates.{eq_z, without, drop_repeats, kept_of, filled}
use Rattle.candidates.specs.Steps.{with_zero, offer}
use Rattle.candidates.specs.declared.Candidates.{Candidates}
use Rattle.candidates.proofs.Levels.{ne-eq_z, not-suc, not-suc2}

-- ---- without restoring

no-suc : (n : ℕ) → suc n ≡ n → ⊥
no-suc n e = omega arith

no_zero : (n : ℕ) → suc n ≡ 0 → ⊥
no_zero n e = omega arith

pub kept_above : (q : ℤ) → lt_z (pos 1) q ≡ true → kept_of q ≡ q ∷ pred_ℤ q ∷ pos 0 ∷ []
unfolding kept_of
kept_above (pos zero) t = absurd (true≢false (sym t))
kept_above (pos (suc zero)) t = absurd (true≢false (sym t))
kept_above (pos (suc (suc n))) t = rw (ne_eqb (suc n) 0 (no_zero n), ne_eqb (suc (suc n)) (suc n) (no-suc (suc n)), ne_eqb (suc (suc n)) 0 (no_zero (suc n)))
kept_above (negsuc n) t = absurd (true≢false (sym t))

pub kept-below : (q : ℤ) → lt_z q (negsuc 0) ≡ true → kept_of q ≡ q ∷ suc_ℤ q ∷ pos 0 ∷ []
unfolding kept_of
kept-below (pos n) t = absurd (true≢false (sym t))
kept-below (negsuc zero) t = absurd (true≢false (sym t))
kept-below (negsuc (suc n)) t = rw (ne_eqb (suc n) n (no-suc n))

pub kept-one : (q : ℤ) → lt_z (pos 1) q ≡ false → lt_z q (negsuc 0) ≡ false → (q ≡ pos 0 → ⊥) → kept_of q ≡ q ∷ pos 0 ∷ []
unfolding kept_of
kept-one (pos zero) a b z = absurd (z refl)
kept-one (pos (suc zero)) a b z = refl
kept-one (pos (suc (suc n))) a b z = absurd (true≢false (sym (above n) ∙ a))
  where
    above : (n : ℕ) → ltb 1 (suc (suc n)) ≡ true
    above n = lt-ltb 1 (suc (suc n)) (omega arith)
kept-one (negsuc zero) a b z = refl
kept-one (negsuc (suc n)) a b z = absurd (true≢false (sym (above n) ∙ b))
  where
    above : (n : ℕ) → ltb 0 (suc n) ≡ true
    above n = lt-ltb 0 (suc n) (omega arith)

-- ---- restoring

-- the rounding and its neighbours are three levels
three : (r : ℤ) → drop_repeats (r ∷ pred_ℤ r ∷ suc_ℤ r ∷ []) ≡ r ∷ pred_ℤ r ∷ suc_ℤ r ∷ []
unfolding drop_repeats
three r =
    let a : eq_z r (pred_ℤ r) ≡ false = ne-eq_z r (pred_ℤ r) (λ (e : r ≡ pred_ℤ r). not-suc (pred_ℤ r) (suc-pred r ∙ e)) in
    let b : eq_z r (suc_ℤ r) ≡ false = ne-eq_z r (suc_ℤ r) (λ (e : r ≡ suc_ℤ r). not-suc r (sym e)) in
    let d : eq_z (pred_ℤ r) (suc_ℤ r) ≡ false = ne-eq_z (pred_ℤ r) (suc_ℤ r) (λ (e : pred_ℤ r ≡ suc_ℤ r). not-suc2 (pred_ℤ r) (ap suc_ℤ (suc-pred r) ∙ sym e)) in
    rw (d, a, b)

-- less 0 and c: each level stays or goes by one test
abbrev unless_b : Bool → ℤ → List ℤ → List ℤ
unless_b b q xs = cond b xs (q ∷ xs)

less_two : (c q : ℤ) (xs : List ℤ) → without c (without (pos 0) (q ∷ xs)) ≡ unless_b (eq_z (pos 0) q || eq_z c q) q (without c (without (pos 0) xs))
unfolding without
less_two c q xs = go (eq_z (pos 0) q)
  where
    go : (b : Bool) → without c (cond b (without (pos 0) xs) (q ∷ without (pos 0) xs)) ≡ unless_b (b || eq_z c q) q (without c (without (pos 0) xs))
    go true = refl
    go false = refl

abbrev offer_b : Bool → Candidates → ℤ → Candidates
offer_b b to q = cond b to (record { levels = set to.levels to.count q; count = to.count + 1 })

-- by the four tests
by_tests : (c r s t : ℤ) (z i j k : Bool)
    → offer_b k (offer_b j (offer_b i (filled c (cond z (c ∷ []) (c ∷ pos 0 ∷ []))) r) s) t
    ≡ filled c (c ∷ cond z (unless_b i r (unless_b j s (unless_b k t []))) (pos 0 ∷ unless_b i r (unless_b j s (unless_b k t []))))
unfolding filled
by_tests c r s t true true true true = refl
by_tests c r s t true true true false = refl
by_tests c r s t true true false true = refl
by_tests c r s t true true false false = refl
by_tests c r s t true false true true = refl
by_tests c r s t true false true false = refl
by_tests c r s t true false false true = refl
by_tests c r s t true false false false = refl
by_tests c r s t false true true true = refl
by_tests c r s t false true true false = refl
by_tests c r s t false true false true = refl
by_tests c r s t false true false false = refl
by_tests c r s t false false true true = refl
by_tests c r s t false false true false = refl
by_tests c r s t false false false true = refl
by_tests c r s t false false false false = refl

pub chain : (c r : ℤ) → offer (offer (offer (with_zero c) c r) c (pred_ℤ r)) c (suc_ℤ r) ≡ filled c (drop_repeats (c ∷ pos 0 ∷ r ∷ pred_ℤ r ∷ suc_ℤ r ∷ []))
unfolding offer with_zero drop_repeats
chain c r =
    let test : ℤ → Bool = λ q. eq_z (pos 0) q || eq_z c q in
    by_tests c r (pred_ℤ r) (suc_ℤ r) (eq_z c (pos 0)) (test r) (test (pred_ℤ r)) (test (suc_ℤ r))
    ∙ ap (λ (xs : List ℤ). filled c (c ∷ cond (eq_z c (pos 0)) xs (pos 0 ∷ xs)))
    (sym
    (ap (λ (xs : List ℤ). without c (without (pos 0) xs)) (three r)
    ∙ less_two c r (pred_ℤ r ∷ suc_ℤ r ∷ [])
    ∙ ap (unless_b (test r) r) (less_two c (pred_ℤ r) (suc_ℤ r ∷ []) ∙ ap (unless_b (test (pred_ℤ r)) (pred_ℤ r)) (less_two c (suc_ℤ r) []))))

-- ---- room for one more

pub with-zero-room : (c : ℤ) → (with_zero c).count ≤ 2
unfolding with_zero filled
with-zero-room c = go (eq_z c (pos 0))
  where
    go : (z : Bool) → length (cond z (c ∷ []) (c ∷ pos 0 ∷ [])) ≤ 2
    go true = omega arith
    go false = omega arith

pub offer-room : (to : Candidates) (c q : ℤ) → (offer to c q).count ≤ to.count + 1
unfolding offer
offer-room to c q = go (eq_z (pos 0) q || eq_z c q)
  where
    go : (b : Bool) → (offer_b b to q).count ≤ to.count + 1
    go true = omega arith
    go false = omega arith
