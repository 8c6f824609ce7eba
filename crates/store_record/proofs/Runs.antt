-- The runs of a record, one by one. Assumes nothing.
use Prim.Native.Nat.{ℕ, zero, suc, ◌+◌, ◌-◌, ◌*◌, ◌<◌, ◌≤◌}
use mathlib.Core.Path.{◌≡◌, refl, ap, ap₂, ◌∙◌}
use mathlib.Core.List.{List, [], ◌∷◌, ◌++◌}
use native.Mathlib.Omega.{arith}
use native.Mathlib.Nat.{not-suc-le-zero}
use native.Mathlib.Numerals.{add-one}
use lib.ListN.{length, get_or}
use Rattle.store_record.specs.Runs.{run, run_at, runs_from, flat}
use Rattle.store_record.specs.declared.Run.{Run}

pub runs_none : (r : List ℕ) (i n : ℕ) → n ≤ i → runs_from r i (n - i) ≡ []
unfolding runs_from
runs_none r i n h =
    let e : n - i ≡ 0 = omega arith in
    rw e

-- the next of the runs that are left
pub runs-next : (r : List ℕ) (i n : ℕ) → i < n → runs_from r i (n - i) ≡ run_at r i ∷ runs_from r (i + 1) (n - (i + 1))
unfolding runs_from
runs-next r i n h =
    let e : n - i ≡ suc (n - (i + 1)) = omega arith in
    rw (e, add-one i)

-- one run more
pub runs-suc : (r : List ℕ) (i n : ℕ) → runs_from r i (suc n) ≡ runs_from r i n ++ (run_at r (i + n) ∷ [])
unfolding runs_from
runs-suc r i zero =
    let e : i ≡ i + 0 = omega arith in
    ap (λ (k : ℕ). run_at r k ∷ []) e
runs-suc r i (suc n) =
    let e : suc i + n ≡ i + suc n = omega arith in
    ap (λ (xs : List Run). run_at r i ∷ xs) (runs-suc r (suc i) n ∙ ap (λ (k : ℕ). runs_from r (suc i) n ++ (run_at r k ∷ [])) e)

pub runs-more : (r : List ℕ) (n : ℕ) → runs_from r 0 (n + 1) ≡ runs_from r 0 n ++ (run_at r n ∷ [])
runs-more r n =
    let e : 0 + n ≡ n = omega arith in
    rw (add-one n) (runs-suc r 0 n ∙ ap (λ (k : ℕ). runs_from r 0 n ++ (run_at r k ∷ [])) e)

pub runs-length : (r : List ℕ) (i n : ℕ) → length (runs_from r i n) ≡ n
unfolding runs_from
runs-length r i zero = refl
runs-length r i (suc n) = ap suc (runs-length r (suc i) n)

-- ---- a record of given runs

pub flat-length : (rs : List Run) → length (flat rs) ≡ 3 * length rs
unfolding flat
flat-length [] = refl
flat-length (x ∷ rs) = let rest = flat-length rs in omega arith

pub flat_append : (xs ys : List Run) → flat (xs ++ ys) ≡ flat xs ++ flat ys
unfolding flat
flat_append [] ys = refl
flat_append (x ∷ xs) ys = ap (λ (l : List ℕ). x.number ∷ x.start ∷ x.size ∷ l) (flat_append xs ys)

pub flat-one : (x : Run) → flat (x ∷ []) ≡ x.number ∷ x.start ∷ x.size ∷ []
unfolding flat
flat-one x = refl

-- past the first run, a record reads as one that starts there
later : (h a b d : ℕ) (l : List ℕ) (i n : ℕ) → runs_from (h ∷ a ∷ b ∷ d ∷ l) (suc i) n ≡ runs_from (h ∷ l) i n
unfolding runs_from
later h a b d l i zero = refl
later h a b d l i (suc n) =
    let one : 3 * suc i + 1 ≡ suc (suc (suc (3 * i + 1))) = omega arith in
    let two : 3 * suc i + 2 ≡ suc (suc (suc (3 * i + 2))) = omega arith in
    let three : 3 * suc i + 3 ≡ suc (suc (suc (3 * i + 3))) = omega arith in
    ap₂ (λ (x : Run) (xs : List Run). x ∷ xs)
    (ap₃ (shifted (3 * i + 1) one (omega arith)) (shifted (3 * i + 2) two (omega arith)) (shifted (3 * i + 3) three (omega arith)))
    (later h a b d l (suc i) n)
  where
    ap₃ : {a b d a' b' d' : ℕ} → a ≡ a' → b ≡ b' → d ≡ d' → run a b d ≡ run a' b' d'
    ap₃ p q r = cc

    shifted : {j : ℕ} (k : ℕ) → j ≡ suc (suc (suc k)) → 1 ≤ k → get_or (h ∷ a ∷ b ∷ d ∷ l) j 0 ≡ get_or (h ∷ l) k 0
    shifted zero e o = absurd (not-suc-le-zero o)
    shifted (suc k) e o = rw e

pub read_back : (h : ℕ) (rs : List Run) (l : List ℕ) → runs_from (h ∷ (flat rs ++ l)) 0 (length rs) ≡ rs
unfolding runs_from flat
read_back h [] l = refl
read_back h (x ∷ rs) l = ap (λ (xs : List Run). x ∷ xs) (later h x.number x.start x.size (flat rs ++ l) 0 (length rs) ∙ read_back h rs l)
