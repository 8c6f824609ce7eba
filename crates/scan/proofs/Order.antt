-- Numbers added up through a permutation are added up in order. Assumes nothing.
use mathlib.Core.Path.{◌≡◌, refl, sym, ◌∙◌}
use mathlib.Core.List.{List}
use Prim.Native.Nat.{ℕ, zero, suc, ◌+◌, ◌*◌, ◌≤◌, ◌<◌}
use native.Mathlib.Nat.{not-suc-le-zero, zero-mul, one-mul, suc-mul, lt_irrefl, le_refl}
use native.Mathlib.Numerals.{add-one}
use native.Mathlib.Omega.{arith}
use lib.Dec.{lit≤}
use lib.ListN.{length, get_or, take}
use lib.Seq.{take-length}
use Rattle.scan.specs.Scan.{count_of, sum_to, Perm}
use Rattle.scan.proofs.Counts.{count-empty, count-next-here, count-next-other, total-full, few_ones, either}

pub sum-none : (f : ℕ → ℕ) → sum_to f 0 ≡ 0
unfolding sum_to
sum-none f = refl

pub sum_more : (f : ℕ → ℕ) (n : ℕ) → sum_to f (n + 1) ≡ sum_to f n + f n
unfolding sum_to
sum_more f n = rw add-one

pub sum_same : (f g : ℕ → ℕ) (n : ℕ) → ((i : ℕ) → i < n → f i ≡ g i) → sum_to f n ≡ sum_to g n
unfolding sum_to
sum_same f g zero same = refl
sum_same f g (suc n) same = rw (sum_same f g n (λ i h. same i (omega arith)), same n (omega arith))

sum-zero : (n : ℕ) → sum_to (λ _. 0) n ≡ 0
unfolding sum_to
sum-zero zero = refl
sum-zero (suc n) = rw (sum-zero n)

-- one term grows by v
sum-grown : (f g : ℕ → ℕ) (x v n : ℕ) → x < n → g x ≡ f x + v → ((i : ℕ) → i < n → (i ≡ x → ⊥) → g i ≡ f i) → sum_to g n ≡ sum_to f n + v
unfolding sum_to
sum-grown f g x v zero h e others = absurd (not-suc-le-zero h)
sum-grown f g x v (suc n) h e others =
    either x n
    (λ p. omega (arith, sum_same g f n (λ i l. others i (omega arith) (λ q. omega arith)), rw p at e))
    (λ d. omega (arith, sum-grown f g x v n (omega arith) e (λ i l. others i (omega arith)), others n (omega arith) (λ q. d (sym q))))

count-fresh : (i k : ℕ) (s : List ℕ) → k ≤ length s → ((j : ℕ) → j < k → get_or s j 0 ≡ i → ⊥) → count_of i (take k s) ≡ 0
count-fresh i zero s h new = count-empty i
count-fresh i (suc k) s h new =
    count-next-other i k s h (new k (omega arith)) ∙ count-fresh i k s (omega arith) (λ j l. new j (omega arith))

module _ {s : List ℕ} {n : ℕ} (scanned : Perm s n) where
  -- what was met of each number so far, times its term
  counted : (f : ℕ → ℕ) (k : ℕ) → k ≤ n → sum_to (λ j. f (get_or s j 0)) k ≡ sum_to (λ i. count_of i (take k s) * f i) n
  unfolding sum_to
  counted f zero h = sym (sum_same _ (λ _. 0) n (λ i l. rw (count-empty i, zero-mul)) ∙ sum-zero n)
  counted f (suc k) h =
      let size = scanned.size in
      let here : k < length s = omega arith in
      rw (counted f k (omega arith))
      (sym (sum-grown (λ i. count_of i (take k s) * f i) (λ i. count_of i (take (suc k) s) * f i) (get_or s k 0) (f (get_or s k 0)) n (scanned.bound k h)
      (rw (count-next-here (get_or s k 0) k s here refl, suc-mul))
      (λ i l d. rw (count-next-other i k s here (λ e. d (sym e))))))

  count_most : (i k : ℕ) → k ≤ n → count_of i (take k s) ≤ 1
  count_most i zero h = rw (count-empty i) (lit≤ tt)
  count_most i (suc k) h =
      let size = scanned.size in
      let here : k < length s = omega arith in
      either (get_or s k 0) i
      (λ e. let none = count-fresh i k s (omega arith) (λ j l f. lt_irrefl k (omega (arith, scanned.distinct j k (omega arith) h (f ∙ sym e)))) in
      omega (arith, count-next-here i k s here e))
      (λ d. rw (count-next-other i k s here d) (count_most i k (omega arith)))

  whole : take n s ≡ s
  whole = rw (← scanned.size) (take-length s)

  once-each : (i : ℕ) → i < n → count_of i s ≡ 1
  once-each =
      few_ones n s (λ i h. rw whole at (count_most i n (le_refl n)))
      (total-full n s (rw scanned.size scanned.bound) ∙ scanned.size)

  pub sum_through : (f : ℕ → ℕ) → sum_to (λ k. f (get_or s k 0)) n ≡ sum_to f n
  sum_through f = counted f n (le_refl n) ∙ sum_same _ f n (λ i h. rw (whole, once-each i h, one-mul))
