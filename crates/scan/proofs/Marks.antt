-- Marks of the numbers met in a list, and what it says of the list that none is missing. Assumes nothing.
use mathlib.Core.Path.{◌≡◌, refl, sym, ◌∙◌, ap}
use mathlib.Core.Bool.{Bool, true, false, ◌&&◌, cond, true≢false}
use mathlib.Core.List.{List}
use Prim.Native.Nat.{ℕ, zero, suc, min, ◌+◌, ◌%◌, ◌≤◌, ◌<◌}
use native.Mathlib.Nat.{lt_irrefl, not-suc-le-zero, mod-eq_of_lt}
use native.Mathlib.Numerals.{add-one}
use native.Mathlib.Omega.{arith}
use borrow.Author.Count.{below_more}
use borrow.Author.Tests.{lt-ltb, le-ltb, ltb-true, ne_eqb}
use Rattle.std.proofs.lemmas.Bool.{leb-true, le-leb}
use mir.Val.{bool_byte}
use lib.Dec.{ltb, leb, eqb, lit≤}
use lib.ListN.{length, get_or, set, take, replicate, length-replicate, get_or-replicate}
use lib.Seq.{take-length, get_or-set_same, get_or-set_other}
use Rattle.laws.proofs.Tests.{and_left, and_right}
use Rattle.scan.specs.Marks.{mark_of, marked_below, byte_at, Marked, Marks}
use Rattle.scan.specs.Scan.{count_of, each_once}
use Rattle.scan.proofs.Counts.{count-next-here, count-next-other, count-empty, either, split}
use Rattle.scan.proofs.Once.{once, bound, each-once}

pub refuted : (b : Bool) → (b ≡ true → ⊥) → b ≡ false
refuted true n = absurd (n refl)
refuted false n = refl

-- the entry x at k is not below the length
pub past_end : (s : List ℕ) (k : ℕ) {x : ℕ} → k < length s → x ≡ get_or s k 0 → length s ≤ x → each_once s ≡ false
past_end s k h here g = refuted _ (λ e. lt_irrefl (length s) (omega (arith, bound s e k h)))

-- a test that is counted
pub counted : {x n : ℕ} → let out = bool_byte (leb n x) in (out ≤ 1) × ((x < n → out ≡ 0) × (n ≤ x → out ≡ 1))
counted {x} {n} = of (leb n x) refl
  where
    of : (b : Bool) → leb n x ≡ b → (bool_byte b ≤ 1) × ((x < n → bool_byte b ≡ 0) × (n ≤ x → bool_byte b ≡ 1))
    of true e = (omega arith, (λ l. absurd (lt_irrefl x (omega (arith, leb-true n x e, l))), λ g. refl))
    of false e = (omega arith, (λ l. refl, λ g. absurd (true≢false (sym (le-leb n x g) ∙ e))))

mark-none : mark_of 0 ≡ 0
unfolding mark_of
mark-none = refl

mark-some : (n : ℕ) → mark_of (suc n) ≡ 1
unfolding mark_of
mark-some n = refl

mark-met : (n : ℕ) → 0 < mark_of n → 1 ≤ n
unfolding mark_of
mark-met zero h = h
mark-met (suc n) h = omega arith

pub marks-none : (s : List ℕ) (m : ℕ → ℕ) → ((i : ℕ) → i < length s → m i ≡ 0) → Marks s 0 m 0
marks-none s m clear =
    record {
      few = lit≤ tt;
      below = λ e j h. absurd (not-suc-le-zero h);
      met = λ e i h. rw (count-empty i, mark-none) (clear i h);
      past = λ h. absurd (lt_irrefl 0 h);
    }

-- the entry x at k is marked, where it is below the length, and nothing else; `out` tells whether it is not
module _ {s : List ℕ} {m : ℕ → ℕ} {bad k x out : ℕ} (so_far : Marks s bad m k) (h : k < length s) (here : x ≡ get_or s k 0) (one : out ≤ 1) (low : x < length s → out ≡ 0) (high : length s ≤ x → out ≡ 1)
    (m' : ℕ → ℕ) (marked : x < length s → m' x ≡ 1) (others : x < length s → (i : ℕ) → i < length s → (i ≡ x → ⊥) → m' i ≡ m i) where
  inside : bad + out ≡ 0 → x < length s
  inside e = split x (length s) (λ l. l) (λ g. absurd (lt_irrefl 0 (omega (arith, high g))))

  more-met : x < length s → ((i : ℕ) → i < length s → m i ≡ mark_of (count_of i (take k s))) → (i : ℕ) → i < length s → m' i ≡ mark_of (count_of i (take (suc k) s))
  more-met l met i n =
      either i x
      (λ e. rw (e, count-next-here x k s h (sym here), mark-some) (marked l))
      (λ d. others l i n d ∙ met i n ∙ ap mark_of (sym (count-next-other i k s h (λ e. d (sym (here ∙ e))))))

  pub marks-more : Marks s (bad + out) m' (k + 1)
  marks-more =
      record {
        few = omega (arith, so_far.few);
        below = λ e. below_more _ _ (so_far.below (omega arith)) (rw here at (inside e));
        met = λ e. rw add-one (more-met (inside e) (so_far.met (omega arith)));
        past = λ p. split x (length s) (λ l. so_far.past (omega (arith, low l))) (λ g. past_end s k h here g);
      }

-- with a byte a mark
module _ {s : List ℕ} (marks : List ℕ) {bad k x out : ℕ} (room : length s ≤ length marks) (so_far : Marks s bad (byte_at marks) k) (h : k < length s) (here : x ≡ get_or s k 0) (one : out ≤ 1) (low : x < length s → out ≡ 0) (high : length s ≤ x → out ≡ 1) where
  itself : x < length s → x % length marks ≡ x
  itself l = mod-eq_of_lt (omega arith)

  pub bytes-more : Marks s (bad + out) (byte_at (set marks (x % length marks) 1)) (k + 1)
  bytes-more =
      marks-more so_far h here one low high (byte_at (set marks (x % length marks) 1))
      (λ l. rw (itself l) (get_or-set_same marks x 1 0 (omega arith)))
      (λ l i n d. rw (itself l) (get_or-set_other marks x i 1 0 d))

-- all entries are marked
pub marks-done : (s : List ℕ) (m : ℕ → ℕ) (bad : ℕ) → Marks s bad m (length s) → Marked s (eqb bad 0) m
marks-done s m zero done =
    record { below = λ _. done.below refl; met = λ _ i h. rw (take-length s) at (done.met refl i h); past = λ e. absurd (true≢false e) }
marks-done s m (suc n) done =
    let some : eqb (suc n) 0 ≡ false = ne_eqb (suc n) 0 (λ e. omega arith) in
    record { below = λ e. absurd (true≢false (sym e ∙ some)); met = λ e. absurd (true≢false (sym e ∙ some)); past = λ _. done.past (omega arith) }

pub least-none : (m : ℕ → ℕ) → ◌≡◌ {A = ℕ} 1 (cond (marked_below 0 m) 1 0)
unfolding marked_below
least-none m = refl

-- the least of 1 and the first marks: 1 where all are marked, else 0
pub least_more : (m : ℕ → ℕ) (k : ℕ) {least next : ℕ} → least ≡ cond (marked_below k m) 1 0 → next ≡ min (m k) least → next ≡ cond (marked_below (k + 1) m) 1 0
unfolding marked_below
least_more m k {least} {next} e f = rw add-one (go (marked_below k m) e)
  where
    go : (b : Bool) → least ≡ cond b 1 0 → next ≡ cond (b && ltb 0 (m k)) 1 0
    go true g = split 0 (m k) (λ p. rw (lt-ltb 0 _ p) (omega arith)) (λ h. rw (le-ltb 0 _ h) (omega arith))
    go false g = omega arith

pub least-done : (b : Bool) {least : ℕ} → least ≡ cond b 1 0 → eqb least 1 ≡ b
least-done true e = rw e
least-done false e = rw e

pub marked-at : (n : ℕ) (m : ℕ → ℕ) → marked_below n m ≡ true → (i : ℕ) → i < n → 0 < m i
unfolding marked_below
marked-at zero m e i h = absurd (not-suc-le-zero h)
marked-at (suc n) m e i h =
    either i n (λ p. rw p (ltb-true 0 (m n) (and_right (marked_below n m) (ltb 0 (m n)) e)))
    (λ d. marked-at n m (and_left (marked_below n m) (ltb 0 (m n)) e) i (omega arith))

pub marked_all : (n : ℕ) (m : ℕ → ℕ) → ((i : ℕ) → i < n → 0 < m i) → marked_below n m ≡ true
unfolding marked_below
marked_all zero m all = refl
marked_all (suc n) m all = rw (marked_all n m (λ i h. all i (omega arith)), lt-ltb 0 (m n) (all n (omega arith)))

pub same_truth : (a b : Bool) → (a ≡ true → b ≡ true) → (b ≡ true → a ≡ true) → a ≡ b
same_truth true b f g = sym (f refl)
same_truth false true f g = g refl
same_truth false false f g = refl

-- n entries below n, and none of the n numbers missing: each stands there once
pub marked-once : {s : List ℕ} {m : ℕ → ℕ} {low : Bool} → low ≡ true → Marked s low m → marked_below (length s) m ≡ each_once s
marked-once {s} {m} t marked =
    same_truth _ _
    (λ e. each-once s (λ i h. mark-met _ (rw (marked.met t i h) at (marked-at (length s) m e i h))) (marked.below t))
    (λ e. marked_all (length s) m (λ i h. rw (marked.met t i h, once s e i h, mark-some) (lit≤ tt)))

abbrev pub clear : ℕ → List ℕ
clear n = replicate n 0

pub marks-clear :
    (n : ℕ) (s : List ℕ) → 0 < n → length s ≤ n
    → ((0 < length (clear n)) × (length s ≤ length (clear n))) × ((i : ℕ) → i < length s → get_or (clear n) i 0 ≡ 0)
marks-clear n s some room =
    ((rw length-replicate some, rw length-replicate room), λ i h. get_or-replicate n i 0 0 (omega arith))
