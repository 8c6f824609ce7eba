-- The counts that are named, one after the other. Assumes nothing.
use mathlib.Core.Path.{◌≡◌, refl, sym, ap, ◌∙◌}
use mathlib.Core.Bool.{Bool, true, false, ◌||◌}
use mathlib.Core.List.{List, [], ◌∷◌, ◌++◌}
use Prim.Native.Nat.{ℕ, suc, ◌+◌, ◌<◌, zero}
use native.Mathlib.Numerals.{add-one}
use native.Mathlib.Omega.{arith}
use lib.Dec.{eqb}
use lib.ListN.{length, get_or, take, set}
use lib.Seq.{take_all, take-suc, take-suc-set}
use borrow.Author.Tests.{eq-eqb, ne_eqb, eqb-true, eqb-false}
use Rattle.std.specs.List.{list_any}
use Rattle.beam_paths.specs.Path.{Path}
use Rattle.beam_paths.specs.Step.{has, naming, counts_named}
use Rattle.beam_paths.specs.Held.{no_path, PathsFor}
use Rattle.beam_paths.specs.declared.Paths.{Paths}
use native.Mathlib.Nat.{le_of_suc-le-suc, not-suc-le-zero}

or-false : (b : Bool) → b || false ≡ b
or-false true = refl
or-false false = refl

or_assoc : (a b c : Bool) → (a || b) || c ≡ a || (b || c)
or_assoc true b c = refl
or_assoc false b c = refl

has_more : (n : ℕ) (ns : List ℕ) (m : ℕ) → has n (ns ++ (m ∷ [])) ≡ has n ns || eqb n m
unfolding has
has_more n [] m = or-false (eqb n m)
has_more n (k ∷ ns) m = ap (λ (b : Bool). eqb n k || b) (has_more n ns m) ∙ sym (or_assoc (eqb n k) (has n ns) (eqb n m))

or-true : (b : Bool) → b || true ≡ true
or-true true = refl
or-true false = refl

-- a count that stands in the list is found
pub has-at : (n : ℕ) (ns : List ℕ) (i : ℕ) → i < length ns → get_or ns i 0 ≡ n → has n ns ≡ true
unfolding has
has-at n [] i h e = absurd (not-suc-le-zero h)
has-at n (m ∷ ns) zero h e = ap (λ (b : Bool). b || has n ns) (eq-eqb n m (sym e))
has-at n (m ∷ ns) (suc i) h e = ap (λ (b : Bool). eqb n m || b) (has-at n ns i (le_of_suc-le-suc h) e) ∙ or-true (eqb n m)

-- one entry more that is another
pub has-next : (n : ℕ) (ns : List ℕ) (i : ℕ) → i < length ns → (get_or ns i 0 ≡ n → ⊥) → has n (take i ns) ≡ false → has n (take (suc i) ns) ≡ false
has-next n ns i h other none =
    ap (has n) (take-suc ns i 0 h) ∙ has_more n (take i ns) (get_or ns i 0) ∙ ap (λ (b : Bool). b || eqb n (get_or ns i 0)) none ∙ ne_eqb n (get_or ns i 0) (λ e. other (sym e))

pub has-none : (n : ℕ) → has n [] ≡ false
unfolding has
has-none n = refl

-- the slice's own search
same : (m n : ℕ) → eqb m n ≡ eqb n m
same m n = go (eqb n m) refl
  where
    go : (t : Bool) → eqb n m ≡ t → eqb m n ≡ t
    go true e = eq-eqb m n (sym (eqb-true n m e))
    go false e = ne_eqb m n (λ h. eqb-false n m e (sym h))

pub has-any : (n : ℕ) (ns : List ℕ) → list_any (λ y. eqb y n) ns ≡ has n ns
unfolding has
has-any n [] = refl
has-any n (m ∷ ns) = rw (same m n, has-any n ns)

-- ---- a count is named: it is there, or it is appended
pub named-old : (ns : List ℕ) (n : ℕ) → has n ns ≡ true → ns ≡ naming ns n
unfolding naming
named-old ns n h = rw h

pub named_new : (ns : List ℕ) (n k : ℕ) → k < length ns → has n (take k ns) ≡ false → take (k + 1) (set ns k n) ≡ naming (take k ns) n
unfolding naming
named_new ns n k room h = rw h (ap (λ (m : ℕ). take m (set ns k n)) (add-one k) ∙ take-suc-set ns k n room)

pub counts-cons : (ns : List ℕ) (x : Path) (xs : List Path) → counts_named ns (x ∷ xs) ≡ counts_named (naming (naming ns x.remaining) (suc x.remaining)) xs
unfolding counts_named
counts-cons ns x xs = refl

pub counts-none : (ns : List ℕ) → counts_named ns [] ≡ ns
unfolding counts_named
counts-none ns = refl

pub counts-more : (ns : List ℕ) (xs : List Path) (x : Path) → counts_named ns (xs ++ (x ∷ [])) ≡ naming (naming (counts_named ns xs) x.remaining) (suc x.remaining)
counts-more ns [] x = counts-cons ns x [] ∙ counts-none (naming (naming ns x.remaining) (suc x.remaining)) ∙ ap (λ (ms : List ℕ). naming (naming ms x.remaining) (suc x.remaining)) (sym (counts-none ns))
counts-more ns (y ∷ xs) x =
    let next = naming (naming ns y.remaining) (suc y.remaining) in
    counts-cons ns y (xs ++ (x ∷ [])) ∙ counts-more next xs x ∙ ap (λ (ms : List ℕ). naming (naming ms x.remaining) (suc x.remaining)) (sym (counts-cons ns y xs))

-- path j names its count and the next one
pub counts-next : {xs : List Path} {s : Paths} {j : ℕ} {ms ms' : List ℕ} (ns : List ℕ) → PathsFor xs s → j < s.count → ns ≡ counts_named [] (take j xs)
    → ms ≡ naming ns (get_or s.remaining j 0) → ms' ≡ naming ms (get_or s.remaining j 0 + 1) → ms' ≡ counts_named [] (take (j + 1) xs)
counts-next {xs} {s} {j} {ms} {ms'} ns w h done own next =
    let here : j < length xs = rw w.count_is h in
    let more = ap (λ (k : ℕ). counts_named [] (take k xs)) (add-one j) ∙ ap (counts_named []) (take-suc xs j no_path here) ∙ counts-more [] (take j xs) (get_or xs j no_path) in
    rw (more, next, own, w.remaining_is j here, done) (ap (naming _) (add-one _))

pub counts_all : {xs : List Path} {s : Paths} {j : ℕ} {ns : List ℕ} → PathsFor xs s → j ≡ s.count → ns ≡ counts_named [] (take j xs) → ns ≡ counts_named [] xs
counts_all {xs} {s} {j} w last done = done ∙ ap (counts_named []) (take_all j xs (omega (arith, w.count_is, last)))
