-- The cheapest three, path after path. Assumes nothing.
use mathlib.Core.Path.{◌≡◌, refl, sym, ap, ◌∙◌, subst}
use mathlib.Core.Bool.{Bool, true, false, cond, ◌||◌, true≢false}
use mathlib.Core.List.{List, [], ◌∷◌, ◌++◌}
use Prim.Native.Nat.{min, ℕ, zero, suc, ◌+◌, ◌≤◌, ◌<◌}
use native.Mathlib.Omega.{arith}
use lib.Dec.{leb}
use borrow.Author.Tests.{leb-false, leb-true}
use lib.ListN.{length, get_or, take, length-take}
use lib.Seq.{get_or-take, take_all, take-suc}
use native.Mathlib.Numerals.{add-one}
use lib.Ieee.{Float, lt}
use Rattle.least_cost.specs.Position.{Position}
use Rattle.beam_paths.specs.Path.{Path, Way}
use Rattle.beam_paths.specs.Step.{merged, merged_at, key, insert, sorting, kept, extended}
use Rattle.beam_paths.specs.Held.{no_path, PathsFor}
use Rattle.beam_paths.specs.Entries.{named, taking, EntryIs, KeptIs}
use Rattle.beam_paths.specs.declared.Paths.{Paths}
use Rattle.beam_paths.specs.declared.counts.Counts.{Counts}
use Rattle.beam_paths.specs.declared.entry.Entry.{Entry}
use Rattle.beam_paths.specs.declared.kept.Kept.{Kept}
use lib.IntN.{ℤ}

-- ---- lists, one path more
pub merged-more : (q : Position) (ws : List Way) (ns : List ℕ) (n : ℕ) → merged_at q ws (ns ++ (n ∷ [])) ≡ merged_at q ws ns ++ (merged q ws n ∷ [])
unfolding merged_at
merged-more q ws [] n = refl
merged-more q ws (m ∷ ns) n = ap (λ (ys : List Path). merged q ws m ∷ ys) (merged-more q ws ns n)

pub merged-length : (q : Position) (ws : List Way) (ns : List ℕ) → length (merged_at q ws ns) ≡ length ns
unfolding merged_at
merged-length q ws [] = refl
merged-length q ws (m ∷ ns) = ap suc (merged-length q ws ns)

-- every path takes the sole candidate
pub extended_none : (q : Position) (c : ℤ) → extended q c [] ≡ []
unfolding extended
extended_none q c = refl

pub extended-cons : (q : Position) (c : ℤ) (x : Path) (xs : List Path) → extended q c (x ∷ xs) ≡ taking q c x ∷ extended q c xs
unfolding extended
extended-cons q c x xs = refl

extended-more : (q : Position) (c : ℤ) (xs : List Path) (x : Path) → extended q c (xs ++ (x ∷ [])) ≡ extended q c xs ++ (taking q c x ∷ [])
extended-more q c [] x = rw (extended-cons q c x [], extended_none q c) refl
extended-more q c (y ∷ xs) x = rw (extended-cons q c y (xs ++ (x ∷ [])), extended-cons q c y xs, extended-more q c xs x) refl

sorting-more : (done ys : List Path) (y : Path) → sorting done (ys ++ (y ∷ [])) ≡ insert y (sorting done ys)
unfolding sorting
sorting-more done [] y = refl
sorting-more done (x ∷ ys) y = sorting-more (insert x done) ys y

-- what falls off does not come back
take_again : (m : ℕ) (z : Path) (zs : List Path) → take m (z ∷ take m zs) ≡ take m (z ∷ zs)
take_again zero z zs = refl
take_again (suc m) z [] = refl
take_again (suc m) z (w ∷ zs) = ap (λ (vs : List Path). z ∷ vs) (take_again m w zs)

take-insert : (n : ℕ) (y : Path) (ys : List Path) → take n (insert y (take n ys)) ≡ take n (insert y ys)
unfolding insert
take-insert zero y ys = refl
take-insert (suc n) y [] = refl
take-insert (suc n) y (x ∷ ys) = go (lt (key y) (key x)) (take-insert n y ys)
  where
    go : (t : Bool) → take n (insert y (take n ys)) ≡ take n (insert y ys)
        → take (suc n) (cond t (y ∷ x ∷ take n ys) (x ∷ insert y (take n ys))) ≡ take (suc n) (cond t (y ∷ x ∷ ys) (x ∷ insert y ys))
    go true e = ap (λ (zs : List Path). y ∷ zs) (take_again n x ys)
    go false e = ap (λ (zs : List Path). x ∷ zs) e

-- ---- the paths kept once some are taken, where `many` counts are named in all
unfoldable pub so_far : ℕ → List Path → List Path
so_far many ys = cond (leb many 3) ys (take 3 (sorting [] ys))

pub so-far-none : (many : ℕ) → so_far many [] ≡ []
unfolding so_far sorting
so-far-none many = go (leb many 3)
  where
    go : (t : Bool) → cond {A = List Path} t [] [] ≡ []
    go true = refl
    go false = refl

pub so_far_more : (many : ℕ) (ys : List Path) (y : Path) → cond (leb many 3) (so_far many ys ++ (y ∷ [])) (take 3 (insert y (so_far many ys))) ≡ so_far many (ys ++ (y ∷ []))
unfolding so_far
so_far_more many ys y = go (leb many 3)
  where
    go : (t : Bool) → cond t (cond t ys (take 3 (sorting [] ys)) ++ (y ∷ [])) (take 3 (insert y (cond t ys (take 3 (sorting [] ys))))) ≡ cond t (ys ++ (y ∷ [])) (take 3 (sorting [] (ys ++ (y ∷ []))))
    go true = refl
    go false = take-insert 3 y (sorting [] ys) ∙ ap (λ (zs : List Path). take 3 zs) (sym (sorting-more [] ys y))

pub so-far-all : (many : ℕ) (ys : List Path) → length ys ≡ many → so_far many ys ≡ kept ys
unfolding so_far kept
so-far-all many ys e = rw e refl

-- there is no path at i, or one that is dearer than y
abbrev pub goes : Path → List Path → ℕ → Bool
goes y ys i = leb (length ys) i || lt (key y) (key (get_or ys i no_path))

-- the paths with one more, at most three
abbrev pub next : List Path → ℕ
next ys = cond (leb 3 (length ys)) (length ys) (suc (length ys))

-- ---- what is held
module _ {q : Position} {xs : List Path} where
  pub kept-none : {k : Kept} → k.count ≡ 0 → KeptIs q xs [] k
  kept-none e = record { count_is = sym e; few = omega arith; one = λ h. absurd (omega arith); two = λ h. absurd (omega arith); three = λ h. absurd (omega arith) }

  kept-one : {a : Path} {k : Kept} → k.count ≡ 1 → EntryIs q xs a k.one → KeptIs q xs (a ∷ []) k
  kept-one e A = record { count_is = sym e; few = omega arith; one = λ h. A; two = λ h. absurd (omega arith); three = λ h. absurd (omega arith) }

  kept-two : {a b : Path} {k : Kept} → k.count ≡ 2 → EntryIs q xs a k.one → EntryIs q xs b k.two → KeptIs q xs (a ∷ b ∷ []) k
  kept-two e A B = record { count_is = sym e; few = omega arith; one = λ h. A; two = λ h. B; three = λ h. absurd (omega arith) }

  kept-three : {a b c : Path} {k : Kept} → k.count ≡ 3 → EntryIs q xs a k.one → EntryIs q xs b k.two → EntryIs q xs c k.three → KeptIs q xs (a ∷ b ∷ c ∷ []) k
  kept-three e A B C = record { count_is = sym e; few = omega arith; one = λ h. A; two = λ h. B; three = λ h. C }

  module _ {k : Kept} {y : Path} {e : Entry} (Y : EntryIs q xs y e) where
    -- behind the others
    pub push-one : (ys : List Path) {f : k.count + 1 ≤ 3} → KeptIs q xs ys k → k.count ≡ 0 → KeptIs q xs (ys ++ (y ∷ [])) (record { count = k.count + 1; one = e; two = k.two; three = k.three; few = f })
    push-one [] w z = kept-one (omega arith) Y
    push-one (a ∷ ys) w z = absurd (omega (arith, w.count_is))

    pub push-two : (ys : List Path) {f : k.count + 1 ≤ 3} → KeptIs q xs ys k → k.count ≡ 1 → KeptIs q xs (ys ++ (y ∷ [])) (record { count = k.count + 1; one = k.one; two = e; three = k.three; few = f })
    push-two [] w z = absurd (omega (arith, w.count_is))
    push-two (a ∷ []) w z = kept-two (omega arith) (w.one (omega arith)) Y
    push-two (a ∷ b ∷ ys) w z = absurd (omega (arith, w.count_is))

    pub push-three : (ys : List Path) {f : k.count + 1 ≤ 3} → KeptIs q xs ys k → k.count ≡ 2 → KeptIs q xs (ys ++ (y ∷ [])) (record { count = k.count + 1; one = k.one; two = k.two; three = e; few = f })
    push-three [] w z = absurd (omega (arith, w.count_is))
    push-three (a ∷ []) w z = absurd (omega (arith, w.count_is))
    push-three (a ∷ b ∷ []) w z = kept-three (omega arith) (w.one (omega arith)) (w.two (omega arith)) Y
    push-three (a ∷ b ∷ c ∷ ys) w z = absurd (omega (arith, w.count_is))

    -- ---- in front of the first that is dearer: the three places, and none
    pub insert-one : (ys : List Path) {n : ℕ} {f : n ≤ 3} → KeptIs q xs ys k → n ≡ next ys → goes y ys 0 ≡ true → KeptIs q xs (take 3 (insert y ys)) (record { count = n; one = e; two = k.one; three = k.two; few = f })
    unfolding insert
    insert-one [] w m t = kept-one m Y
    insert-one (a ∷ []) w m t = rw t (kept-two m Y (w.one (omega arith)))
    insert-one (a ∷ b ∷ []) w m t = rw t (kept-three m Y (w.one (omega arith)) (w.two (omega arith)))
    insert-one (a ∷ b ∷ c ∷ []) w m t = rw t (kept-three m Y (w.one (omega arith)) (w.two (omega arith)))
    insert-one (a ∷ b ∷ c ∷ d ∷ ys) w m t = absurd (omega (arith, w.few))

    pub insert-two : (ys : List Path) {n : ℕ} {f : n ≤ 3} → KeptIs q xs ys k → n ≡ next ys → goes y ys 0 ≡ false → goes y ys 1 ≡ true → KeptIs q xs (take 3 (insert y ys)) (record { count = n; one = k.one; two = e; three = k.two; few = f })
    unfolding insert
    insert-two [] w m f t = absurd (true≢false f)
    insert-two (a ∷ []) w m f t = rw f (kept-two m (w.one (omega arith)) Y)
    insert-two (a ∷ b ∷ []) w m f t = rw (f, t) (kept-three m (w.one (omega arith)) Y (w.two (omega arith)))
    insert-two (a ∷ b ∷ c ∷ []) w m f t = rw (f, t) (kept-three m (w.one (omega arith)) Y (w.two (omega arith)))
    insert-two (a ∷ b ∷ c ∷ d ∷ ys) w m f t = absurd (omega (arith, w.few))

    pub insert-three : (ys : List Path) {n : ℕ} {f : n ≤ 3} → KeptIs q xs ys k → n ≡ next ys → goes y ys 0 ≡ false → goes y ys 1 ≡ false → goes y ys 2 ≡ true → KeptIs q xs (take 3 (insert y ys)) (record { count = n; one = k.one; two = k.two; three = e; few = f })
    unfolding insert
    insert-three [] w m f g t = absurd (true≢false f)
    insert-three (a ∷ []) w m f g t = absurd (true≢false g)
    insert-three (a ∷ b ∷ []) w m f g t = rw (f, g) (kept-three m (w.one (omega arith)) (w.two (omega arith)) Y)
    insert-three (a ∷ b ∷ c ∷ []) w m f g t = rw (f, g, t) (kept-three m (w.one (omega arith)) (w.two (omega arith)) Y)
    insert-three (a ∷ b ∷ c ∷ d ∷ ys) w m f g t = absurd (omega (arith, w.few))

    pub insert-none : (ys : List Path) → KeptIs q xs ys k → goes y ys 0 ≡ false → goes y ys 1 ≡ false → goes y ys 2 ≡ false → KeptIs q xs (take 3 (insert y ys)) k
    unfolding insert
    insert-none [] w f g h = absurd (true≢false f)
    insert-none (a ∷ []) w f g h = absurd (true≢false g)
    insert-none (a ∷ b ∷ []) w f g h = absurd (true≢false h)
    insert-none (a ∷ b ∷ c ∷ []) w f g h = rw (f, g, h) (kept-three (sym w.count_is) (w.one (omega arith)) (w.two (omega arith)) (w.three (omega arith)))
    insert-none (a ∷ b ∷ c ∷ d ∷ ys) w f g h = absurd (omega (arith, w.few))

-- ---- the tests
module _ {q : Position} {xs : List Path} {y : Path} {e : Entry} (Y : EntryIs q xs y e) where
  tested : lt (y.cost 1) (y.cost 0) ≡ lt e.second.cost e.first.cost
  tested = ap (λ (x : Float). lt x (y.cost 0)) (sym Y.second_is) ∙ ap (λ (x : Float). lt e.second.cost x) (sym Y.first_is)

  pub key-second : lt e.second.cost e.first.cost ≡ true → e.second.cost ≡ key y
  unfolding key
  key-second t = Y.second_is ∙ sym (ap (λ (b : Bool). cond b (y.cost 1) (y.cost 0)) (tested ∙ t))

  pub key-first : lt e.second.cost e.first.cost ≡ false → e.first.cost ≡ key y
  unfolding key
  key-first t = Y.first_is ∙ sym (ap (λ (b : Bool). cond b (y.cost 1) (y.cost 0)) (tested ∙ t))

  -- what a test of the code says of the list
  pub goes-is : {ys : List Path} {k : Kept} {i : ℕ} {b t : Bool} {other : Entry} → KeptIs q xs ys k → (i < length ys → EntryIs q xs (get_or ys i no_path) other)
      → ((r : Position) (us : List Path) (x z : Path) → EntryIs r us x e → (i < k.count → EntryIs r us z other) → b ≡ leb k.count i || lt (key x) (key z)) → b ≡ t → goes y ys i ≡ t
  goes-is {ys} {k} {i} {b} {t} {other} w at ask e =
      ap (λ (n : ℕ). leb n i || lt (key y) (key (get_or ys i no_path))) w.count_is ∙ sym (ask q xs y (get_or ys i no_path) Y (λ h. at (rw w.count_is h))) ∙ e

pub next-min : (n : ℕ) → n ≤ 3 → min (n + 1) 3 ≡ cond (leb 3 n) n (suc n)
next-min n h = go (leb 3 n) refl
  where
    go : (t : Bool) → leb 3 n ≡ t → min (n + 1) 3 ≡ cond t n (suc n)
    go true e = omega (arith, leb-true 3 n e)
    go false e = omega (arith, leb-false 3 n e)

pub next-is : {q : Position} {xs ys : List Path} {k : Kept} {n : ℕ} → KeptIs q xs ys k → n ≡ cond (leb 3 k.count) k.count (suc k.count) → n ≡ next ys
next-is w e = rw w.count_is e

-- ---- the loops: over the paths with a sole candidate, and over the counts
pub extended-next : {q : Position} {xs : List Path} {paths : Paths} {k : Kept} {j : ℕ} (c : ℤ) → PathsFor xs paths → j < paths.count
    → KeptIs q xs (extended q c (take j xs) ++ (taking q c (get_or xs j no_path) ∷ [])) k → KeptIs q xs (extended q c (take (j + 1) xs)) k
extended-next {q} {xs} {paths} {k} {j} c W J w =
    let here : j < length xs = rw W.count_is J in
    subst (λ (ys : List Path). KeptIs q xs ys k)
    (sym (extended-more q c (take j xs) (get_or xs j no_path)) ∙ ap (extended q c) (sym (take-suc xs j no_path here)) ∙ ap (λ (i : ℕ). extended q c (take i xs)) (sym (add-one j))) w

pub extended-all : {q : Position} {xs : List Path} {paths : Paths} {k : Kept} {j : ℕ} (c : ℤ) → PathsFor xs paths → j ≡ paths.count
    → KeptIs q xs (extended q c (take j xs)) k → KeptIs q xs (extended q c xs) k
extended-all {q} {xs} {paths} {k} {j} c W last w = subst (λ (ys : List Path). KeptIs q xs (extended q c ys) k) (take_all j xs (omega (arith, W.count_is, last))) w

pub so-far-start : (q : Position) (ws : List Way) (many : ℕ) → so_far many (merged_at q ws []) ≡ []
unfolding merged_at
so-far-start q ws many = so-far-none many

names-length : (c : Counts) {ns : List ℕ} → named c ≡ ns → c.length ≤ length c.counts → length ns ≡ c.length
names-length c names few = rw (sym names) (simp length-take (omega (arith, few)))

module _ {q : Position} {xs : List Path} {k : Kept} (ws : List Way) (c : Counts) {ns : List ℕ} (names : named c ≡ ns) (few : c.length ≤ length c.counts) where
  pub merged-next : {d : ℕ} → d < c.length
      → KeptIs q xs (cond (leb c.length 3) (so_far c.length (merged_at q ws (take d ns)) ++ (merged q ws (get_or c.counts d 0) ∷ [])) (take 3 (insert (merged q ws (get_or c.counts d 0)) (so_far c.length (merged_at q ws (take d ns)))))) k
      → KeptIs q xs (so_far c.length (merged_at q ws (take (d + 1) ns))) k
  merged-next {d} h w =
      let here : d < length ns = rw (names-length c names few) h in
      let entry : get_or c.counts d 0 ≡ get_or ns d 0 = sym (get_or-take c.length c.counts d 0 h) ∙ ap (λ (l : List ℕ). get_or l d 0) names in
      subst (λ (ys : List Path). KeptIs q xs ys k)
      (so_far_more c.length (merged_at q ws (take d ns)) (merged q ws (get_or c.counts d 0))
      ∙ ap (so_far c.length)
      (sym (merged-more q ws (take d ns) (get_or c.counts d 0))
      ∙ ap (λ (n : ℕ). merged_at q ws (take d ns ++ (n ∷ []))) entry
      ∙ ap (merged_at q ws) (sym (take-suc ns d 0 here))
      ∙ ap (λ (i : ℕ). merged_at q ws (take i ns)) (sym (add-one d)))) w

  pub merged-all : {d : ℕ} → d ≡ c.length → KeptIs q xs (so_far c.length (merged_at q ws (take d ns))) k → KeptIs q xs (kept (merged_at q ws ns)) k
  merged-all {d} last w =
      subst (λ (ys : List Path). KeptIs q xs ys k)
      (ap (λ (l : List ℕ). so_far c.length (merged_at q ws l)) (take_all d ns (omega (arith, names-length c names few, last))) ∙ so-far-all c.length (merged_at q ws ns) (merged-length q ws ns ∙ names-length c names few)) w
