-- No count above a bound: a position adds one at most. Assumes nothing.
use mathlib.Core.Path.{◌≡◌, refl, sym, ap, ◌∙◌, subst⁻¹}
use mathlib.Core.Logic.{⊎_elim}
use mathlib.Core.Bool.{Bool, true, false, cond}
use mathlib.Core.List.Memᴰ.{append_cases}
use mathlib.Core.List.Memᴰ.{cases_cons}
use mathlib.Core.List.Memᴰ.{head as mem-head}
use mathlib.Core.List.Memᴰ.{not-nil}
use mathlib.Core.List.Memᴰ.{tail as mem-tail}
use mathlib.Core.List.{List, [], ◌∷◌, ◌++◌, Memᴰ as Mem}
use Prim.Native.Nat.{ℕ, zero, suc, ◌+◌, ◌*◌, ◌≤◌, ◌<◌}
use native.Mathlib.Nat.{le_of_suc-le-suc, not-suc-le-zero}
use native.Mathlib.Omega.{arith}
use lib.Dec.{leb, eqb}
use lib.IntN.{ℤ, pos}
use lib.ListN.{length, get_or, take, length-take}
use lib.Seq.{get_or-take}
use lib.Ieee.{nan, lt}
use Rattle.least_cost.specs.Position.{Position}
use Rattle.least_cost.proofs.Trial.{nz-le}
use Rattle.prices.specs.Book.{Book}
use Rattle.steps.specs.Place.{local_at}
use Rattle.beam_paths.specs.Path.{Path, Way, way_remaining, ways}
use Rattle.beam_paths.specs.Step.{has, naming, counts_named, merged, merged_at, key, insert, sorting, kept, extended, stepped}
use Rattle.beam_paths.specs.Held.{no_path, PathsFor}
use Rattle.beam_paths.specs.Entries.{named}
use Rattle.beam_paths.specs.declared.Paths.{Paths}
use Rattle.beam_paths.specs.declared.counts.Counts.{Counts}
use Rattle.beam_row.specs.Held.{Spot, Stands, Takeable}
use Rattle.beam_paths.proofs.Naming.{counts-none, counts-cons}
use Rattle.beam_paths.proofs.Keeping.{extended_none, extended-cons}

module _ {A : Type 0} where
  pub mem-at : (l : List A) (i : ℕ) (d : A) → i < length l → Mem (get_or l i d) l
  mem-at [] i d h = absurd (not-suc-le-zero h)
  mem-at (x ∷ l) zero d h = mem-head refl
  mem-at (x ∷ l) (suc i) d h = mem-tail (mem-at l i d (le_of_suc-le-suc h))

  all-mem : (P : A → Type 0) (l : List A) (d : A) → ((i : ℕ) → i < length l → P (get_or l i d)) → (x : A) → Mem x l → P x
  all-mem P [] d h x m = absurd (not-nil m)
  all-mem P (y ∷ l) d h x m = ⊎_elim (λ e. subst⁻¹ P e (h 0 (omega arith))) (all-mem P l d (λ i r. h (suc i) (omega arith)) x) (cases_cons m)

-- each count n has n + k ≤ b
pub record Upto (k b : ℕ) (ns : List ℕ) : Type 0 where
  pub at : (n : ℕ) → Mem n ns → n + k ≤ b

-- each path's
pub record Under (k b : ℕ) (xs : List Path) : Type 0 where
  pub at : (x : Path) → Mem x xs → x.remaining + k ≤ b

under_rest : {k b : ℕ} {x : Path} {xs : List Path} → Under k b (x ∷ xs) → Under k b xs
under_rest w = record { at = λ y m. w.at y (mem-tail m) }

module _ {k b : ℕ} where
  upto-none : Upto k b []
  upto-none = record { at = λ n m. absurd (not-nil m) }

  upto-more : {ns : List ℕ} (n : ℕ) → Upto k b ns → n + k ≤ b → Upto k b (ns ++ (n ∷ []))
  upto-more {ns} n u h = record { at = λ i m. ⊎_elim (u.at i) (λ t. ⊎_elim (λ e. rw e h) (λ z. absurd (not-nil z)) (cases_cons t)) (append_cases ns m) }

  upto-naming : {ns : List ℕ} (n : ℕ) → Upto k b ns → n + k ≤ b → Upto k b (naming ns n)
  unfolding naming
  upto-naming {ns} n u h = go (has n ns)
    where
      go : (t : Bool) → Upto k b (cond t ns (ns ++ (n ∷ [])))
      go true = u
      go false = upto-more n u h

  counts-upto : (ns : List ℕ) (xs : List Path) → Under (suc k) b xs → Upto k b ns → Upto k b (counts_named ns xs)
  counts-upto ns [] w u = rw (counts-none ns) u
  counts-upto ns (x ∷ xs) w u =
      let h = w.at x (mem-head refl) in
      rw (counts-cons ns x xs)
      (counts-upto (naming (naming ns x.remaining) (suc x.remaining)) xs (under_rest w) (upto-naming (suc x.remaining) (upto-naming x.remaining u (omega (arith, h))) (omega (arith, h))))

  under_none : Under k b []
  under_none = record { at = λ x m. absurd (not-nil m) }

  under_more : {x : Path} {xs : List Path} → x.remaining + k ≤ b → Under k b xs → Under k b (x ∷ xs)
  under_more h w = record { at = λ y m. ⊎_elim (λ e. rw e h) (w.at y) (cases_cons m) }

  under-extended : (q : Position) (c : ℤ) (xs : List Path) → Under (suc k) b xs → Under k b (extended q c xs)
  unfolding way_remaining
  under-extended q c [] w = rw (extended_none q c) under_none
  under-extended q c (x ∷ xs) w = rw (extended-cons q c x xs) (under_more (omega (arith, nz-le c, w.at x (mem-head refl))) (under-extended q c xs (under_rest w)))

  under-merged : (q : Position) (ws : List Way) (ns : List ℕ) → Upto k b ns → Under k b (merged_at q ws ns)
  unfolding merged_at merged
  under-merged q ws [] u = under_none
  under-merged q ws (n ∷ ns) u = under_more (u.at n (mem-head refl)) (under-merged q ws ns (record { at = λ i m. u.at i (mem-tail m) }))

  under-insert : (y : Path) (ys : List Path) → y.remaining + k ≤ b → Under k b ys → Under k b (insert y ys)
  unfolding insert
  under-insert y [] h w = under_more h under_none
  under-insert y (x ∷ ys) h w = go (lt (key y) (key x)) (under-insert y ys h (under_rest w))
    where
      go : (t : Bool) → Under k b (insert y ys) → Under k b (cond t (y ∷ x ∷ ys) (x ∷ insert y ys))
      go true i = under_more h w
      go false i = under_more (w.at x (mem-head refl)) i

  under-sorting : (done ys : List Path) → Under k b done → Under k b ys → Under k b (sorting done ys)
  unfolding sorting
  under-sorting done [] w u = w
  under-sorting done (y ∷ ys) w u = under-sorting (insert y done) ys (under-insert y done (u.at y (mem-head refl)) w) (under_rest u)

  under-take : (n : ℕ) (ys : List Path) → Under k b ys → Under k b (take n ys)
  under-take zero ys w = under_none
  under-take (suc n) [] w = under_none
  under-take (suc n) (y ∷ ys) w = under_more (w.at y (mem-head refl)) (under-take n ys (under_rest w))

  under-kept : (ys : List Path) → Under k b ys → Under k b (kept ys)
  unfolding kept
  under-kept ys w = go (leb (length ys) 3)
    where
      go : (t : Bool) → Under k b (cond t ys (take 3 (sorting [] ys)))
      go true = w
      go false = under-take 3 (sorting [] ys) (under-sorting [] ys under_none w)

  pub under-stepped : (q : Position) (xs : List Path) → Under (suc k) b xs → Under k b (stepped q xs)
  unfolding stepped
  under-stepped q xs w = go (eqb (length q.candidates) 1)
    where
      go : (t : Bool) → Under k b (cond t (extended q (get_or q.candidates 0 (pos 0)) xs) (kept (merged_at q (ways xs q.candidates) (counts_named [] xs))))
      go true = under-extended q (get_or q.candidates 0 (pos 0)) xs w
      go false = under-kept _ (under-merged q (ways xs q.candidates) (counts_named [] xs) (counts-upto [] xs w upto-none))

-- ---- some paths that the code's numbers are of
abbrev pub path_at : Paths → ℕ → Path
path_at s j = record { remaining = get_or s.remaining j 0; cost = λ p. get_or s.costs (2 * j + p) nan; levels = λ p. [] }

abbrev pub paths_of : Paths → List Path
paths_of s = take s.count (path_at s 0 ∷ path_at s 1 ∷ path_at s 2 ∷ [])

three-at : (s : Paths) (j : ℕ) → j < 3 → get_or (path_at s 0 ∷ path_at s 1 ∷ path_at s 2 ∷ []) j no_path ≡ path_at s j
three-at s zero h = refl
three-at s (suc zero) h = refl
three-at s (suc (suc zero)) h = refl
three-at s (suc (suc (suc j))) h = absurd (omega arith)

module _ (s : Paths) (few : s.count ≤ 3) where
  paths-length : length (paths_of s) ≡ s.count
  paths-length = simp length-take (omega (arith, few))

  paths-at : (j : ℕ) → j < length (paths_of s) → get_or (paths_of s) j no_path ≡ path_at s j
  paths-at j h =
      let l : j < s.count = rw paths-length at h in
      get_or-take s.count (path_at s 0 ∷ path_at s 1 ∷ path_at s 2 ∷ []) j no_path l ∙ three-at s j (omega (arith, few, l))

  pub paths-for : length s.remaining ≡ 3 → length s.costs ≡ 6 → PathsFor (paths_of s) s
  paths-for three six =
      record {
        count_is = paths-length;
        few = few;
        three = three;
        six = six;
        remaining_is = λ j h. sym (ap (λ (x : Path). x.remaining) (paths-at j h));
        cost_is = λ j p h l. sym (ap (λ (x : Path). x.cost p) (paths-at j h));
      }

  pub paths-under : (k b : ℕ) → ((j : ℕ) → j < s.count → get_or s.remaining j 0 + k ≤ b) → Under k b (paths_of s)
  paths-under k b h =
      record { at = all-mem (λ x. x.remaining + k ≤ b) (paths_of s) no_path (λ j r. rw (paths-at j r) (h j (rw paths-length at r))) }

-- every count that is named has its contexts
pub counts-coded : {book : Book} {s : Spot} {paths : Paths} (c : Counts) {d : ℕ} → Takeable book s paths → ((xs : List Path) → PathsFor xs paths → named c ≡ counts_named [] xs)
    → c.length ≤ length c.counts → d < c.length → get_or c.counts d 0 + s.place.k ≤ 64 * s.place.covered
counts-coded {book} {s} {paths} c {d} K names few h =
    let under = paths-under paths K.few (suc s.place.k) (64 * s.place.covered) (λ j r. omega (arith, K.left j r)) in
    let upto : Upto s.place.k (64 * s.place.covered) (named c) = rw (names _ (paths-for paths K.few K.three K.six)) (counts-upto [] (paths_of paths) under upto-none) in
    let here : d < length (named c) = simp length-take (omega (arith, few, h)) in
    rw (get_or-take c.length c.counts d 0 h) at (upto.at (get_or (named c) d 0) (mem-at (named c) d 0 here))

-- the position that a spot and a book stand for
abbrev pub position_of : Book → Spot → Position
position_of book s = record { candidates = s.candidates; low = 0; high = 0; price = λ r p c. local_at book s.place r p c }

pub position-stands : (book : Book) (s : Spot) → Stands book s (position_of book s)
position-stands book s = record { candidates_are = refl; price_is = λ r p c h m. refl }

pub counts-next-upto : {book : Book} {s : Spot} {paths after : Paths} → paths.count ≤ 3 → length paths.remaining ≡ 3 → length paths.costs ≡ 6
    → ((q : Position) (xs : List Path) → Stands book s q → PathsFor xs paths → PathsFor (stepped q xs) after)
    → (most : ℕ) → ((j : ℕ) → j < paths.count → get_or paths.remaining j 0 ≤ most) → (j : ℕ) → j < after.count → get_or after.remaining j 0 ≤ suc most
counts-next-upto {book} {s} {paths} {after} few three six all most h j r =
    let ys = all (position_of book s) (paths_of paths) (position-stands book s) (paths-for paths few three six) in
    let here : j < length (stepped (position_of book s) (paths_of paths)) = rw ys.count_is r in
    let under = under-stepped {k = 0} {b = suc most} (position_of book s) (paths_of paths) (paths-under paths few 1 (suc most) (λ i t. omega (arith, h i t))) in
    rw (ys.remaining_is j here) (omega (arith, under.at _ (mem-at _ j no_path here)))
