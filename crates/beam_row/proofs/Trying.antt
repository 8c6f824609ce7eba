-- One way: what the code adds up is its cost, and the byte names it. Assumes nothing.
use mathlib.Core.Path.{◌≡◌, refl, sym, ap, ◌∙◌, subst}
use mathlib.Core.List.{List, [], ◌∷◌, ◌++◌, Memᴰ}
use Prim.Native.Nat.{ℕ, ◌+◌, ◌*◌, ◌/◌, ◌%◌, ◌≤◌, ◌<◌}
use native.Mathlib.Nat.{add-zero}
use native.Mathlib.Omega.{arith}
use lib.IntN.{ℤ, pos}
use lib.ListN.{length, get_or, take}
use lib.Seq.{take_all}
use lib.Ieee.{Float, nan, add, binary32}
use mir.Syntax.{w32}
use mir.Val.{of_z, to_z}
use Rattle.ac_context.specs.Contexts.{Coefficient}
use Rattle.ac_context.proofs.Bounds.{covered-most}
use Rattle.least_cost.specs.Position.{Position, nz}
use Rattle.least_cost.proofs.Trial.{nz-le}
use Rattle.prices.specs.Book.{Book}
use Rattle.steps.specs.Place.{context_at, local_in, local_at, distortion_at}
use Rattle.steps.specs.Plan.{Pickable, Each}
use Rattle.steps.proofs.Listed.{pickable-back}
use Rattle.beam_paths.specs.Path.{Path, Way, way_remaining, way_cost, way_levels, ways_of, ways}
use Rattle.beam_paths.specs.Step.{merged}
use Rattle.beam_paths.specs.Held.{no_path, PathsFor, Named}
use Rattle.beam_paths.specs.Entries.{taking, EntryIs}
use Rattle.beam_paths.specs.declared.Paths.{Paths}
use Rattle.beam_paths.specs.declared.entry.Entry.{Entry}
use Rattle.beam_row.specs.Held.{Spot, Stands, Takeable}
use Rattle.beam_row.specs.Entries.{way_at, tried, alone, PathIs, Leads, BothOf}
use Rattle.beam_row.proofs.Growing.{mem-at}
use Rattle.beam_row.proofs.Reach.{best-other, best-more, byte-way, both-past, both-merged, ways_next, paths-next}

-- the level that the code reads
abbrev pub read : Spot → ℕ → ℤ
read s i = to_z w32 (of_z w32 (get_or s.candidates i (pos 0)))

-- tail is the cost of path j with candidate i, whose `nz` is m
module _ {book : Book} {s : Spot} {q : Position} (xs : List Path) (j : ℕ) {i m : ℕ} {tail : Float} (S : Stands book s q) (U : Pickable s.candidates)
    (J : j < length xs) (I : i < length s.candidates) (M : m ≡ nz (read s i)) (C : tail ≡ (get_or xs j no_path).cost m) where
  level_is : read s i ≡ get_or q.candidates i (pos 0)
  level_is = pickable-back U i I ∙ ap (λ (l : List ℤ). get_or l i (pos 0)) (sym S.candidates_are)

  nz-is : m ≡ nz (get_or q.candidates i (pos 0))
  nz-is = M ∙ ap nz level_is

  price_is : (context n p : ℕ) → p ≤ 1 → context ≡ context_at s.place n → local_in book s.place context p (read s i) ≡ q.price n p (get_or q.candidates i (pos 0))
  unfolding local_at
  price_is context n p h e =
      let mem : Memᴰ (read s i) s.candidates = rw (pickable-back U i I) (mem-at s.candidates i (pos 0) I) in
      ap (λ (k : ℕ). local_in book s.place k p (read s i)) e ∙ sym (S.price_is n p (read s i) h mem) ∙ ap (λ (c : ℤ). q.price n p c) level_is

  remaining_is : (get_or xs j no_path).remaining + m ≡ way_remaining (way_at q xs j i)
  unfolding way_remaining
  remaining_is = rw nz-is

  cost_is : (context n p : ℕ) → p ≤ 1 → context ≡ context_at s.place n → (get_or xs j no_path).remaining + m ≡ n
      → add binary32 (local_in book s.place context p (read s i)) tail ≡ way_cost q p (way_at q xs j i)
  unfolding way_cost
  cost_is context n p h e r =
      ap (λ (y : Float). add binary32 y tail) (price_is context n p h e)
      ∙ ap (λ (y : Float). add binary32 (q.price n p (get_or q.candidates i (pos 0))) y) (C ∙ ap (get_or xs j no_path).cost nz-is)
      ∙ ap (λ (k : ℕ). add binary32 (q.price k p (get_or q.candidates i (pos 0))) ((get_or xs j no_path).cost (nz (get_or q.candidates i (pos 0))))) (sym r ∙ remaining_is)

  below : i < 16
  below = omega (arith, U.few, I)

  path-of : (16 * j + i) / 16 < length xs
  path-of = let b = below in omega (arith, b, J)

  level-of : (16 * j + i) % 16 < length q.candidates
  level-of =
      let l : length q.candidates ≡ length s.candidates = ap length S.candidates_are in
      let b = below in
      rw l (omega (arith, b, I))

  -- a way that leads elsewhere
  way-other : {ws : List Way} {e : Entry} → ((get_or xs j no_path).remaining + m ≡ e.remaining → ⊥) → BothOf q xs ws e → BothOf q xs (ws ++ (way_at q xs j i ∷ [])) e
  way-other {ws} {e} other w =
      let no : way_remaining (way_at q xs j i) ≡ e.remaining → ⊥ = λ h. other (remaining_is ∙ h) in
      record { first = best-other (way_at q xs j i) no w.first; second = best-other (way_at q xs j i) no w.second }

  -- one that leads here
  way-more : {ws : List Way} {e : Entry} {context : ℕ} → (get_or xs j no_path).remaining + m ≡ e.remaining → context ≡ context_at s.place e.remaining
      → BothOf q xs ws e → BothOf q xs (ws ++ (way_at q xs j i ∷ [])) (tried book s.place context (read s i) tail (16 * j + i) e)
  way-more {ws} {e} {context} r k w =
      let reaches : way_remaining (way_at q xs j i) ≡ e.remaining = sym remaining_is ∙ r in
      record {
        first = best-more (way_at q xs j i) _ (16 * j + i) reaches (cost_is context e.remaining 0 (omega arith) k r) (byte-way q xs j i below) path-of level-of w.first;
        second = best-more (way_at q xs j i) _ (16 * j + i) reaches (cost_is context e.remaining 1 (omega arith) k r) (byte-way q xs j i below) path-of level-of w.second;
      }

  named : (p : ℕ) → Named q xs p (16 * j + i) (taking q (get_or q.candidates i (pos 0)) (get_or xs j no_path))
  named p =
      let w = sym (byte-way q xs j i below) in
      record { path = path-of; level = level-of; levels_are = ap way_levels w; cost_is = ap (way_cost q p) w; remaining_is = ap way_remaining w }

  -- path j with the sole candidate
  pub path-extended : {n choice : ℕ} {e : Entry} → (get_or xs j no_path).remaining + m ≡ n → choice ≡ 16 * j + i → e ≡ alone book s.place n (read s i) tail choice
      → EntryIs q xs (taking q (get_or q.candidates i (pos 0)) (get_or xs j no_path)) e
  path-extended {n} r c t =
      rw (t, c)
      (record {
        remaining_is = sym r ∙ remaining_is;
        first_is = cost_is (context_at s.place n) n 0 (omega arith) refl r;
        second_is = cost_is (context_at s.place n) n 1 (omega arith) refl r;
        first_by = λ t. named 0;
        second_by = λ t. named 1;
      })

-- candidate i more, where the candidates whose `nz` is z lead path j to the entry's count
pub record OneMore (book : Book) (s : Spot) (j z i : ℕ) (tail : Float) (e f : Entry) : Type 0 where
  pub same : f.remaining ≡ e.remaining
  pub more : (q : Position) (xs : List Path) (ws : List Way) → Stands book s q → Leads xs j z tail e.remaining → BothOf q xs ws e → BothOf q xs (ws ++ (way_at q xs j i ∷ [])) f

module _ {book : Book} {s : Spot} {j z i m : ℕ} {tail : Float} {e f : Entry} (U : Pickable s.candidates) (I : i < length s.candidates) (M : m ≡ nz (read s i)) where
  pub more-tried : {context : ℕ} → m ≡ z → context ≡ context_at s.place e.remaining → f ≡ tried book s.place context (read s i) tail (16 * j + i) e → OneMore book s j z i tail e f
  more-tried h k t =
      record {
        same = ap (λ (g : Entry). g.remaining) t;
        more = λ q xs ws S L w. rw t (way-more xs j S U L.here I M (rw h L.tail_is) (rw h L.remaining_is) k w);
      }

  pub more-other : (m ≡ z → ⊥) → f ≡ e → OneMore book s j z i tail e f
  more-other h t =
      record {
        same = ap (λ (g : Entry). g.remaining) t;
        more = λ q xs ws S L w. rw t (way-other xs j S U L.here I M refl (λ r. h (omega (arith, r, L.remaining_is))) w);
      }

-- ---- what the code needs
module _ {book : Book} {s : Spot} {paths : Paths} (K : Takeable book s paths) {j : ℕ} (J : j < paths.count) where
  pub count-few : get_or paths.remaining j 0 < 65536
  count-few = omega (arith, K.left j J, covered-most K.covers)

  pub pair-below : {m : ℕ} (q : ℤ) → m ≡ nz q → 2 * j + m < 6
  pair-below {m} q e = let one : m ≤ 1 = rw e (nz-le q) in omega (arith, K.few, one)

  pub sum_fits : {m : ℕ} (q : ℤ) → m ≡ nz q → get_or paths.remaining j 0 + m < 65537
  sum_fits {m} q e = let one : m ≤ 1 = rw e (nz-le q) in let f = count-few in omega (arith, one, f)

  pub sum-coded : {m : ℕ} (q : ℤ) → m ≡ nz q → 0 < get_or paths.remaining j 0 + m → Coefficient s.place.covered (get_or paths.remaining j 0 + m) s.place.k 0
  sum-coded {m} q e h = let one : m ≤ 1 = rw e (nz-le q) in record { some = h; left = omega (arith, K.left j J, one); coded = K.coded; flag = omega arith }

pub distortion_is : (s : Spot) {distortion : List Float} {i : ℕ} → Pickable s.candidates → Each (distortion_at s.place) s.candidates distortion → i < length s.candidates
    → get_or distortion i nan ≡ distortion_at s.place (read s i)
distortion_is s {distortion} {i} U D I = D.at i I ∙ ap (distortion_at s.place) (sym (pickable-back U i I))

-- ---- the loops
pub candidates-length : {book : Book} {s : Spot} {q : Position} → Stands book s q → length q.candidates ≡ length s.candidates
candidates-length S = ap length S.candidates_are

module _ {xs : List Path} {j n : ℕ} {first second : Float} (P : PathIs xs j n first second) where
  pub leads-zero : {r : ℕ} → n ≡ r → Leads xs j 0 first r
  leads-zero e = record { here = P.here; remaining_is = add-zero _ ∙ P.remaining_is ∙ e; tail_is = P.first_is }

  pub leads_one : {r : ℕ} → n + 1 ≡ r → Leads xs j 1 second r
  leads_one e = record { here = P.here; remaining_is = ap (λ (k : ℕ). k + 1) P.remaining_is ∙ e; tail_is = P.second_is }

  -- path j leads elsewhere
  pub path-past : {q : Position} {ws : List Way} {e : Entry} → (n ≡ e.remaining → ⊥) → (n + 1 ≡ e.remaining → ⊥) → BothOf q xs ws e → BothOf q xs (ws ++ ways_of (get_or xs j no_path) q.candidates) e
  path-past own next w = both-past (get_or xs j no_path) (λ h. own (sym P.remaining_is ∙ h)) (λ h. next (omega (arith, h, P.remaining_is))) w

module _ {xs : List Path} {paths : Paths} (W : PathsFor xs paths) {j : ℕ} (J : j < paths.count) where
  pub path-here : j < length xs
  path-here = rw W.count_is J

  pub path_is : PathIs xs j (get_or paths.remaining j 0) (get_or paths.costs (2 * j) nan) (get_or paths.costs (2 * j + 1) nan)
  path_is =
      record {
        here = path-here;
        remaining_is = sym (W.remaining_is j path-here);
        first_is = ap (λ (k : ℕ). get_or paths.costs k nan) (sym (add-zero (2 * j))) ∙ W.cost_is j 0 path-here (omega arith);
        second_is = W.cost_is j 1 path-here (omega arith);
      }

  pub path-count : (m : ℕ) → (get_or xs j no_path).remaining + m ≡ get_or paths.remaining j 0 + m
  path-count m = ap (λ (k : ℕ). k + m) (sym (W.remaining_is j path-here))

  pub path-tail : {m : ℕ} (q : ℤ) → m ≡ nz q → get_or paths.costs (2 * j + m) nan ≡ (get_or xs j no_path).cost m
  path-tail {m} q e = W.cost_is j m path-here (rw e (nz-le q))

module _ {q : Position} {xs : List Path} {paths : Paths} {e : Entry} (W : PathsFor xs paths) where
  pub paths-more : {j : ℕ} → j < paths.count → BothOf q xs (ways (take j xs) q.candidates ++ ways_of (get_or xs j no_path) q.candidates) e → BothOf q xs (ways (take (j + 1) xs) q.candidates) e
  paths-more {j} J w = subst (λ (ws : List Way). BothOf q xs ws e) (paths-next xs q.candidates j (rw W.count_is J)) w

  pub paths-all : {j n : ℕ} → j ≡ paths.count → e.remaining ≡ n → BothOf q xs (ways (take j xs) q.candidates) e → EntryIs q xs (merged q (ways xs q.candidates) n) e
  paths-all {j} last r w = both-merged r (subst (λ (us : List Path). BothOf q xs (ways us q.candidates) e) (take_all j xs (omega (arith, W.count_is, last))) w)

module _ {book : Book} {s : Spot} {q : Position} {xs : List Path} (ws : List Way) (x : Path) {e : Entry} {i : ℕ} (S : Stands book s q) where
  pub candidates-more : i < length s.candidates → BothOf q xs ((ws ++ ways_of x (take i q.candidates)) ++ (record { path = x; level = get_or q.candidates i (pos 0) } ∷ [])) e → BothOf q xs (ws ++ ways_of x (take (i + 1) q.candidates)) e
  candidates-more I w = subst (λ (us : List Way). BothOf q xs us e) (ways_next ws x q.candidates i (rw (candidates-length S) I)) w

  pub candidates-all : i ≡ length s.candidates → BothOf q xs (ws ++ ways_of x (take i q.candidates)) e → BothOf q xs (ws ++ ways_of x q.candidates) e
  candidates-all last w = subst (λ (cs : List ℤ). BothOf q xs (ws ++ ways_of x cs) e) (take_all i q.candidates (omega (arith, candidates-length S, last))) w
