-- What a list settles meets its search's rule, block by block; the levels that it leaves are those of the settled blocks and, behind them, the input's. Assumes nothing.
use mathlib.Core.Path.{◌≡◌, refl, sym, ◌∙◌}
use mathlib.Core.Bool.{Bool, true, false, cond, ◌&&◌, true≢false}
use mathlib.Core.List.{List, [], ◌∷◌, ◌++◌, append_assoc}
use Prim.Native.Nat.{ℕ, suc, ◌+◌, ◌*◌, ◌≤◌}
use native.Mathlib.Omega.{arith}
use borrow.Author.Tests.{leb-true}
use lib.Dec.{leb}
use lib.ListN.{length, take, drop, length-append, take-append-drop}
use lib.Seq.{drop-drop, length-take-le}
use Rattle.block.specs.Block as Block
use Rattle.block.specs.Block.{Block}
use Rattle.block.specs.Outcome.{Result}
use Rattle.block.specs.Answer.{Answer}
use Rattle.block.specs.Answer.{Cost, Count, Refused}
use Rattle.group_cells.specs.Cells.{Counted, Countable, AllCountable}
use Rattle.group_cells.proofs.Cells.{predicted-most, per-block-most}
use Rattle.group_list.specs.Checks.{in_order, sided}
use Rattle.group_list.specs.Heads.{Head, covered}
use Rattle.group_list.proofs.Sides.{sides-of}
use Rattle.prices.specs.Book.{Book}
use Rattle.laws.proofs.Tests.{and_left, and_right}
use Rattle.searches.specs.Outcome.{Demanded}
use Rattle.searches.specs.declared.Search.{Search}
use Rattle.weights.specs.Window.{window_of}
use Rattle.group_run.specs.Block.{Numbers, Room, room_of, lent_with, size, enough, rest, block_at, searched, settles, count_in, refusal_in}
use Rattle.group_run.specs.Run.{Done, done_with, counted, Run, ended, followed, run}
use Rattle.group_run.specs.Demand.{EachRuled, EachSmall, laid, settled_in}
use Rattle.group_run.specs.Group.{Stopped}
use Rattle.group_run.proofs.Outcomes.{meant, count-within, levels-length}

-- the four lengths that check 8 goes by
pub record Enough (h : Head) (g : Numbers) : Type 0 where
  pub scans : size h ≤ length g.scans
  pub sources : size h ≤ length g.sources
  pub inverses : size h ≤ length g.inverses
  pub levels : size h ≤ length g.levels

pub enough-of : (h : Head) (g : Numbers) → enough h g ≡ true → Enough h g
unfolding enough
enough-of h g e =
    let a = leb (size h) (length g.scans) in
    let b = leb (size h) (length g.sources) in
    let c = leb (size h) (length g.inverses) in
    let d = leb (size h) (length g.levels) in
    let bcd = and_right a (b && (c && d)) e in
    let cd = and_right b (c && d) bcd in
    record {
      scans = leb-true _ _ (and_left a (b && (c && d)) e);
      sources = leb-true _ _ (and_left b (c && d) bcd);
      inverses = leb-true _ _ (and_left c d cd);
      levels = leb-true _ _ (and_right c d cd);
    }

by-refusal : {X : Type 0} (answer : Answer) → settles answer ≡ false → ((n : ℕ) → answer ≡ Refused n → X) → X
unfolding settles
by-refusal (Cost x n) k f = absurd (true≢false k)
by-refusal (Count n) k f = absurd (true≢false k)
by-refusal (Refused n) k f = f n refl

-- ---- one block
module _ (s : Search) (book : Book) (done : List Counted) (h : Head) (g : Numbers) (room : Room) where
  pub searched-means : Demanded h.half_width (window_of (covered h)) s book (block_at done h g) (lent_with (block_at done h g).levels room) (searched s book done h g room)
  unfolding searched block_at covered Block.covered
  searched-means = (meant h.half_width book (block_at done h g) (lent_with (take (size h) g.levels) room) refl s).demanded

  pub searched-keeps : settles (searched s book done h g room).answer ≡ false → (searched s book done h g room).lent.levels ≡ take (size h) g.levels
  unfolding searched block_at covered Block.covered
  searched-keeps e = by-refusal (searched s book done h g room).answer e (meant h.half_width book (block_at done h g) (lent_with (take (size h) g.levels) room) refl s).keeps

  pub searched-few : count_in (searched s book done h g room).answer ≤ 63 * covered h
  unfolding searched block_at covered Block.covered
  searched-few = count-within h.half_width book (block_at done h g) (lent_with (take (size h) g.levels) room) refl s

  pub searched-length : length (searched s book done h g room).lent.levels ≡ length (take (size h) g.levels)
  unfolding searched block_at
  searched-length = levels-length h.half_width (window_of (covered h)) book (block_at done h g) (lent_with (take (size h) g.levels) room) s refl

-- ---- the list
pub each-ruled : (s : Search) (book : Book) (done : List Counted) (hs : List Head) (g : Numbers) (room : Room) → EachRuled s book done hs g room (run s book done hs g room).settled
unfolding run
each-ruled s book done [] g room = tt
each-ruled s book done (h ∷ hs) g room =
    let found = searched s book done h g room in
    let d = done_with h (block_at done h g) found in
    go (enough h g) (settles found.answer) refl (each-ruled s book (counted d ∷ done) hs (rest h g) (room_of found.lent))
  where
    found : Result
    found = searched s book done h g room

    d : Done
    d = done_with h (block_at done h g) found

    later : Run
    later = run s book (counted d ∷ done) hs (rest h g) (room_of found.lent)

    go : (t u : Bool) → settles found.answer ≡ u → EachRuled s book (counted d ∷ done) hs (rest h g) (room_of found.lent) later.settled
        → EachRuled s book done (h ∷ hs) g room
        (cond t
        (cond u (followed d later) (ended (Stopped (refusal_in found.answer) (length done)) (found.lent.levels ++ drop (size h) g.levels) (room_of found.lent)))
        (ended (Stopped 8 (length done)) g.levels room)).settled
    go false u e ih = tt
    go true false e ih = tt
    go true true e ih = (record { head_is = refl; block_is = refl; settled = e; demanded = searched-means s book done h g room }, ih)

-- what is left
module _ (s : Search) (book : Book) where
  pub number_is : (done : List Counted) (hs : List Head) (g : Numbers) (room : Room) → settled_in (run s book done hs g room).answer ≡ length done + length (run s book done hs g room).settled
  unfolding run settled_in
  number_is done [] g room = omega arith
  number_is done (h ∷ hs) g room =
      let found = searched s book done h g room in
      let d = done_with h (block_at done h g) found in
      go (enough h g) (settles found.answer) (number_is (counted d ∷ done) hs (rest h g) (room_of found.lent))
    where
      found : Result
      found = searched s book done h g room

      d : Done
      d = done_with h (block_at done h g) found

      later : Run
      later = run s book (counted d ∷ done) hs (rest h g) (room_of found.lent)

      result : Bool → Bool → Run
      result t u =
          cond t
          (cond u (followed d later) (ended (Stopped (refusal_in found.answer) (length done)) (found.lent.levels ++ drop (size h) g.levels) (room_of found.lent)))
          (ended (Stopped 8 (length done)) g.levels room)

      go : (t u : Bool) → settled_in later.answer ≡ suc (length done) + length later.settled → settled_in (result t u).answer ≡ length done + length (result t u).settled
      go false u ih = omega arith
      go true false ih = omega arith
      go true true ih = omega (arith, ih)

  pub levels_are : (done : List Counted) (hs : List Head) (g : Numbers) (room : Room)
      → (run s book done hs g room).lent.levels ≡ laid (run s book done hs g room).settled ++ drop (length (laid (run s book done hs g room).settled)) g.levels
  unfolding run laid rest
  levels_are done [] g room = refl
  levels_are done (h ∷ hs) g room =
      let found = searched s book done h g room in
      let d = done_with h (block_at done h g) found in
      go (enough h g) (settles found.answer) refl refl (levels_are (counted d ∷ done) hs (rest h g) (room_of found.lent))
    where
      found : Result
      found = searched s book done h g room

      d : Done
      d = done_with h (block_at done h g) found

      later : Run
      later = run s book (counted d ∷ done) hs (rest h g) (room_of found.lent)

      result : Bool → Bool → Run
      result t u =
          cond t
          (cond u (followed d later) (ended (Stopped (refusal_in found.answer) (length done)) (found.lent.levels ++ drop (size h) g.levels) (room_of found.lent)))
          (ended (Stopped 8 (length done)) g.levels room)

      go : (t u : Bool) → enough h g ≡ t → settles found.answer ≡ u → later.lent.levels ≡ laid later.settled ++ drop (length (laid later.settled)) (drop (size h) g.levels)
          → (result t u).lent.levels ≡ laid (result t u).settled ++ drop (length (laid (result t u).settled)) g.levels
      go false u e k ih = refl
      go true false e k ih = rw (searched-keeps s book done h g room k) (take-append-drop (size h) g.levels)
      go true true e k ih =
          let own : length found.lent.levels ≡ size h = searched-length s book done h g room ∙ length-take-le (size h) g.levels (enough-of h g e).levels in
          rw ih (rw (length-append, own) (rw (drop-drop) (sym (append_assoc found.lent.levels _ _))))

-- ---- what goes into cells and what is predicted from them
pub each-small : (s : Search) (book : Book) (done : List Counted) (before hs : List Head) (g : Numbers) (room : Room) → in_order sided before hs ≡ true → AllCountable done
    → EachSmall (run s book done hs g room).settled
unfolding run in_order block_at
each-small s book done before [] g room e k = tt
each-small s book done before (h ∷ hs) g room e k =
    let found = searched s book done h g room in
    let d = done_with h (block_at done h g) found in
    go (enough h g) (settles found.answer) (each-small s book (counted d ∷ done) (h ∷ before) hs (rest h g) (room_of found.lent) (and_right (sided before h) _ e) (here, k))
  where
    found : Result
    found = searched s book done h g room

    d : Done
    d = done_with h (block_at done h g) found

    later : Run
    later = run s book (counted d ∷ done) hs (rest h g) (room_of found.lent)

    here : Countable (counted d)
    here = record { some = (sides-of before h (and_left (sided before h) _ e)).some; most = searched-few s book done h g room }

    go : (t u : Bool) → EachSmall later.settled
        → EachSmall
        (cond t
        (cond u (followed d later) (ended (Stopped (refusal_in found.answer) (length done)) (found.lent.levels ++ drop (size h) g.levels) (room_of found.lent)))
        (ended (Stopped 8 (length done)) g.levels room)).settled
    go false u ih = tt
    go true false ih = tt
    go true true ih = (predicted-most done k h, per-block-most (counted d) here, ih)
