-- The settled blocks of a channel are the first of those that the list of that channel's blocks alone settles, for rooms of the same lengths. Assumes nothing.
use mathlib.Core.Path.{◌≡◌, refl, sym, ap, ap₂, ◌∙◌}
use mathlib.Core.Bool.{Bool, true, false}
use mathlib.Core.List.{List, [], ◌∷◌, ◌++◌}
use Prim.Native.Nat.{ℕ, ◌≤◌}
use native.Mathlib.Omega.{arith}
use borrow.Author.Tests.{le-leb}
use lib.Dec.{eqb, leb}
use lib.ListN.{length, take, drop, length-append}
use lib.Seq.{take_at, drop_at, length-take-le}
use Rattle.block.specs.Outcome.{Result}
use Rattle.group_cells.specs.Cells.{Counted, counted_of}
use Rattle.group_cells.proofs.Cells.{predicted-alone}
use Rattle.group_list.specs.Channel.{of_channel}
use Rattle.group_list.specs.Heads.{Head, covered}
use Rattle.prices.specs.Book.{Book}
use Rattle.searches.specs.declared.Search.{Search}
use Rattle.weights.specs.Window.{window_of}
use Rattle.group_run.specs.Block.{Numbers, Room, room_of, lent_with, size, enough, rest, block_at, searched, settles, numbers_of}
use Rattle.group_run.specs.Run.{Done, done_with, counted, run}
use Rattle.group_run.specs.Demand.{SameLengths, done_of, Prefix}
use Rattle.group_run.proofs.Outcomes.{lengths-kept, answers-alike}
use Rattle.group_run.proofs.Running.{Enough, enough-of}

pub same-sym : {r r' : Room} → SameLengths r r' → SameLengths r' r
same-sym e = record { choices = sym e.choices; first = sym e.first; second = sym e.second }

pub same-trans : {r r' r'' : Room} → SameLengths r r' → SameLengths r' r'' → SameLengths r r''
same-trans e f = record { choices = e.choices ∙ f.choices; first = e.first ∙ f.first; second = e.second ∙ f.second }

-- ---- a block's numbers, with others behind them
abbrev joined : Head → Numbers → Numbers → Numbers
joined h g later =
    record {
      scans = take (size h) g.scans ++ later.scans;
      sources = take (size h) g.sources ++ later.sources;
      inverses = take (size h) g.inverses ++ later.inverses;
      levels = take (size h) g.levels ++ later.levels;
    }

take-joined : {A : Type 0} (n : ℕ) (xs ys : List A) → n ≤ length xs → take n (take n xs ++ ys) ≡ take n xs
take-joined n xs ys k = take_at (take n xs) ys n (length-take-le n xs k)

drop-joined : {A : Type 0} (n : ℕ) (xs ys : List A) → n ≤ length xs → drop n (take n xs ++ ys) ≡ ys
drop-joined n xs ys k = drop_at (take n xs) ys n (length-take-le n xs k)

long-joined : {A : Type 0} (n : ℕ) (xs ys : List A) → n ≤ length xs → leb n (length (take n xs ++ ys)) ≡ true
long-joined n xs ys k = le-leb n (length (take n xs ++ ys)) (omega (arith, length-append (take n xs) ys, length-take-le n xs k))

module _ (h : Head) (g later : Numbers) (k : Enough h g) where
  enough-joined : enough h (joined h g later) ≡ true
  unfolding enough
  enough-joined = rw (long-joined (size h) g.scans later.scans k.scans, long-joined (size h) g.sources later.sources k.sources, long-joined (size h) g.inverses later.inverses k.inverses, long-joined (size h) g.levels later.levels k.levels)

  rest-joined : rest h (joined h g later) ≡ later
  unfolding rest
  rest-joined = rw (drop-joined (size h) g.scans later.scans k.scans, drop-joined (size h) g.sources later.sources k.sources, drop-joined (size h) g.inverses later.inverses k.inverses, drop-joined (size h) g.levels later.levels k.levels)

  levels-joined : take (size h) (joined h g later).levels ≡ take (size h) g.levels
  levels-joined = take-joined (size h) g.levels later.levels k.levels

  block-joined : (channel : ℕ) (done : List Counted) → eqb channel h.channel ≡ true → block_at (counted_of channel done) h (joined h g later) ≡ block_at done h g
  unfolding block_at
  block-joined channel done e =
      rw (predicted-alone channel done h e, take-joined (size h) g.scans later.scans k.scans, take-joined (size h) g.sources later.sources k.sources, take-joined (size h) g.inverses later.inverses k.inverses, take-joined (size h) g.levels later.levels k.levels)

-- what is searched is the same, the room being as long
module _ (s : Search) (book : Book) (channel : ℕ) (done : List Counted) (h : Head) (g later : Numbers) (k : Enough h g) (e : eqb channel h.channel ≡ true) (room room' : Room) (l : SameLengths room room') where
  searched-alone : ((searched s book done h g room).answer ≡ (searched s book (counted_of channel done) h (joined h g later) room').answer)
      × ((searched s book done h g room).lent.levels ≡ (searched s book (counted_of channel done) h (joined h g later) room').lent.levels)
  unfolding searched
  searched-alone =
      rw (block-joined h g later k channel done e, levels-joined h g later k)
      (answers-alike h.half_width (window_of (covered h)) book (block_at done h g) s (lent_with (take (size h) g.levels) room) (lent_with (take (size h) g.levels) room') refl l)

  done-alone : done_with h (block_at (counted_of channel done) h (joined h g later)) (searched s book (counted_of channel done) h (joined h g later) room') ≡ done_with h (block_at done h g) (searched s book done h g room)
  done-alone = rw (block-joined h g later k channel done e, searched-alone.0, searched-alone.1)

searched-lengths : (s : Search) (book : Book) (done : List Counted) (h : Head) (g : Numbers) (room : Room) → SameLengths room (room_of (searched s book done h g room).lent)
unfolding searched
searched-lengths s book done h g room = lengths-kept h.half_width (window_of (covered h)) book (block_at done h g) s (lent_with (take (size h) g.levels) room)

-- ---- the list
-- a block that is settled
run-settles : (s : Search) (book : Book) (done : List Counted) (h : Head) (hs : List Head) (g : Numbers) (room : Room) → enough h g ≡ true → settles (searched s book done h g room).answer ≡ true
    → (run s book done (h ∷ hs) g room).settled
    ≡ done_with h (block_at done h g) (searched s book done h g room)
    ∷ (run s book (counted (done_with h (block_at done h g) (searched s book done h g room)) ∷ done) hs (rest h g) (room_of (searched s book done h g room).lent)).settled
unfolding run
run-settles s book done h hs g room e k = rw (e, k)

-- .. is settled alike by the list of its channel's blocks
run_alone : (s : Search) (book : Book) (channel : ℕ) (done : List Counted) (h : Head) (hs : List Head) (g later : Numbers) → Enough h g → eqb channel h.channel ≡ true
    → (room room' : Room) → SameLengths room room' → settles (searched s book done h g room).answer ≡ true
    → (run s book (counted_of channel done) (h ∷ of_channel channel hs) (joined h g later) room').settled
    ≡ done_with h (block_at done h g) (searched s book done h g room)
    ∷ (run s book (counted (done_with h (block_at done h g) (searched s book done h g room)) ∷ counted_of channel done) (of_channel channel hs) later (room_of (searched s book (counted_of channel done) h (joined h g later) room').lent)).settled
run_alone s book channel done h hs g later k e room room' l f =
    let found = searched s book (counted_of channel done) h (joined h g later) room' in
    let settled : settles found.answer ≡ true = ap settles (sym (searched-alone s book channel done h g later k e room room' l).0) ∙ f in
    run-settles s book (counted_of channel done) h (of_channel channel hs) (joined h g later) room' (enough-joined h g later k) settled
    ∙ ap₂ (λ (d : Done) (n : Numbers). d ∷ (run s book (counted d ∷ counted_of channel done) (of_channel channel hs) n (room_of found.lent)).settled) (done-alone s book channel done h g later k e room room' l) (rest-joined h g later k)

-- .. or is not
run_short : (s : Search) (book : Book) (done : List Counted) (h : Head) (hs : List Head) (g : Numbers) (room : Room) → enough h g ≡ false → (run s book done (h ∷ hs) g room).settled ≡ []
unfolding run
run_short s book done h hs g room e = rw e

run-stops : (s : Search) (book : Book) (done : List Counted) (h : Head) (hs : List Head) (g : Numbers) (room : Room) → enough h g ≡ true → settles (searched s book done h g room).answer ≡ false
    → (run s book done (h ∷ hs) g room).settled ≡ []
unfolding run
run-stops s book done h hs g room e k = rw (e, k)

module _ (channel : ℕ) (h : Head) (hs : List Head) (g : Numbers) (d : Done) (ds : List Done) (c : Counted) (cs : List Counted) where
  module _ (e : eqb channel h.channel ≡ true) where
    own-heads : of_channel channel (h ∷ hs) ≡ h ∷ of_channel channel hs
    unfolding of_channel
    own-heads = rw e

    own-numbers : numbers_of channel (h ∷ hs) g ≡ joined h g (numbers_of channel hs (rest h g))
    unfolding numbers_of
    own-numbers = rw e

    own-done : d.head ≡ h → done_of channel (d ∷ ds) ≡ d ∷ done_of channel ds
    unfolding done_of
    own-done k = rw (k, e)

    own-counted : c.head ≡ h → counted_of channel (c ∷ cs) ≡ c ∷ counted_of channel cs
    unfolding counted_of
    own-counted k = rw (k, e)

  module _ (e : eqb channel h.channel ≡ false) where
    other-heads : of_channel channel (h ∷ hs) ≡ of_channel channel hs
    unfolding of_channel
    other-heads = rw e

    other-numbers : numbers_of channel (h ∷ hs) g ≡ numbers_of channel hs (rest h g)
    unfolding numbers_of
    other-numbers = rw e

    other-done : d.head ≡ h → done_of channel (d ∷ ds) ≡ done_of channel ds
    unfolding done_of
    other-done k = rw (k, e)

    other-counted : c.head ≡ h → counted_of channel (c ∷ cs) ≡ counted_of channel cs
    unfolding counted_of
    other-counted k = rw (k, e)

prefix-cons : (d : Done) (xs ys : List Done) → Prefix xs ys → Prefix (d ∷ xs) (d ∷ ys)
prefix-cons d xs ys p = (p.0, ap (λ (zs : List Done). d ∷ zs) p.1)

module _ (s : Search) (book : Book) (channel : ℕ) where
  pub alone : (done : List Counted) (hs : List Head) (g : Numbers) (room room' : Room) → SameLengths room room'
      → Prefix (done_of channel (run s book done hs g room).settled) (run s book (counted_of channel done) (of_channel channel hs) (numbers_of channel hs g) room').settled
  unfolding done_of
  alone done [] g room room' l = ((run s book (counted_of channel done) (of_channel channel []) (numbers_of channel [] g) room').settled, unfold run in refl)
  alone done (h ∷ hs) g room room' l =
      let found = searched s book done h g room in
      let d = done_with h (block_at done h g) found in
      go (enough h g) refl (settles found.answer) refl (eqb channel h.channel) refl (λ room'' l''. alone (counted d ∷ done) hs (rest h g) (room_of found.lent) room'' l'')
    where
      found : Result
      found = searched s book done h g room

      d : Done
      d = done_with h (block_at done h g) found

      later : List Done
      later = (run s book (counted d ∷ done) hs (rest h g) (room_of found.lent)).settled

      here : Numbers
      here = joined h g (numbers_of channel hs (rest h g))

      alike : SameLengths (room_of found.lent) room'
      alike = same-trans (same-sym (searched-lengths s book done h g room)) l

      go : (t : Bool) → enough h g ≡ t → (u : Bool) → settles found.answer ≡ u → (v : Bool) → eqb channel h.channel ≡ v
          → ((room'' : Room) → SameLengths (room_of found.lent) room'' → Prefix (done_of channel later) (run s book (counted_of channel (counted d ∷ done)) (of_channel channel hs) (numbers_of channel hs (rest h g)) room'').settled)
          → Prefix (done_of channel (run s book done (h ∷ hs) g room).settled) (run s book (counted_of channel done) (of_channel channel (h ∷ hs)) (numbers_of channel (h ∷ hs) g) room').settled
      go false e u f v k ih = rw (run_short s book done h hs g room e) (_, refl)
      go true e false f v k ih = rw (run-stops s book done h hs g room e f) (_, refl)
      go true e true f false k ih =
          rw (run-settles s book done h hs g room e f, other-done channel h hs g d later (counted d) done k refl, other-heads channel h hs g d later (counted d) done k, other-numbers channel h hs g d later (counted d) done k)
          (rw (other-counted channel h hs g d later (counted d) done k refl) at (ih room' alike))
      go true e true f true k ih =
          let room'' = room_of (searched s book (counted_of channel done) h here room').lent in
          rw (run-settles s book done h hs g room e f, own-done channel h hs g d later (counted d) done k refl, own-heads channel h hs g d later (counted d) done k, own-numbers channel h hs g d later (counted d) done k, run_alone s book channel done h hs g (numbers_of channel hs (rest h g)) (enough-of h g e) k room room' l f)
          (prefix-cons d (done_of channel later) (run s book (counted d ∷ counted_of channel done) (of_channel channel hs) (numbers_of channel hs (rest h g)) room'').settled
          (rw (own-counted channel h hs g d later (counted d) done k refl) at (ih room'' (same-trans alike (searched-lengths s book (counted_of channel done) h here room')))))
