-- What a call over a list promises. Assumes nothing.
use mathlib.Core.Path.{◌≡◌, refl, sym, ap, ◌∙◌, subst, subst⁻¹}
use mathlib.Core.Bool.{Bool, true, false, cond}
use mathlib.Core.List.{List, []}
use Prim.Native.Nat.{ℕ, ◌≤◌}
use native.Mathlib.Nat.{zero-add}
use borrow.Author.Tests.{eqb-true, eqb-false, eq-eqb, ne_eqb}
use lib.Dec.{eqb}
use lib.ListN.{length, take}
use lib.Ieee.{Float}
use lib.Seq.{take-append-le}
use Rattle.block.specs.Outcome.{Lent}
use Rattle.group_cells.specs.Cells.{counted_of}
use Rattle.group_list.specs.Channel.{of_channel}
use Rattle.group_list.specs.Checks.{in_order, heads_refusal, whole_blocks, list_refusal}
use Rattle.group_list.specs.Heads.{Head, heads_of, heads_from}
use Rattle.group_list.proofs.Channel.{heads-pass, list-passes, heads-alone}
use Rattle.laws.specs.Refusals.{first_refused}
use Rattle.prices.specs.Book.{Book}
use Rattle.prices.specs.Checks.{book_refusal}
use Rattle.searches.specs.declared.Search.{Search}
use Rattle.group_run.specs.Block.{Numbers, Room, numbers_of}
use Rattle.group_run.specs.Run.{Done, Run, ended, run, group_refusal, group_outcome}
use Rattle.group_run.specs.Demand.{EachRuled, EachSmall, laid, settled_in, Left, SameLengths, done_of, Prefix, Alone, Unaltered, Promised}
use Rattle.group_run.specs.Group.{Group, Settled, Stopped}
use Rattle.group_run.proofs.Running.{each-ruled, each-small, number_is, levels_are}
use Rattle.group_run.proofs.Channels as Channels

-- ---- what is refused before any search
through-group : (book : Book) (words : List ℕ) (reals : List Float) → group_refusal book words reals ≡ 0 → (book_refusal book ≡ 0) × (whole_blocks words reals ≡ true) × (heads_refusal (heads_of words reals) ≡ 0)
unfolding group_refusal
through-group book words reals e = go (eqb (book_refusal book) 0) refl e
  where
    go : (t : Bool) → eqb (book_refusal book) 0 ≡ t → cond t (list_refusal words reals) (book_refusal book) ≡ 0
        → (book_refusal book ≡ 0) × (whole_blocks words reals ≡ true) × (heads_refusal (heads_of words reals) ≡ 0)
    go true k f =
        let w = list-passes words reals f in
        (eqb-true (book_refusal book) 0 k, w.0, w.1)
    go false k f = absurd (eqb-false (book_refusal book) 0 k f)

group-passes : (book : Book) (words : List ℕ) (reals : List Float) → book_refusal book ≡ 0 → whole_blocks words reals ≡ true → heads_refusal (heads_of words reals) ≡ 0 → group_refusal book words reals ≡ 0
unfolding group_refusal list_refusal
group-passes book words reals e w f = rw (eq-eqb (book_refusal book) 0 e, w) f

-- refused so, nothing is settled and nothing changes
pub refused-before : (s : Search) (book : Book) (words : List ℕ) (reals : List Float) (g : Numbers) (room : Room) → (group_refusal book words reals ≡ 0 → ⊥)
    → group_outcome s book words reals g room ≡ ended (Stopped (group_refusal book words reals) 0) g.levels room
unfolding group_outcome
refused-before s book words reals g room k = rw (ne_eqb (group_refusal book words reals) 0 k)

-- refused by none, the list is run
pub runs : (s : Search) (book : Book) (words : List ℕ) (reals : List Float) (g : Numbers) (room : Room) → group_refusal book words reals ≡ 0
    → group_outcome s book words reals g room ≡ run s book [] (heads_of words reals) g room
unfolding group_outcome
runs s book words reals g room k = rw (eq-eqb (group_refusal book words reals) 0 k)

-- an empty list settles 0 and touches nothing
pub empty : (s : Search) (book : Book) (g : Numbers) (room : Room) → book_refusal book ≡ 0 → group_outcome s book [] [] g room ≡ ended (Settled 0) g.levels room
unfolding group_outcome group_refusal list_refusal whole_blocks heads_refusal first_refused in_order heads_from run
empty s book g room e = rw (eq-eqb (book_refusal book) 0 e)

module _ (s : Search) (book : Book) (words : List ℕ) (reals : List Float) (g : Numbers) (room : Room) where
  -- what holds of the run and of a list refused before holds of the outcome
  either_way : (P : Run → Type 0) → (group_refusal book words reals ≡ 0 → P (run s book [] (heads_of words reals) g room)) → P (ended (Stopped (group_refusal book words reals) 0) g.levels room)
      → P (group_outcome s book words reals g room)
  unfolding group_outcome
  either_way P f p = go (eqb (group_refusal book words reals) 0) refl
    where
      go : (t : Bool) → eqb (group_refusal book words reals) 0 ≡ t → P (cond t (run s book [] (heads_of words reals) g room) (ended (Stopped (group_refusal book words reals) 0) g.levels room))
      go true k = f (eqb-true _ 0 k)
      go false k = p

  pub ruled : EachRuled s book [] (heads_of words reals) g room (group_outcome s book words reals g room).settled
  ruled = either_way (λ (r : Run). EachRuled s book [] (heads_of words reals) g room r.settled) (λ e. each-ruled s book [] (heads_of words reals) g room) tt

  pub small : EachSmall (group_outcome s book words reals g room).settled
  small =
      either_way (λ (r : Run). EachSmall r.settled) (λ e. each-small s book [] [] (heads_of words reals) g room (heads-pass (heads_of words reals) (through-group book words reals e).2).sides tt) tt

  pub left : Left g (group_outcome s book words reals g room)
  unfolding laid settled_in
  left =
      either_way (Left g)
      (λ e. record { levels_are = levels_are s book [] (heads_of words reals) g room; number_is = number_is s book [] (heads_of words reals) g room ∙ zero-add _ })
      (record { levels_are = refl; number_is = refl })

  -- the settled blocks of a channel are the first of those that the run over its blocks alone settles
  in-channel : (channel : ℕ) (room' : Room) → SameLengths room room'
      → Prefix (done_of channel (group_outcome s book words reals g room).settled) (run s book [] (of_channel channel (heads_of words reals)) (numbers_of channel (heads_of words reals) g) room').settled
  unfolding done_of counted_of
  in-channel channel room' l =
      either_way (λ (r : Run). Prefix (done_of channel r.settled) (run s book [] (of_channel channel (heads_of words reals)) (numbers_of channel (heads_of words reals) g) room').settled)
      (λ e. Channels.alone s book channel [] (heads_of words reals) g room room' l)
      (_, refl)

  pub alone : Alone s book words reals g room
  unfolding done_of counted_of
  alone channel words' reals' room' w e l =
      either_way (λ (r : Run). Prefix (done_of channel r.settled) (group_outcome s book words' reals' (numbers_of channel (heads_of words reals) g) room').settled)
      (λ k.
      let p = through-group book words reals k in
      let passes : heads_refusal (heads_of words' reals') ≡ 0 = subst⁻¹ (λ (hs : List Head). heads_refusal hs ≡ 0) e (heads-alone channel (heads_of words reals) p.2) in
      subst⁻¹ (λ (r : Run). Prefix (done_of channel (run s book [] (heads_of words reals) g room).settled) r.settled)
      (runs s book words' reals' (numbers_of channel (heads_of words reals) g) room' (group-passes book words' reals' p.0 w passes))
      (subst⁻¹ (λ (hs : List Head). Prefix (done_of channel (run s book [] (heads_of words reals) g room).settled) (run s book [] hs (numbers_of channel (heads_of words reals) g) room').settled) e
      (Channels.alone s book channel [] (heads_of words reals) g room room' l)))
      (_, refl)

take-prefix : (n : ℕ) (xs ys : List Done) → Prefix xs ys → n ≤ length xs → take n xs ≡ take n ys
take-prefix n xs ys p k = sym (ap (take n) p.1 ∙ take-append-le n xs p.0 k)

pub unaltered : (s : Search) (book : Book) (words : List ℕ) (reals : List Float) (g : Numbers) (room : Room) → Unaltered s book words reals g room
unaltered s book words reals g room channel words' reals' g' room' e f l n k k' =
    let one = in-channel s book words reals g room channel room' l in
    let other = in-channel s book words' reals' g' room' channel room' (record { choices = refl; first = refl; second = refl }) in
    take-prefix n _ _ one k
    ∙ sym (take-prefix n _ _ (subst (λ (x : Numbers). Prefix (done_of channel (group_outcome s book words' reals' g' room').settled) (run s book [] (of_channel channel (heads_of words reals)) x room').settled) f (subst (λ (hs : List Head). Prefix (done_of channel (group_outcome s book words' reals' g' room').settled) (run s book [] hs (numbers_of channel (heads_of words' reals') g') room').settled) e other)) k')

-- whatever equals the outcome meets the whole contract
pub promised : (s : Search) (book : Book) (words : List ℕ) (reals : List Float) (g : Numbers) (room : Room) {answer : Group} {after : Lent} → answer ≡ (group_outcome s book words reals g room).answer
    → after ≡ (group_outcome s book words reals g room).lent → Promised s book words reals g room answer after
promised s book words reals g room e f =
    record {
      answer_is = e;
      lent_is = f;
      ruled = ruled s book words reals g room;
      left = left s book words reals g room;
      alone = alone s book words reals g room;
      unaltered = unaltered s book words reals g room;
    }
