-- What the loop over a list keeps, and how it ends. Assumes nothing.
use mathlib.Core.Path.{◌≡◌, sym, ap, ◌∙◌, subst, subst⁻¹}
use mathlib.Core.Bool.{Bool, true, false, ◌&&◌}
use mathlib.Core.List.{List, [], ◌∷◌}
use Prim.Native.Nat.{ℕ, ◌+◌, ◌-◌, ◌≤◌, ◌<◌}
use native.Mathlib.Omega.{arith}
use lib.Dec.{leb}
use lib.IntN.{ℤ}
use lib.ListN.{length, length-drop}
use lib.Ieee.{Float}
use Rattle.block.specs.Answer.{Refused}
use Rattle.block.specs.Outcome.{Result}
use Rattle.group_block.specs.Part.{in_place, numbers_from, Stepped}
use Rattle.group_cells.specs.Cells.{Counted}
use Rattle.group_cells.specs.Grid.{Grid}
use Rattle.group_cells.proofs.Few.{few-blocks}
use Rattle.group_list.specs.Checks.{list_refusal}
use Rattle.group_list.specs.Heads.{head_at, heads_of, blocks_in}
use Rattle.group_list.proofs.Channel.{heads-pass, list-passes}
use Rattle.group_list.proofs.Order.{blocks-number}
use Rattle.group_run.specs.Block.{Numbers, Room, room_of, lent_with, size, enough, searched, settles, count_in, refusal_in}
use Rattle.group_run.specs.Group.{Settled, Stopped}
use Rattle.group_run.proofs.Running.{enough-of}
use Rattle.prices.specs.Book.{Book}
use Rattle.searches.specs.declared.Search.{Search}
use Rattle.group_calls.specs.Ran.{Ran}
use Rattle.group_calls.proofs.Loop.{SoFar, so-far-none, so-far-all, so-far-short, so-far-stops, so_far_more}

-- ---- what a list that passed is known to be
module _ (words : List ℕ) (reals : List Float) (none : list_refusal words reals ≡ 0) where
  pub few : blocks_in words ≤ 3072
  few = subst (λ (n : ℕ). n ≤ 3072) (blocks-number words reals) (few-blocks (heads_of words reals) (heads-pass (heads_of words reals) (list-passes words reals none).1))

-- ---- the loop
module _ (s : Search) (book : Book) (words : List ℕ) (reals : List Float) (g : Numbers) (room₀ : Room) where
  -- before block i, whose numbers start at `at`
  pub record Looping (i at : ℕ) (levels : List ℤ) (room : Room) (cells : List ℕ) : Type 0 where
    pub done : List Counted
    pub so_far : SoFar s book words reals g room₀ done i at levels room
    pub grid : Grid done cells
    pub upto : i ≤ blocks_in words
    pub in-scans : at ≤ length g.scans
    pub in-sources : at ≤ length g.sources
    pub in-inverses : at ≤ length g.inverses

  pub looping-none : {cells : List ℕ} → Grid [] cells → Looping 0 0 g.levels room₀ cells
  looping-none k =
      record { done = []; so_far = so-far-none s book words reals g room₀; grid = k; upto = omega arith; in-scans = omega arith; in-sources = omega arith; in-inverses = omega arith }

  module _ {i at : ℕ} {levels : List ℤ} {room : Room} {cells : List ℕ} (L : Looping i at levels room cells) where
    pub looping-all : (i < blocks_in words → ⊥) → Ran s book words reals g room₀ (Settled i) (lent_with levels room)
    looping-all h =
        let e = so-far-all s book words reals g room₀ L.done i at levels room L.so_far (omega (arith, h)) in
        record { answer_is = e.0; lent_is = e.1 }

    -- what the code tests of check 8
    tested : (t : Bool) {n : ℕ} → n ≡ size (head_at words reals i)
        → t ≡ (leb n (length g.scans - at) && (leb n (length g.sources - at) && (leb n (length g.inverses - at) && leb n (length levels - at))))
        → t ≡ enough (head_at words reals i) (numbers_from g at levels)
    unfolding enough
    tested t e f = rw (length-drop at g.scans, length-drop at g.sources, length-drop at g.inverses, length-drop at levels, ← e) f

    module _ (more : i < blocks_in words) {n : ℕ} (e : n ≡ size (head_at words reals i)) {t : Bool}
        (f : t ≡ (leb n (length g.scans - at) && (leb n (length g.sources - at) && (leb n (length g.inverses - at) && leb n (length levels - at))))) where
      pub looping-short : t ≡ false → Ran s book words reals g room₀ (Stopped 8 i) (lent_with levels room)
      looping-short off =
          let k = so-far-short s book words reals g room₀ L.done i at levels room L.so_far more (sym (tested t e f) ∙ off) in
          record { answer_is = k.0; lent_is = k.1 }

      module _ (yes : t ≡ true) where
        is-enough : enough (head_at words reals i) (numbers_from g at levels) ≡ true
        is-enough = sym (tested t e f) ∙ yes

        -- the numbers of block i lie within the lists
        pub inside : (at + n ≤ length g.scans) × ((at + n ≤ length g.sources) × ((at + n ≤ length g.inverses) × (at + n ≤ length levels)))
        inside =
            let k = enough-of (head_at words reals i) (numbers_from g at levels) is-enough in (
              omega (arith, e, k.scans, length-drop at g.scans, L.in-scans),
              (omega (arith, e, k.sources, length-drop at g.sources, L.in-sources), (omega (arith, e, k.inverses, length-drop at g.inverses, L.in-inverses), omega (arith, e, k.levels, length-drop at levels, L.so_far.within))),
            )

        module _ {after : Result} {cells' : List ℕ} (S : Stepped s book (head_at words reals i) g at levels room cells after cells') where
          found : Result
          found = searched s book L.done (head_at words reals i) (numbers_from g at levels) room

          found-is : after ≡ in_place at (size (head_at words reals i)) levels found
          unfolding found
          found-is = S.found L.done L.grid

          pub looping-stops : settles after.answer ≡ false → Ran s book words reals g room₀ (Stopped (refusal_in after.answer) i) after.lent
          looping-stops =
              subst⁻¹ (λ (r : Result). settles r.answer ≡ false → Ran s book words reals g room₀ (Stopped (refusal_in r.answer) i) r.lent) found-is
              (unfold found in
              λ off.
              let k = so-far-stops s book words reals g room₀ L.done i at levels room L.so_far more is-enough off in
              record { answer_is = k.0; lent_is = k.1 })

          pub looping-refused : {refusal settled : ℕ} → after.answer ≡ Refused refusal → settled ≡ i → Ran s book words reals g room₀ (Stopped refusal settled) after.lent
          unfolding settles refusal_in
          looping-refused refused j = rw (j, ap refusal_in (sym refused)) (looping-stops (ap settles refused))

          pub looping-more : settles after.answer ≡ true → Looping (i + 1) (at + n) after.lent.levels (room_of after.lent) cells'
          looping-more yes' =
              subst⁻¹ (λ (r : Result). settles r.answer ≡ true → Grid (record { head = head_at words reals i; count = count_in r.answer } ∷ L.done) cells' → Looping (i + 1) (at + n) r.lent.levels (room_of r.lent) cells') found-is
              (unfold found in
              λ k grid.
              record {
                done = record { head = head_at words reals i; count = count_in (searched s book L.done (head_at words reals i) (numbers_from g at levels) room).answer } ∷ L.done;
                so_far = rw e (so_far_more s book words reals g room₀ L.done i at levels room L.so_far more is-enough k);
                grid = grid;
                upto = omega (arith, more);
                in-scans = inside.0;
                in-sources = inside.1.0;
                in-inverses = inside.1.1.0;
              })
              yes' (S.wrote L.done L.grid yes')
