-- The list as a loop goes through it: block i, whose numbers start at `at`; what is left to run, behind the levels that are done, is the whole. Assumes nothing.
use mathlib.Core.Path.{◌≡◌, refl, sym, ap, ◌∙◌}
use mathlib.Core.Bool.{true, false}
use mathlib.Core.List.{List, [], ◌∷◌, ◌++◌, append_assoc}
use Prim.Native.Nat.{ℕ, suc, ◌+◌, ◌-◌, ◌≤◌, ◌<◌}
use native.Mathlib.Nat.{sub-zero}
use native.Mathlib.Numerals.{add-one}
use native.Mathlib.Omega.{arith}
use lib.IntN.{ℤ}
use lib.ListN.{length, take, drop, length-append, take-append-drop}
use lib.Ieee.{Float}
use lib.Seq.{drop-drop, drop_at, take_at, length-take-le}
use Rattle.block.specs.Outcome.{Result}
use Rattle.group_cells.specs.Cells.{Counted}
use Rattle.group_block.specs.Part.{numbers_from}
use Rattle.group_list.specs.Heads.{Head, head_at, heads_from, heads_of, blocks_in}
use Rattle.prices.specs.Book.{Book}
use Rattle.searches.specs.declared.Search.{Search}
use Rattle.group_run.specs.Block.{Numbers, Room, room_of, lent_with, size, enough, rest, block_at, searched, settles, refusal_in}
use Rattle.group_run.specs.Run.{Done, done_with, counted, Run, ended, followed, run}
use Rattle.group_run.specs.Group.{Settled, Stopped}
use Rattle.group_run.proofs.Running.{enough-of, searched-length}

-- the levels with those that a search of the n from `at` on left
abbrev pub levels_with : ℕ → ℕ → List ℤ → List ℤ → List ℤ
levels_with at n levels found = take at levels ++ (found ++ drop (at + n) levels)

-- the levels that are done, and those of the block behind them
module _ (at n : ℕ) (levels found : List ℤ) (within : at ≤ length levels) (long : length found ≡ n) where
  front_length : length (take at levels ++ found) ≡ at + n
  front_length = omega (arith, length-append (take at levels) found, length-take-le at levels within, long)

  take-with : take (at + n) (levels_with at n levels found) ≡ take at levels ++ found
  take-with = rw (sym (append_assoc (take at levels) found (drop (at + n) levels))) (take_at (take at levels ++ found) (drop (at + n) levels) (at + n) front_length)

  drop-with : drop (at + n) (levels_with at n levels found) ≡ drop (at + n) levels
  drop-with = rw (sym (append_assoc (take at levels) found (drop (at + n) levels))) (drop_at (take at levels ++ found) (drop (at + n) levels) (at + n) front_length)

  long-with : at + n ≤ length (levels_with at n levels found)
  long-with = rw (sym (append_assoc (take at levels) found (drop (at + n) levels))) (omega (arith, length-append (take at levels ++ found) (drop (at + n) levels), front_length))

module _ (s : Search) (book : Book) (words : List ℕ) (reals : List Float) (g : Numbers) (room₀ : Room) where
  abbrev pub whole : Run
  whole = run s book [] (heads_of words reals) g room₀

  abbrev pub left : List Counted → ℕ → ℕ → List ℤ → Room → Run
  left done i at levels room = run s book done (heads_from words reals i (blocks_in words - i)) (numbers_from g at levels) room

  pub record SoFar (done : List Counted) (i at : ℕ) (levels : List ℤ) (room : Room) : Type 0 where
    pub number : length done ≡ i
    pub within : at ≤ length levels
    pub answer : whole.answer ≡ (left done i at levels room).answer
    pub lent : whole.lent ≡ lent_with (take at levels ++ (left done i at levels room).lent.levels) (room_of (left done i at levels room).lent)

  pub so-far-none : SoFar [] 0 0 g.levels room₀
  so-far-none = record { number = refl; within = omega arith; answer = rw (sub-zero (blocks_in words)); lent = rw (sub-zero (blocks_in words)) }

  module _ (done : List Counted) (i at : ℕ) (levels : List ℤ) (room : Room) (f : SoFar done i at levels room) where
    -- all blocks are settled
    pub so-far-all : blocks_in words ≤ i → (whole.answer ≡ Settled i) × (whole.lent ≡ lent_with levels room)
    unfolding run heads_from
    so-far-all h =
        let n : blocks_in words - i ≡ 0 = omega arith in
        let stop = ap (λ (k : ℕ). run s book done (heads_from words reals i k) (numbers_from g at levels) room) n in (
          f.answer ∙ ap (λ (r : Run). r.answer) stop ∙ ap Settled f.number,
          f.lent ∙ ap (λ (r : Run). lent_with (take at levels ++ r.lent.levels) (room_of r.lent)) stop ∙ ap (λ (x : List ℤ). lent_with x room) (take-append-drop at levels),
        )

    module _ (more : i < blocks_in words) where
      one_more : left done i at levels room ≡ run s book done (head_at words reals i ∷ heads_from words reals (suc i) (blocks_in words - suc i)) (numbers_from g at levels) room
      unfolding heads_from
      one_more =
          let n : blocks_in words - i ≡ suc (blocks_in words - suc i) = omega arith in
          ap (λ (k : ℕ). run s book done (heads_from words reals i k) (numbers_from g at levels) room) n

      -- too few numbers are left
      pub so-far-short : enough (head_at words reals i) (numbers_from g at levels) ≡ false → (whole.answer ≡ Stopped 8 i) × (whole.lent ≡ lent_with levels room)
      unfolding run
      so-far-short e =
          let stop : left done i at levels room ≡ ended (Stopped 8 (length done)) (drop at levels) room = one_more ∙ rw e in (
            f.answer ∙ ap (λ (r : Run). r.answer) stop ∙ ap (Stopped 8) f.number,
            f.lent ∙ ap (λ (r : Run). lent_with (take at levels ++ r.lent.levels) (room_of r.lent)) stop ∙ ap (λ (x : List ℤ). lent_with x room) (take-append-drop at levels),
          )

      module _ (e : enough (head_at words reals i) (numbers_from g at levels) ≡ true) where
        -- the search refuses
        pub so-far-stops : settles (searched s book done (head_at words reals i) (numbers_from g at levels) room).answer ≡ false
            → (whole.answer ≡ Stopped (refusal_in (searched s book done (head_at words reals i) (numbers_from g at levels) room).answer) i)
            × (whole.lent ≡ lent_with (levels_with at (size (head_at words reals i)) levels (searched s book done (head_at words reals i) (numbers_from g at levels) room).lent.levels) (room_of (searched s book done (head_at words reals i) (numbers_from g at levels) room).lent))
        unfolding run
        so-far-stops k =
            let found = searched s book done (head_at words reals i) (numbers_from g at levels) room in
            let n = size (head_at words reals i) in
            let stop : left done i at levels room ≡ ended (Stopped (refusal_in found.answer) (length done)) (found.lent.levels ++ drop n (drop at levels)) (room_of found.lent) = one_more ∙ rw (e, k) in (
              f.answer ∙ ap (λ (r : Run). r.answer) stop ∙ ap (Stopped (refusal_in found.answer)) f.number,
              f.lent ∙ ap (λ (r : Run). lent_with (take at levels ++ r.lent.levels) (room_of r.lent)) stop ∙ ap (λ (x : List ℤ). lent_with (take at levels ++ (found.lent.levels ++ x)) (room_of found.lent)) (drop-drop n at levels),
            )

        -- the block is settled
        pub so_far_more : settles (searched s book done (head_at words reals i) (numbers_from g at levels) room).answer ≡ true
            → SoFar (counted (done_with (head_at words reals i) (block_at done (head_at words reals i) (numbers_from g at levels)) (searched s book done (head_at words reals i) (numbers_from g at levels) room)) ∷ done) (i + 1)
            (at + size (head_at words reals i)) (levels_with at (size (head_at words reals i)) levels (searched s book done (head_at words reals i) (numbers_from g at levels) room).lent.levels)
            (room_of (searched s book done (head_at words reals i) (numbers_from g at levels) room).lent)
        unfolding run rest
        so_far_more k =
            rw (add-one i)
            (record {
              number = ap suc f.number;
              within = long-with at n levels found.lent.levels f.within long;
              answer = f.answer ∙ ap (λ (r : Run). r.answer) step;
              lent =
                  f.lent ∙ ap (λ (r : Run). lent_with (take at levels ++ r.lent.levels) (room_of r.lent)) step
                  ∙ ap (λ (x : List ℤ). lent_with x (room_of later.lent)) (sym (append_assoc (take at levels) found.lent.levels later.lent.levels) ∙ ap (λ (x : List ℤ). x ++ later.lent.levels) (sym (take-with at n levels found.lent.levels f.within long)));
            })
          where
            h : Head
            h = head_at words reals i

            n : ℕ
            n = size h

            found : Result
            found = searched s book done h (numbers_from g at levels) room

            d : Done
            d = done_with h (block_at done h (numbers_from g at levels)) found

            after : List ℤ
            after = levels_with at n levels found.lent.levels

            later : Run
            later = left (counted d ∷ done) (suc i) (at + n) after (room_of found.lent)

            long : length found.lent.levels ≡ n
            long = searched-length s book done h (numbers_from g at levels) room ∙ length-take-le n (drop at levels) (enough-of h (numbers_from g at levels) e).levels

            behind : rest h (numbers_from g at levels) ≡ numbers_from g (at + n) after
            behind = rw (drop-drop n at g.scans, drop-drop n at g.sources, drop-drop n at g.inverses, drop-drop n at levels, drop-with at n levels found.lent.levels f.within long)

            step : left done i at levels room ≡ followed d later
            step =
                one_more
                ∙ (let run_is : run s book done (h ∷ heads_from words reals (suc i) (blocks_in words - suc i)) (numbers_from g at levels) room ≡ followed d (run s book (counted d ∷ done) (heads_from words reals (suc i) (blocks_in words - suc i)) (rest h (numbers_from g at levels)) (room_of found.lent)) = rw (e, k) in
                run_is ∙ ap (λ (x : Numbers). followed d (run s book (counted d ∷ done) (heads_from words reals (suc i) (blocks_in words - suc i)) x (room_of found.lent))) behind)
