-- Tokens put into a store, step by step. Assumes nothing.
use Prim.Native.Nat.{ℕ, ◌+◌, ◌-◌, ◌*◌, ◌<◌, ◌≤◌}
use mathlib.Core.Path.{◌≡◌, refl, sym, ap, ap₂, ◌∙◌}
use mathlib.Core.Bool.{Bool, true, false, cond}
use mathlib.Core.List.{List, [], ◌∷◌, ◌++◌}
use native.Mathlib.Omega.{arith}
use borrow.Author.Tests.{leb-true, leb-false}
use lib.Dec.{leb}
use lib.ListN.{length, get_or, set, take, drop, length-append}
use lib.Seq.{take-length}
use Rattle.store_record.specs.Placed.{placed}
use Rattle.store_record.specs.Runs.{run, runs_from, runs_of, headed, recorded, in_order, others, live, end_of, packed}
use Rattle.store_record.specs.declared.Run.{Run}
use Rattle.store_record.specs.Tokens.{joined}
use Rattle.store_record.proofs.Headed.{headed-count, headed-runs, headed-set, headed-length, headed-more, headed-over}
use Rattle.store_record.proofs.Order.{order-others, order-end, number-others, out, fewer, packed-length}
use Rattle.store_room.specs.Compacted.{Compacted}
use Rattle.store_passes.specs.Found.{Removed}
use Rattle.store_map.specs.Store.{store_of, right, Space, space, stored}
use Rattle.store_map.proofs.Stores.{Passed, passed, Spaced, spaced}
use Rattle.store_hold.specs.Made.{Made}

-- the runs of the space are as many as were given
space-length : (room : List ℕ) (rs : List Run) (n : ℕ) → length (space room rs n).runs ≡ length rs
unfolding space
space-length room rs n = go (leb (end_of 0 rs + n) (length room))
  where
    go : (b : Bool)
        → length (cond {A = Space} b (record { room = room; runs = rs; at = end_of 0 rs }) (record { room = placed 0 (joined room rs) room; runs = packed 0 rs; at = live rs })).runs ≡ length rs
    go true = refl
    go false = packed-length 0 rs

module _ (room r : List ℕ) (k : ℕ) (ts : List ℕ) (ok : right (store_of room r) ≡ true) (low : k < 1024) (h : live (others k (runs_of r)) + length ts ≤ length room) where
  p : Passed (length room) r
  p = passed (length room) r ok

  pub pre-long : length r ≡ 3073
  pre-long = p.long

  pub pre-few : get_or r 0 0 ≤ 1024
  pre-few = p.few

  rest : List Run
  rest = others k (runs_of r)

  order : in_order 0 (length room) rest ≡ true
  unfolding rest
  order = order-others k 0 (length room) (runs_of r) p.order

  sp : Space
  sp = space room rest (length ts)

  got : Spaced k room rest (length ts) sp
  unfolding rest sp
  got = spaced k room (others k (runs_of r)) (length ts) order (number-others 1024 k (runs_of r) p.numbers) (out k (runs_of r)) h

  few : length rest < 1024
  unfolding rest
  few = fewer 1024 k (others k (runs_of r)) low (number-others 1024 k (runs_of r) p.numbers) (out k (runs_of r))

  -- the run under k is out
  module _ (r1 : List ℕ) (left : ℕ) (removed : Removed k r (get_or r 0 0) r1 left) where
    count : left ≡ length rest
    unfolding rest runs_of
    count = removed.count

    first : r1 ≡ headed (get_or r 0 0) rest r
    unfolding rest runs_of
    first = removed.runs

    fits : 3 * length rest + 1 ≤ length r
    fits = let l = p.long in let f = few in omega arith

    runs1 : runs_from r1 0 left ≡ rest
    runs1 = rw (first, count) (headed-runs (get_or r 0 0) rest r)

    pub make-asks : (length r1 ≡ 3073) × ((left ≤ 1024) × (in_order 0 (length room) (runs_from r1 0 left) ≡ true))
    make-asks = (rw first (headed-length (get_or r 0 0) rest r fits ∙ p.long), (let c = count in let f = few in omega arith, rw runs1 order))

    pub left-few : left < 1024
    left-few = rw count few

    -- there is place
    module _ (room1 r2 : List ℕ) (at : ℕ) (made : Made room r1 left (length ts) room1 r2 at) where
      record At : Type 0 where
        room' : room1 ≡ sp.room
        place : at ≡ sp.at
        runs : r2 ≡ headed (get_or r 0 0) sp.runs r

      at-space : At
      unfolding sp space
      at-space = go (leb (end_of 0 rest + length ts) (length room)) refl
        where
          go : (b : Bool) → leb (end_of 0 rest + length ts) (length room) ≡ b → At
          go true e =
              let t = made.behind (rw runs1 e) in
              record {
                room' = rw e t.1.0;
                place = rw e (t.0 ∙ ap (end_of 0) runs1);
                runs = rw e (t.1.1 ∙ first);
              }
          go false e =
              let t = made.moved (rw runs1 e) in
              record {
                room' = rw e (t.tokens ∙ ap (λ (l : List Run). placed 0 (joined room l) room) runs1);
                place = rw e (t.end ∙ ap live runs1);
                runs =
                    rw e
                    (t.runs
                    ∙ ap (λ (l : List Run). headed (get_or r1 0 0) (packed 0 l) r1) runs1
                    ∙ ap (λ (l : List ℕ). headed (get_or l 0 0) (packed 0 rest) l) first
                    ∙ ap (λ (n : ℕ). headed n (packed 0 rest) (headed (get_or r 0 0) rest r)) (headed-count (get_or r 0 0) rest r)
                    ∙ headed-over (get_or r 0 0) rest r fits (get_or r 0 0) (packed 0 rest) (packed-length 0 rest));
              }

      pub copy-asks : (0 + length ts ≤ length ts) × (at + length ts ≤ length room1)
      copy-asks =
          let f = got.fits in
          let s = got.size in
          let e = at-space.place in
          (omega arith, rw at-space.room' (omega arith))

      many : length sp.runs ≡ left
      unfolding sp
      many = space-length room rest (length ts) ∙ sym count

      fits' : 3 * length sp.runs + 1 ≤ length r
      fits' = let m = many in let c = count in let l = p.long in let f = few in omega arith

      pub write-asks : 3 * left + 3 < length r2
      write-asks =
          let l = p.long in
          let c = count in
          let f = few in
          rw at-space.runs (rw (headed-length (get_or r 0 0) sp.runs r fits') (omega arith))

      pub held : {room2 r3 : List ℕ} → room2 ≡ placed at (take (length ts) (drop 0 ts)) room1 → r3 ≡ placed (3 * left + 1) (k ∷ at ∷ length ts ∷ []) r2
          → store_of room2 (set r3 0 (left + 1)) ≡ stored (store_of room r) k ts
      unfolding stored recorded sp rest
      held {room2} {r3} er e3 =
          let new = run k sp.at (length ts) in
          let l : length (sp.runs ++ (new ∷ [])) ≡ length sp.runs + 1 = length-append sp.runs (new ∷ []) in
          let m = many in
          ap₂ store_of
          (er ∙ ap₂ (λ (n : ℕ) (l : List ℕ). placed n (take (length ts) (drop 0 ts)) l) at-space.place at-space.room' ∙ ap (λ (t : List ℕ). placed sp.at t sp.room) (take-length ts))
          (ap (λ (l : List ℕ). set l 0 (left + 1))
          (e3
          ∙ ap (λ (n : ℕ). placed (3 * n + 1) (k ∷ at ∷ length ts ∷ []) r2) (sym many)
          ∙ ap₂ (λ (n : ℕ) (l : List ℕ). placed (3 * length sp.runs + 1) (k ∷ n ∷ length ts ∷ []) l) at-space.place at-space.runs
          ∙ headed-more (get_or r 0 0) sp.runs r fits' k sp.at (length ts))
          ∙ headed-set (get_or r 0 0) (left + 1) (sp.runs ++ (new ∷ [])) r
          ∙ ap (λ (n : ℕ). headed n (sp.runs ++ (new ∷ [])) r) (omega arith))

-- ---- make_room

module _ (room r : List ℕ) (count n end : ℕ) (e : end ≡ end_of 0 (runs_from r 0 count)) (l : end ≤ length room) where
  pub behind-made : n ≤ length room - end → Made room r count n room r end
  behind-made h =
      record {
        behind = λ _. (e, (refl, refl));
        moved = λ f. let g = leb-false (end_of 0 (runs_from r 0 count) + n) (length room) f in absurd (omega arith);
      }

  pub moved_made : {room' r' : List ℕ} {top : ℕ} → length room - end < n → Compacted room r count room' r' top → Made room r count n room' r' top
  moved_made h done =
      record {
        behind = λ f. let g = leb-true (end_of 0 (runs_from r 0 count) + n) (length room) f in absurd (omega arith);
        moved = λ _. done;
      }

pub end-within : (room r : List ℕ) (count : ℕ) → in_order 0 (length room) (runs_from r 0 count) ≡ true → end_of 0 (runs_from r 0 count) ≤ length room
end-within room r count o = (order-end 0 (length room) (runs_from r 0 count) (omega arith) o).1
