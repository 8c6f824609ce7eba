-- What put and drop leave passes check 37, and stands for the map after the call. Assumes nothing.
use Prim.Native.Nat.{ℕ, ◌+◌, ◌<◌, ◌≤◌}
use mathlib.Core.Path.{◌≡◌, refl, sym, ap, ap₂, subst, ◌∙◌}
use mathlib.Core.Bool.{Bool, true, false, cond, ◌&&◌}
use mathlib.Core.List.{List, [], ◌∷◌, ◌++◌}
use native.Mathlib.Omega.{arith}
use borrow.Author.Tests.{eqb-true, eq-eqb, leb-true, le-leb}
use lib.Dec.{eqb, leb}
use lib.ListN.{length, get_or, drop, length-append}
use Rattle.laws.proofs.Tests.{and_left, and_right}
use Rattle.store_record.specs.Placed.{placed}
use Rattle.store_record.specs.Runs.{run, runs_from, runs_of, recorded, in_order, numbered, holds, valid_runs, valid_record, others, live, end_of, packed}
use Rattle.store_record.specs.declared.Run.{Run}
use Rattle.store_record.specs.Tokens.{tokens_of, joined}
use Rattle.store_record.proofs.Placed.{placed-length, placed-back}
use Rattle.store_record.proofs.Runs.{runs-length}
use Rattle.store_record.proofs.Headed.{headed-count, headed-runs, headed-length}
use Rattle.store_record.proofs.Order.{order-others, order-more, order-packed, number-others, number_more, number-packed, out, packed-held, packed-end, fewer, others-most}
use Rattle.store_map.specs.Map.{Entry, entry, without}
use Rattle.store_map.specs.Store.{Store, right, Space, space, stored, dropped, entries, map_of}
use Rattle.store_map.proofs.Entries.{entries-others, entries-more, entries-past, entries-packed, joined_length}

-- ---- a record that passes, and a record that was written

pub record Passed (size : ℕ) (r : List ℕ) : Type 0 where
  pub long : length r ≡ 3073
  pub few : get_or r 0 0 ≤ 1024
  pub order : in_order 0 size (runs_of r) ≡ true
  pub numbers : numbered 1024 (runs_of r) ≡ true
  pub count : length (runs_of r) ≡ get_or r 0 0

pub passed : (size : ℕ) (r : List ℕ) → valid_record size r ≡ true → Passed size r
unfolding valid_record valid_runs runs_of
passed size r e =
    let two = and_left (eqb (length r) 3073 && leb (get_or r 0 0) 1024) (in_order 0 size (runs_from r 0 (get_or r 0 0)) && numbered 1024 (runs_from r 0 (get_or r 0 0))) e in
    let rest = and_right (eqb (length r) 3073 && leb (get_or r 0 0) 1024) (in_order 0 size (runs_from r 0 (get_or r 0 0)) && numbered 1024 (runs_from r 0 (get_or r 0 0))) e in
    record {
      long = eqb-true (length r) 3073 (and_left (eqb (length r) 3073) (leb (get_or r 0 0) 1024) two);
      few = leb-true (get_or r 0 0) 1024 (and_right (eqb (length r) 3073) (leb (get_or r 0 0) 1024) two);
      order = and_left (in_order 0 size (runs_from r 0 (get_or r 0 0))) (numbered 1024 (runs_from r 0 (get_or r 0 0))) rest;
      numbers = and_right (in_order 0 size (runs_from r 0 (get_or r 0 0))) (numbered 1024 (runs_from r 0 (get_or r 0 0))) rest;
      count = runs-length r 0 (get_or r 0 0);
    }

pub recorded-runs : (rs : List Run) (r : List ℕ) → runs_of (recorded rs r) ≡ rs
unfolding runs_of recorded
recorded-runs rs r = rw (headed-count (length rs) rs r) (headed-runs (length rs) rs r)

recorded-count : (rs : List Run) (r : List ℕ) → get_or (recorded rs r) 0 0 ≡ length rs
unfolding recorded
recorded-count rs r = headed-count (length rs) rs r

recorded-length : (rs : List Run) (r : List ℕ) → length r ≡ 3073 → length rs ≤ 1024 → length (recorded rs r) ≡ 3073
unfolding recorded
recorded-length rs r l h = headed-length (length rs) rs r (omega arith) ∙ l

recorded-right : (size : ℕ) (rs : List Run) (r : List ℕ) → length r ≡ 3073 → length rs ≤ 1024 → in_order 0 size rs ≡ true → numbered 1024 rs ≡ true → valid_record size (recorded rs r) ≡ true
unfolding valid_record valid_runs
recorded-right size rs r l h o n =
    rw (eq-eqb (length (recorded rs r)) 3073 (recorded-length rs r l h), recorded-count rs r, le-leb (length rs) 1024 h, recorded-runs rs r, o) n

-- ---- drop

module _ (s : Store) (ok : right s ≡ true) (k : ℕ) where
  p : Passed (length s.room) s.rec
  p = passed (length s.room) s.rec ok

  pub drop-map : map_of (dropped s k) ≡ without k (map_of s)
  unfolding map_of dropped
  drop-map = ap (entries s.room) (recorded-runs (others k (runs_of s.rec)) s.rec) ∙ entries-others k s.room (runs_of s.rec)

  pub drop-right : right (dropped s k) ≡ true
  unfolding dropped
  drop-right =
      let a = others-most k (runs_of s.rec) in
      let b = p.count in
      let d = p.few in
      recorded-right (length s.room) (others k (runs_of s.rec)) s.rec p.long (omega arith)
      (order-others k 0 (length s.room) (runs_of s.rec) p.order)
      (number-others 1024 k (runs_of s.rec) p.numbers)

-- ---- place for n tokens

pub record Spaced (k : ℕ) (room : List ℕ) (rs : List Run) (n : ℕ) (sp : Space) : Type 0 where
  pub size : length sp.room ≡ length room
  pub order : in_order 0 (length room) sp.runs ≡ true
  pub behind : end_of 0 sp.runs ≤ sp.at
  pub fits : sp.at + n ≤ length room
  pub numbers : numbered 1024 sp.runs ≡ true
  pub free : holds k sp.runs ≡ false
  pub tokens : entries sp.room sp.runs ≡ entries room rs

pub spaced : (k : ℕ) (room : List ℕ) (rs : List Run) (n : ℕ) → in_order 0 (length room) rs ≡ true → numbered 1024 rs ≡ true → holds k rs ≡ false → live rs + n ≤ length room → Spaced k room rs n (space room rs n)
unfolding space placed
spaced k room rs n o m f h = go (leb (end_of 0 rs + n) (length room)) refl
  where
    go : (b : Bool) → leb (end_of 0 rs + n) (length room) ≡ b
        → Spaced k room rs n (cond b (record { room = room; runs = rs; at = end_of 0 rs }) (record { room = placed 0 (joined room rs) room; runs = packed 0 rs; at = live rs }))
    go true e =
        record { size = refl; order = o; behind = omega arith; fits = leb-true (end_of 0 rs + n) (length room) e; numbers = m; free = f; tokens = refl }
    go false e =
        let j = joined_length 0 room rs o in
        let l : 0 + length (joined room rs) ≤ length room = omega arith in
        let end' : end_of 0 (packed 0 rs) ≡ 0 + live rs = packed-end 0 rs in
        record {
          size = placed-length 0 (joined room rs) room l;
          order = order-packed 0 (length room) rs (omega arith);
          behind = omega arith;
          fits = h;
          numbers = number-packed 1024 0 rs ∙ m;
          free = packed-held k 0 rs f;
          tokens = entries-packed 0 [] (drop (0 + length (joined room rs)) room) room rs o;
        }

-- ---- put

module _ (s : Store) (ok : right s ≡ true) (k : ℕ) (ts : List ℕ) (low : k < 1024) (h : live (others k (runs_of s.rec)) + length ts ≤ length s.room) where
  q : Passed (length s.room) s.rec
  q = passed (length s.room) s.rec ok

  rest : List Run
  rest = others k (runs_of s.rec)

  sp : Space
  sp = space s.room rest (length ts)

  got : Spaced k s.room rest (length ts) sp
  unfolding rest sp
  got =
      spaced k s.room (others k (runs_of s.rec)) (length ts)
      (order-others k 0 (length s.room) (runs_of s.rec) q.order)
      (number-others 1024 k (runs_of s.rec) q.numbers)
      (out k (runs_of s.rec))
      h

  new : Run
  new = run k sp.at (length ts)

  room_fits : sp.at + length ts ≤ length sp.room
  room_fits = let a = got.fits in let b = got.size in omega arith

  read-new : tokens_of (placed sp.at ts sp.room) new ≡ ts
  unfolding tokens_of new
  read-new = placed-back sp.at ts sp.room room_fits

  order' : in_order 0 (length sp.room) sp.runs ≡ true
  order' = rw got.size got.order

  map' : entries (placed sp.at ts sp.room) (sp.runs ++ (new ∷ [])) ≡ without k (entries s.room (runs_of s.rec)) ++ (entry k ts ∷ [])
  unfolding new rest
  map' =
      entries-more (placed sp.at ts sp.room) sp.runs new
      ∙ ap₂ (λ (l : List Entry) (t : List ℕ). l ++ (entry k t ∷ []))
      (entries-past 0 sp.at sp.room ts sp.runs room_fits got.behind order' ∙ got.tokens ∙ entries-others k s.room (runs_of s.rec))
      read-new

  pub put_map : map_of (stored s k ts) ≡ without k (map_of s) ++ (entry k ts ∷ [])
  unfolding map_of stored new sp rest
  put_map = ap (entries (placed sp.at ts sp.room)) (recorded-runs (sp.runs ++ (new ∷ [])) s.rec) ∙ map'

  pub put-long : length (stored s k ts).room ≡ length s.room
  unfolding stored sp rest
  put-long = placed-length sp.at ts sp.room room_fits ∙ got.size

  pub put_right : right (stored s k ts) ≡ true
  unfolding stored new sp rest
  put_right =
      let few = fewer 1024 k sp.runs low got.numbers got.free in
      let l : length (sp.runs ++ (new ∷ [])) ≡ length sp.runs + 1 = length-append sp.runs (new ∷ []) in
      subst (λ (n : ℕ). valid_record n (recorded (sp.runs ++ (new ∷ [])) s.rec) ≡ true) (sym put-long)
      (recorded-right (length s.room) (sp.runs ++ (new ∷ [])) s.rec q.long (omega arith)
      (order-more 0 (length s.room) sp.runs new got.order got.behind got.fits)
      (number_more 1024 sp.runs new got.numbers low got.free))
