-- What each way out of a call answers. Assumes nothing.
use Prim.Native.Nat.{ℕ, zero, suc, ◌+◌, ◌-◌, ◌*◌, ◌<◌, ◌≤◌}
use mathlib.Core.Path.{◌≡◌, refl, sym, ap, ap₂, subst, ◌∙◌}
use mathlib.Core.Bool.{Bool, true, false, cond, true≢false}
use mathlib.Core.List.{List}
use native.Mathlib.Omega.{arith}
use borrow.Author.Tests.{ltb-true, lt-ltb, le-leb, lt-leb, eq-eqb, ne_eqb}
use lib.Dec.{eqb, ltb}
use lib.ListN.{length, get_or, set, take, drop}
use Rattle.std.proofs.Common.{Option, Some, None}
use Rattle.std.specs.Option.{is_some}
use Rattle.store_record.specs.Placed.{placed}
use Rattle.store_record.specs.Runs.{run_at, runs_from, runs_of, recorded, headed, holds, others, live}
use Rattle.store_record.specs.declared.Run.{Run}
use Rattle.store_record.specs.Tokens.{tokens_of}
use Rattle.store_record.proofs.Headed.{headed-set}
use Rattle.store_record.proofs.Order.{order-end, order-others}
use Rattle.store_passes.specs.Found.{Found, Removed}
use Rattle.store_map.specs.Map.{Reply, reply}
use Rattle.store_map.specs.Map as Map
use Rattle.store_map.specs.Store.{Store, store_of, right, outcome_of, put_refusal, stored, put_outcome, drop_refusal, dropped, drop_outcome, run_in, read_refusal, read_tokens, Kept}
use Rattle.store_map.proofs.Entries.{under-within}
use Rattle.store_map.proofs.Stores.{Passed, passed}
use Rattle.store_map.proofs.Kept.{put-kept, drop-kept, read_reply, read_kept, read_back}
use Rattle.store_calls.specs.Calls.{Put, Dropped, Read, Value, Refused, length_reply, told, lent_refusal}

-- ---- an answer that may be none

index_of : Option ℕ → ℕ
index_of (Some i) = i
index_of None = 0

none-of : (o : Option ℕ) → is_some o ≡ false → o ≡ None
none-of None e = refl
none-of (Some i) e = absurd (true≢false e)

some_of : (o : Option ℕ) → is_some o ≡ true → o ≡ Some (index_of o)
unfolding index_of
some_of None e = absurd (true≢false (sym e))
some_of (Some i) e = refl

-- ---- what each call asks first

right-of : (b c : Bool) → ◌≡◌ {A = ℕ} 0 (cond b (cond c 0 33) 37) → b ≡ true
right-of true c e = refl
right-of false c e = absurd (omega (arith, e))

below-of : (b c : Bool) → ◌≡◌ {A = ℕ} 0 (cond b (cond c 0 33) 37) → c ≡ true
below-of true true e = refl
below-of true false e = absurd (omega (arith, e))
below-of false c e = absurd (omega (arith, e))

-- a call that asks more refuses first what each call refuses
refused-first : (b c : Bool) (more n : ℕ) → suc n ≡ cond b (cond c 0 33) 37 → cond b (cond c more 33) 37 ≡ suc n
refused-first true true more n e = absurd (omega (arith, e))
refused-first true false more n e = sym e
refused-first false c more n e = sym e

module _ (s : Store) (k : ℕ) (none : ◌≡◌ {A = ℕ} 0 (lent_refusal s k)) where
  pub lent-right : right s ≡ true
  unfolding lent_refusal
  lent-right = right-of (right s) (ltb k 1024) none

  pub lent-below : k < 1024
  unfolding lent_refusal
  lent-below = ltb-true k 1024 (below-of (right s) (ltb k 1024) none)

-- ---- a store that passed check 37

module _ (room r : List ℕ) (ok : right (store_of room r) ≡ true) where
  p : Passed (length room) r
  p = passed (length room) r ok

  pub pass-asks : (length r ≡ 3073) × (get_or r 0 0 ≤ 1024)
  pass-asks = (p.long, p.few)

  pub live-within : live (runs_from r 0 (get_or r 0 0)) ≤ length room
  unfolding runs_of
  live-within = let e = order-end 0 (length room) (runs_of r) (omega arith) p.order in let a = e.0 in let b = e.1 in omega arith

  pub others-within : (k : ℕ) → live (others k (runs_from r 0 (get_or r 0 0))) ≤ length room
  unfolding runs_of
  others-within k = let e = order-end 0 (length room) (others k (runs_of r)) (omega arith) (order-others k 0 (length room) (runs_of r) p.order) in let a = e.0 in let b = e.1 in omega arith

  pub run-within : (k : ℕ) → (run_in (store_of room r) k).start + (run_in (store_of room r) k).size ≤ length room
  unfolding run_in
  run-within k = under-within k 0 (length room) (runs_of r) p.order

-- ---- put

module _ (s : Store) (k : ℕ) (ts : List ℕ) where
  put-settles : {code : ℕ} {t : Store} → code ≡ put_refusal s k ts → t ≡ (put_outcome s k ts).store → Put s k ts code t
  unfolding put_outcome
  put-settles e f = record { settled = ap₂ outcome_of e f; kept = rw (e, f) (put-kept s k ts) }

  put_refused : (n : ℕ) → put_refusal s k ts ≡ suc n → Put s k ts (suc n) s
  unfolding put_outcome
  put_refused n e = put-settles (sym e) (rw (e, ne_eqb (suc n) 0 (λ z. omega arith)))

  pub put-lent : (code : ℕ) → code ≡ lent_refusal s k → 1 ≤ code → Put s k ts code s
  unfolding put_refusal lent_refusal
  put-lent zero e some = absurd (omega (arith, some))
  put-lent (suc n) e some = put_refused n (refused-first (right s) (ltb k 1024) _ n e)

  module _ (ok : right s ≡ true) (h : k < 1024) (v : ℕ) (others' : v ≡ live (others k (runs_from s.rec 0 (get_or s.rec 0 0)))) where
    pub put-34 : length s.room - v < length ts → Put s k ts 34 s
    unfolding put_refusal runs_of
    put-34 f = put_refused 33 (rw (ok, lt-ltb k 1024 h, lt-leb (live (others k (runs_from s.rec 0 (get_or s.rec 0 0))) + length ts) (length s.room) (omega arith)))

    pub hold-asks : length ts ≤ length s.room - v → (right s ≡ true) × ((k < 1024) × (live (others k (runs_of s.rec)) + length ts ≤ length s.room))
    unfolding runs_of
    hold-asks f = let w = others-within s.room s.rec ok k in (ok, (h, omega arith))

    pub put-0 : {t : Store} → length ts ≤ length s.room - v → t ≡ stored s k ts → Put s k ts 0 t
    unfolding put_refusal put_outcome
    put-0 {t} l e =
        let f = (hold-asks l).1.1 in
        let z : put_refusal s k ts ≡ 0 = rw (ok, lt-ltb k 1024 h, le-leb (live (others k (runs_of s.rec)) + length ts) (length s.room) f) in
        put-settles (sym z) (e ∙ settled z)
      where
        settled : put_refusal s k ts ≡ 0 → stored s k ts ≡ cond (eqb (put_refusal s k ts) 0) (stored s k ts) s
        settled z = rw (eq-eqb (put_refusal s k ts) 0 z)

-- ---- drop

module _ (s : Store) (k : ℕ) where
  drop-settles : {code : ℕ} {t : Store} → code ≡ drop_refusal s k → t ≡ (drop_outcome s k).store → Dropped s k code t
  unfolding drop_outcome
  drop-settles e f = record { settled = ap₂ outcome_of e f; kept = rw (e, f) (drop-kept s k) }

  drop-refused : (n : ℕ) → drop_refusal s k ≡ suc n → Dropped s k (suc n) s
  unfolding drop_outcome
  drop-refused n e = drop-settles (sym e) (rw (e, ne_eqb (suc n) 0 (λ z. omega arith)))

  pub drop-lent : (code : ℕ) → code ≡ lent_refusal s k → 1 ≤ code → Dropped s k code s
  unfolding drop_refusal lent_refusal
  drop-lent zero e some = absurd (omega (arith, some))
  drop-lent (suc n) e some = drop-refused n (refused-first (right s) (ltb k 1024) _ n e)

  module _ (ok : right s ≡ true) (h : k < 1024) (o : Option ℕ) (found : Found k s.rec (get_or s.rec 0 0) o) where
    pub drop-35 : is_some o ≡ false → Dropped s k 35 s
    unfolding drop_refusal runs_of
    drop-35 e = drop-refused 34 (rw (ok, lt-ltb k 1024 h, found.missing (none-of o e)))

    pub drop-0 : {r1 : List ℕ} {left : ℕ} → is_some o ≡ true → Removed k s.rec (get_or s.rec 0 0) r1 left → Dropped s k 0 (store_of s.room (set r1 0 left))
    unfolding drop_refusal drop_outcome dropped recorded runs_of
    drop-0 {r1} {left} e removed =
        let z : drop_refusal s k ≡ 0 = rw (ok, lt-ltb k 1024 h, (found.there (index_of o) (some_of o e)).1) in
        let rest = others k (runs_from s.rec 0 (get_or s.rec 0 0)) in
        let f : set r1 0 left ≡ headed (length rest) rest s.rec =
        ap₂ (λ (l : List ℕ) (n : ℕ). set l 0 n) removed.runs removed.count ∙ headed-set (get_or s.rec 0 0) (length rest) rest s.rec in
        drop-settles (sym z) (ap (store_of s.room) f ∙ settled z)
      where
        settled : drop_refusal s k ≡ 0 → dropped s k ≡ cond (eqb (drop_refusal s k) 0) (dropped s k) s
        settled z = rw (eq-eqb (drop_refusal s k) 0 z)

-- ---- read

module _ (s : Store) (k : ℕ) (buffer : List ℕ) where
  read-refused : (n : ℕ) → read_refusal s k (length buffer) ≡ suc n → Read s k buffer (Refused (suc n)) buffer
  unfolding length_reply told read_tokens read_reply
  read-refused n e =
      let no = ne_eqb (suc n) 0 (λ z. omega arith) in
      record { settled = rw e; tokens = rw (e, no); kept = subst (λ (x : Reply). Kept s (Map.read k (length buffer)) x s) (rw (e, no)) (read_kept s k buffer) }

  pub read-lent : (code : ℕ) → code ≡ lent_refusal s k → 1 ≤ code → Read s k buffer (Refused code) buffer
  unfolding read_refusal lent_refusal
  read-lent zero e some = absurd (omega (arith, some))
  read-lent (suc n) e some = read-refused n (refused-first (right s) (ltb k 1024) _ n e)

  module _ (ok : right s ≡ true) (h : k < 1024) (o : Option ℕ) (found : Found k s.rec (get_or s.rec 0 0) o) where
    pub read-35 : o ≡ None → Read s k buffer (Refused 35) buffer
    unfolding read_refusal runs_of
    read-35 e = read-refused 34 (rw (ok, lt-ltb k 1024 h, found.missing e))

    module _ (i : ℕ) (e : o ≡ Some i) where
      -- the run that was found
      pub found-low : i < get_or s.rec 0 0
      found-low = (found.there i e).0

      -- its three numbers lie in the record
      pub found-place : 3 * i + 3 < length s.rec
      found-place = let p = pass-asks s.room s.rec ok in let low = found-low in omega (arith, p.0, p.1, low)

      here : run_in s k ≡ run_at s.rec i
      unfolding run_in runs_of
      here = (found.there i e).2

      pub found-start : (run_in s k).start ≡ get_or s.rec (3 * i + 2) 0
      found-start = ap (λ (x : Run). x.start) here

      pub found-size : (run_in s k).size ≡ get_or s.rec (3 * i + 3) 0
      found-size = ap (λ (x : Run). x.size) here

      held : holds k (runs_of s.rec) ≡ true
      unfolding runs_of
      held = (found.there i e).1

      pub read-36 : length buffer < get_or s.rec (3 * i + 3) 0 → Read s k buffer (Refused 36) buffer
      unfolding read_refusal
      read-36 f = let z = found-size in read-refused 35 (rw (ok, lt-ltb k 1024 h, held, lt-leb (run_in s k).size (length buffer) (omega arith)))

      pub read-0 : {after : List ℕ} → get_or s.rec (3 * i + 3) 0 ≤ length buffer
          → after ≡ placed 0 (take (get_or s.rec (3 * i + 3) 0) (drop (get_or s.rec (3 * i + 2) 0) s.room)) buffer
          → Read s k buffer (Value (get_or s.rec (3 * i + 3) 0)) after
      unfolding read_refusal length_reply told read_tokens read_reply tokens_of
      read-0 {after} f copied =
          let z = found-size in
          let passed' : read_refusal s k (length buffer) ≡ 0 = rw (ok, lt-ltb k 1024 h, held, le-leb (run_in s k).size (length buffer) (omega arith)) in
          let same : after ≡ read_tokens s k buffer = copied ∙ sym (rw (eq-eqb (read_refusal s k (length buffer)) 0 passed', found-size, found-start)) in
          let read' : reply 0 (take (get_or s.rec (3 * i + 3) 0) after) ≡ read_reply s k buffer =
          ap₂ (λ (n : ℕ) (l : List ℕ). reply 0 (take n l)) (sym found-size) same ∙ ap (reply 0) (read_back s k buffer passed') ∙ sym (rw (eq-eqb (read_refusal s k (length buffer)) 0 passed')) in
          record {
            settled = rw (passed', found-size);
            tokens = same;
            kept = rw read' (read_kept s k buffer);
          }
