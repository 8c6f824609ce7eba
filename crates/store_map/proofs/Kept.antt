-- Each call answers as a plain map, and the store stands for that map after it. Assumes nothing.
use Prim.Native.Nat.{ℕ, zero, suc, ◌+◌, ◌<◌, ◌≤◌}
use mathlib.Core.Path.{◌≡◌, refl, sym, ap, ap₂, subst, ◌∙◌}
use mathlib.Core.Bool.{Bool, true, false, cond}
use mathlib.Core.List.{List, []}
use native.Mathlib.Omega.{arith}
use borrow.Author.Tests.{eqb-true, eq-eqb, ne_eqb, leb-true, ltb-true}
use lib.Dec.{eqb, leb, ltb}
use lib.ListN.{length, take}
use Rattle.store_record.specs.Placed.{placed}
use Rattle.store_record.specs.Runs.{runs_of, holds, others, run_under, live}
use Rattle.store_record.specs.Tokens.{tokens_of}
use Rattle.store_record.proofs.Placed.{placed-back}
use Rattle.store_record.proofs.Order.{order-others}
use Rattle.store_map.specs.Map.{Entry, Call, Reply, reply, held, lookup, without, total, refusal_on, done, given, reply_on, after}
use Rattle.store_map.specs.Map as Map
use Rattle.store_map.specs.Store.{Store, right, put_refusal, stored, put_outcome, drop_refusal, dropped, drop_outcome, run_in, read_refusal, read_tokens, entries, map_of, Kept}
use Rattle.store_map.proofs.Entries.{entries-held, entries-others, entries-lookup, entries-total, tokens-length, under-within}
use Rattle.store_map.proofs.Stores.{passed, drop-map, drop-right, put_map, put_right, put-long}

-- ---- refusals

-- three tests that all passed
all-passed : (a b d : Bool) {x y z : ℕ} → 0 < x → 0 < y → 0 < z → cond a (cond b (cond d 0 x) y) z ≡ 0 → (a ≡ true) × ((b ≡ true) × (d ≡ true))
all-passed true true true hx hy hz e = (refl, (refl, refl))
all-passed true true false hx hy hz e = absurd (omega arith)
all-passed true false d hx hy hz e = absurd (omega arith)
all-passed false b d hx hy hz e = absurd (omega arith)

put-refusal : (s : Store) → right s ≡ true → (k : ℕ) (ts : List ℕ) → put_refusal s k ts ≡ refusal_on (length s.room) (map_of s) (Map.put k ts)
unfolding put_refusal refusal_on map_of
put-refusal s ok k ts =
    let p = passed (length s.room) s.rec ok in
    let t : total (without k (entries s.room (runs_of s.rec))) ≡ live (others k (runs_of s.rec)) =
    ap total (sym (entries-others k s.room (runs_of s.rec))) ∙ entries-total 0 s.room (others k (runs_of s.rec)) (order-others k 0 (length s.room) (runs_of s.rec) p.order) in
    rw (ok, t)

drop-refusal : (s : Store) → right s ≡ true → (k : ℕ) → drop_refusal s k ≡ refusal_on (length s.room) (map_of s) (Map.drop k)
unfolding drop_refusal refusal_on map_of
drop-refusal s ok k = rw (ok, entries-held k s.room (runs_of s.rec))

-- what is read is as long as the run
pub read_length : (s : Store) → right s ≡ true → (k : ℕ) → length (tokens_of s.room (run_in s k)) ≡ (run_in s k).size
unfolding run_in
read_length s ok k = tokens-length s.room (run_under k (runs_of s.rec)) (under-within k 0 (length s.room) (runs_of s.rec) (passed (length s.room) s.rec ok).order)

read-refusal : (s : Store) → right s ≡ true → (k room : ℕ) → read_refusal s k room ≡ refusal_on (length s.room) (map_of s) (Map.read k room)
unfolding read_refusal refusal_on map_of run_in
read-refusal s ok k room =
    let l : length (lookup k (entries s.room (runs_of s.rec))) ≡ (run_under k (runs_of s.rec)).size =
    ap length (entries-lookup k s.room (runs_of s.rec)) ∙ read_length s ok k in
    rw (ok, entries-held k s.room (runs_of s.rec), l)

-- ---- a call that changes the store: refused, it stays; else it is what the call makes of it

same-either : {A : Type 0} (b : Bool) (x : A) → cond b x x ≡ x
same-either true x = refl
same-either false x = refl

module _ (s made : Store) (c : Call) (r : ℕ) (nothing : (m : List Entry) → given m c ≡ [])
    (wrong : right s ≡ false → r ≡ 37)
    (same : right s ≡ true → r ≡ refusal_on (length s.room) (map_of s) c)
    (map' : right s ≡ true → r ≡ 0 → map_of made ≡ done (map_of s) c)
    (right' : right s ≡ true → r ≡ 0 → right made ≡ true)
    (ok' : r ≡ 0 → right s ≡ true)
    (long : right s ≡ true → r ≡ 0 → length made.room ≡ length s.room) where
  result : Store
  result = cond (eqb r 0) made s

  answered : right s ≡ true → reply r [] ≡ reply_on (length s.room) (map_of s) c
  unfolding reply_on
  answered ok = ap₂ (λ (n : ℕ) (l : List ℕ). reply n l) (same ok) (sym (ap (λ (l : List ℕ). cond (eqb (refusal_on (length s.room) (map_of s) c) 0) l []) (nothing (map_of s)) ∙ same-either (eqb (refusal_on (length s.room) (map_of s) c) 0) []))

  kept : right s ≡ true → map_of result ≡ after (length s.room) (map_of s) c
  unfolding after result
  kept ok = rw (← (same ok)) (go (eqb r 0) refl)
    where
      go : (b : Bool) → eqb r 0 ≡ b → map_of (cond b made s) ≡ cond b (done (map_of s) c) (map_of s)
      go true e = map' ok (eqb-true r 0 e)
      go false e = refl

  still : right s ≡ true → right result ≡ true
  unfolding result
  still ok = go (eqb r 0) refl
    where
      go : (b : Bool) → eqb r 0 ≡ b → right (cond b made s) ≡ true
      go true e = right' ok (eqb-true r 0 e)
      go false e = ok

  long' : length result.room ≡ length s.room
  unfolding result
  long' = go (eqb r 0) refl
    where
      go : (b : Bool) → eqb r 0 ≡ b → length (cond b made s).room ≡ length s.room
      go true e = long (ok' (eqb-true r 0 e)) (eqb-true r 0 e)
      go false e = refl

  refused : (n : ℕ) → r ≡ suc n → result ≡ s
  unfolding result
  refused n e = rw (ne_eqb r 0 (λ z. omega arith))

  changed : Kept s c (reply r []) (cond (eqb r 0) made s)
  unfolding result
  changed = record { wrong = λ e. ap (λ (n : ℕ). reply n []) (wrong e); answered = answered; kept = kept; still = still; refused = refused; long = long' }

-- ---- put

module _ (s : Store) (k : ℕ) (ts : List ℕ) where
  put-passed : put_refusal s k ts ≡ 0 → (right s ≡ true) × ((k < 1024) × (live (others k (runs_of s.rec)) + length ts ≤ length s.room))
  unfolding put_refusal
  put-passed e =
      let t = all-passed (right s) (ltb k 1024) (leb (live (others k (runs_of s.rec)) + length ts) (length s.room)) (omega arith) (omega arith) (omega arith) e in
      (t.0, (ltb-true k 1024 t.1.0, leb-true (live (others k (runs_of s.rec)) + length ts) (length s.room) t.1.1))

  put_wrong : right s ≡ false → put_refusal s k ts ≡ 37
  unfolding put_refusal
  put_wrong e = rw e

  put-none : (m : List Entry) → given m (Map.put k ts) ≡ []
  unfolding given
  put-none m = refl

  put-done : right s ≡ true → put_refusal s k ts ≡ 0 → map_of (stored s k ts) ≡ done (map_of s) (Map.put k ts)
  unfolding done
  put-done ok e = let t = put-passed e in put_map s ok k ts t.1.0 t.1.1

  pub put-kept : Kept s (Map.put k ts) (reply (put_refusal s k ts) []) (put_outcome s k ts).store
  unfolding put_outcome
  put-kept =
      changed s (stored s k ts) (Map.put k ts) (put_refusal s k ts) put-none put_wrong (λ ok. put-refusal s ok k ts) put-done
      (λ ok e. let t = put-passed e in put_right s ok k ts t.1.0 t.1.1)
      (λ e. (put-passed e).0)
      (λ ok e. let t = put-passed e in put-long s ok k ts t.1.0 t.1.1)

-- ---- drop

module _ (s : Store) (k : ℕ) where
  drop-passed : drop_refusal s k ≡ 0 → right s ≡ true
  unfolding drop_refusal
  drop-passed e = (all-passed (right s) (ltb k 1024) (holds k (runs_of s.rec)) (omega arith) (omega arith) (omega arith) e).0

  drop-wrong : right s ≡ false → drop_refusal s k ≡ 37
  unfolding drop_refusal
  drop-wrong e = rw e

  drop-none : (m : List Entry) → given m (Map.drop k) ≡ []
  unfolding given
  drop-none m = refl

  drop-done : right s ≡ true → drop_refusal s k ≡ 0 → map_of (dropped s k) ≡ done (map_of s) (Map.drop k)
  unfolding done
  drop-done ok e = drop-map s ok k

  drop-long : right s ≡ true → drop_refusal s k ≡ 0 → length (dropped s k).room ≡ length s.room
  unfolding dropped
  drop-long ok e = refl

  pub drop-kept : Kept s (Map.drop k) (reply (drop_refusal s k) []) (drop_outcome s k).store
  unfolding drop_outcome
  drop-kept = changed s (dropped s k) (Map.drop k) (drop_refusal s k) drop-none drop-wrong (λ ok. drop-refusal s ok k) drop-done (λ ok e. drop-right s ok k) drop-passed drop-long

-- ---- read

module _ (s : Store) (k : ℕ) (buffer : List ℕ) where
  four-passed : (a b d f : Bool) {w x y z : ℕ} → 0 < w → 0 < x → 0 < y → 0 < z → cond a (cond b (cond d (cond f 0 w) x) y) z ≡ 0 → (a ≡ true) × (f ≡ true)
  four-passed true true true true hw hx hy hz e = (refl, refl)
  four-passed true true true false hw hx hy hz e = absurd (omega arith)
  four-passed true true false f hw hx hy hz e = absurd (omega arith)
  four-passed true false d f hw hx hy hz e = absurd (omega arith)
  four-passed false b d f hw hx hy hz e = absurd (omega arith)

  pub read-passed : read_refusal s k (length buffer) ≡ 0 → (right s ≡ true) × ((run_in s k).size ≤ length buffer)
  unfolding read_refusal
  read-passed e =
      let t = four-passed (right s) (ltb k 1024) (holds k (runs_of s.rec)) (leb (run_in s k).size (length buffer)) (omega arith) (omega arith) (omega arith) (omega arith) e in
      (t.0, leb-true (run_in s k).size (length buffer) t.1)

  -- what the reader finds at the front of its buffer
  pub read_back : read_refusal s k (length buffer) ≡ 0 → take (run_in s k).size (read_tokens s k buffer) ≡ tokens_of s.room (run_in s k)
  unfolding read_tokens
  read_back e =
      let p = read-passed e in
      let l = read_length s p.0 k in
      let m = p.1 in
      rw (eq-eqb (read_refusal s k (length buffer)) 0 e)
      (subst (λ (n : ℕ). take n (placed 0 (tokens_of s.room (run_in s k)) buffer) ≡ tokens_of s.room (run_in s k)) l (placed-back 0 (tokens_of s.room (run_in s k)) buffer (omega arith)))

  read-wrong : right s ≡ false → read_refusal s k (length buffer) ≡ 37
  unfolding read_refusal
  read-wrong e = rw e

  looked : tokens_of s.room (run_in s k) ≡ lookup k (map_of s)
  unfolding map_of run_in
  looked = sym (entries-lookup k s.room (runs_of s.rec))

  -- read answers: the number of a refusal, or the tokens
  unfoldable pub read_reply : Reply
  read_reply = cond (eqb (read_refusal s k (length buffer)) 0) (reply 0 (tokens_of s.room (run_in s k))) (reply (read_refusal s k (length buffer)) [])

  read-answered : right s ≡ true → read_reply ≡ reply_on (length s.room) (map_of s) (Map.read k (length buffer))
  unfolding reply_on given read_reply
  read-answered ok = rw (← (read-refusal s ok k (length buffer))) (go (read_refusal s k (length buffer)))
    where
      go : (n : ℕ) → cond (eqb n 0) (reply 0 (tokens_of s.room (run_in s k))) (reply n []) ≡ reply n (cond (eqb n 0) (lookup k (map_of s)) [])
      go zero = ap (reply 0) looked
      go (suc n) = rw (ne_eqb (suc n) 0 (λ z. omega arith))

  pub read_kept : Kept s (Map.read k (length buffer)) read_reply s
  unfolding after done read_reply
  read_kept =
      record {
        wrong = λ e. rw (read-wrong e);
        answered = read-answered;
        kept = λ ok. sym (same-either (eqb (refusal_on (length s.room) (map_of s) (Map.read k (length buffer))) 0) (map_of s));
        still = λ ok. ok;
        refused = λ n e. refl;
        long = refl;
      }
