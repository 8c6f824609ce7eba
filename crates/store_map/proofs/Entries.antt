-- Runs and the entries that they stand for. Assumes nothing.
use Prim.Native.Nat.{ℕ, ◌+◌, ◌≤◌}
use mathlib.Core.Path.{◌≡◌, refl, sym, ap, ap₂, ◌∙◌}
use mathlib.Core.Bool.{Bool, true, false, cond}
use mathlib.Core.List.{List, [], ◌∷◌, ◌++◌, append_assoc}
use native.Mathlib.Omega.{arith}
use lib.Dec.{eqb}
use lib.ListN.{length, take, drop, length-append, length-drop}
use lib.Seq.{length-take-le, take_at, drop_at}
use Rattle.store_record.specs.Placed.{placed}
use Rattle.store_record.specs.Runs.{in_order, holds, others, run_under, live, end_of, packed}
use Rattle.store_record.specs.declared.Run.{Run}
use Rattle.store_record.specs.Tokens.{tokens_of, joined}
use Rattle.store_record.proofs.Placed.{placed-before}
use Rattle.store_record.proofs.Order.{order-head, order-end}
use Rattle.store_map.specs.Map.{Entry, entry, held, lookup, without, total}
use Rattle.store_map.specs.Store.{entries}

pub entries-held : (k : ℕ) (room : List ℕ) (xs : List Run) → held k (entries room xs) ≡ holds k xs
unfolding held entries holds
entries-held k room [] = refl
entries-held k room (x ∷ xs) = rw (entries-held k room xs)

pub entries-others : (k : ℕ) (room : List ℕ) (xs : List Run) → entries room (others k xs) ≡ without k (entries room xs)
unfolding entries others without
entries-others k room [] = refl
entries-others k room (x ∷ xs) = go (eqb k x.number) (entries-others k room xs)
  where
    go : (b : Bool) → entries room (others k xs) ≡ without k (entries room xs)
        → entries room (cond b (others k xs) (x ∷ others k xs)) ≡ cond b (without k (entries room xs)) (entry x.number (tokens_of room x) ∷ without k (entries room xs))
    go true e = e
    go false e = ap (λ (l : List Entry). entry x.number (tokens_of room x) ∷ l) e

pub entries-lookup : (k : ℕ) (room : List ℕ) (xs : List Run) → lookup k (entries room xs) ≡ tokens_of room (run_under k xs)
unfolding entries lookup run_under tokens_of
entries-lookup k room [] = refl
entries-lookup k room (x ∷ xs) = go (eqb k x.number) (entries-lookup k room xs)
  where
    go : (b : Bool) → lookup k (entries room xs) ≡ tokens_of room (run_under k xs)
        → cond b (tokens_of room x) (lookup k (entries room xs)) ≡ tokens_of room (cond b x (run_under k xs))
    go true e = refl
    go false e = e

-- a run within the room has its tokens
pub tokens-length : (room : List ℕ) (x : Run) → x.start + x.size ≤ length room → length (tokens_of room x) ≡ x.size
unfolding tokens_of
tokens-length room x h =
    let d = length-drop x.start room in
    length-take-le x.size (drop x.start room) (omega arith)

pub entries-total : (end : ℕ) (room : List ℕ) (xs : List Run) → in_order end (length room) xs ≡ true → total (entries room xs) ≡ live xs
unfolding entries total live
entries-total end room [] o = refl
entries-total end room (x ∷ xs) o =
    let t = order-head end (length room) x xs o in
    ap₂ (λ (a b : ℕ). a + b) (tokens-length room x t.1.0) (entries-total (x.start + x.size) room xs t.1.1)

pub under-within : (k end size : ℕ) (xs : List Run) → in_order end size xs ≡ true → (run_under k xs).start + (run_under k xs).size ≤ size
unfolding run_under
under-within k end size [] o = omega arith
under-within k end size (x ∷ xs) o = go (eqb k x.number) (order-head end size x xs o) (under-within k (x.start + x.size) size xs)
  where
    go : (b : Bool) → (end ≤ x.start) × ((x.start + x.size ≤ size) × (in_order (x.start + x.size) size xs ≡ true))
        → (in_order (x.start + x.size) size xs ≡ true → (run_under k xs).start + (run_under k xs).size ≤ size)
        → (cond b x (run_under k xs)).start + (cond b x (run_under k xs)).size ≤ size
    go true t f = t.1.0
    go false t f = f t.1.1

pub entries-more : (room : List ℕ) (xs : List Run) (x : Run) → entries room (xs ++ (x ∷ [])) ≡ entries room xs ++ (entry x.number (tokens_of room x) ∷ [])
unfolding entries
entries-more room [] x = refl
entries-more room (y ∷ ys) x = ap (λ (l : List Entry). entry y.number (tokens_of room y) ∷ l) (entries-more room ys x)

-- what is written past the runs does not touch them
pub entries-past : (end at : ℕ) (room ts : List ℕ) (xs : List Run) → at + length ts ≤ length room → end_of end xs ≤ at → in_order end (length room) xs ≡ true
    → entries (placed at ts room) xs ≡ entries room xs
unfolding entries end_of tokens_of
entries-past end at room ts [] f h o = refl
entries-past end at room ts (x ∷ xs) f h o =
    let t = order-head end (length room) x xs o in
    let e = (order-end (x.start + x.size) (length room) xs t.1.0 t.1.1).0 in
    ap₂ (λ (a : List ℕ) (l : List Entry). entry x.number a ∷ l) (placed-before at ts room f x.start x.size (omega arith)) (entries-past (x.start + x.size) at room ts xs f h t.1.1)

pub joined_length : (end : ℕ) (room : List ℕ) (xs : List Run) → in_order end (length room) xs ≡ true → length (joined room xs) ≡ live xs
unfolding joined live
joined_length end room [] o = refl
joined_length end room (x ∷ xs) o =
    let t = order-head end (length room) x xs o in
    length-append (tokens_of room x) (joined room xs)
    ∙ ap₂ (λ (a b : ℕ). a + b) (tokens-length room x t.1.0) (joined_length (x.start + x.size) room xs t.1.1)

-- moved together, each run has its tokens
pub entries-packed : (end : ℕ) (p q room : List ℕ) (xs : List Run) → in_order end (length room) xs ≡ true
    → entries (p ++ (joined room xs ++ q)) (packed (length p) xs) ≡ entries room xs
unfolding entries packed joined tokens_of
entries-packed end p q room [] o = refl
entries-packed end p q room (x ∷ xs) o =
    let t = order-head end (length room) x xs o in
    let size = tokens-length room x t.1.0 in
    let T = tokens_of room x in
    let assoc : p ++ ((T ++ joined room xs) ++ q) ≡ (p ++ T) ++ (joined room xs ++ q) =
    ap (λ (l : List ℕ). p ++ l) (append_assoc T (joined room xs) q) ∙ sym (append_assoc p T (joined room xs ++ q)) in
    let long : length (p ++ T) ≡ length p + x.size = length-append p T ∙ ap (λ (k : ℕ). length p + k) size in
    ap₂ (λ (a : List ℕ) (l : List Entry). entry x.number a ∷ l)
    (here p T (joined room xs) q x.size size)
    (ap₂ (λ (l : List ℕ) (k : ℕ). entries l (packed k xs)) assoc (sym long) ∙ entries-packed (x.start + x.size) (p ++ T) q room xs t.1.1)
  where
    here : (p T J q : List ℕ) (n : ℕ) → length T ≡ n → take n (drop (length p) (p ++ ((T ++ J) ++ q))) ≡ T
    here p T J q n e =
        ap (take n) (drop_at p ((T ++ J) ++ q) (length p) refl ∙ append_assoc T J q) ∙ take_at T (J ++ q) n e
