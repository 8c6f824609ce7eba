-- Runs moved together, turn by turn. Assumes nothing.
use Prim.Native.Nat.{ℕ, ◌+◌, ◌-◌, ◌*◌, ◌<◌, ◌≤◌}
use mathlib.Core.Path.{◌≡◌, refl, sym, ap, ap₂, ◌∙◌}
use mathlib.Core.Bool.{true}
use mathlib.Core.List.{List, [], ◌∷◌, ◌++◌, append-nil, append_assoc}
use native.Mathlib.Omega.{arith}
use lib.ListN.{length, get_or, take, drop, set, length-append, length-drop}
use lib.Seq.{length-take-le}
use Rattle.store_record.specs.Placed.{placed}
use Rattle.store_record.specs.Runs.{run, run_at, runs_from, headed, in_order, live, packed}
use Rattle.store_record.specs.declared.Run.{Run}
use Rattle.store_record.specs.Tokens.{tokens_of, joined}
use Rattle.store_record.proofs.Placed.{placed-none, placed_past, placed-rest, placed-length, placed-placed, copied_more}
use Rattle.store_record.proofs.Runs.{runs-next, runs-more, runs-length}
use Rattle.store_record.proofs.Headed.{headed-none, headed-length, headed-past, headed-more}
use Rattle.store_record.proofs.Order.{order-head, order-lower, packed-length}
use native.Mathlib.Nat.{le_antisymm}
use Rattle.store_room.specs.Compacted.{Compacted}

-- one token more of a run that is moved down: it still stands where it stood
pub moved_more : (at start i : ℕ) (zs : List ℕ) {to : List ℕ} → at ≤ start → start + i < length zs → to ≡ placed at (take i (drop start zs)) zs
    → set to (at + i) (get_or to (start + i) 0) ≡ placed at (take (i + 1) (drop start zs)) zs
moved_more at start i zs {to} a b e =
    let d : length (drop start zs) ≡ length zs - start = length-drop start zs in
    let l : length (take i (drop start zs)) ≡ i = length-take-le i (drop start zs) (omega arith) in
    let same : get_or to (start + i) 0 ≡ get_or zs (start + i) 0 = rw e (placed_past at (take i (drop start zs)) zs (omega arith) (start + i) (omega arith)) in
    rw same (copied_more at start i zs zs b (omega arith) e)

-- ---- one run more

live_more : (xs : List Run) (x : Run) → live (xs ++ (x ∷ [])) ≡ live xs + x.size
unfolding live
live_more [] x = omega arith
live_more (y ∷ ys) x = let rest = live_more ys x in omega arith

joined-more : (room : List ℕ) (xs : List Run) (x : Run) → joined room (xs ++ (x ∷ [])) ≡ joined room xs ++ tokens_of room x
unfolding joined
joined-more room [] x = append-nil (tokens_of room x)
joined-more room (y ∷ ys) x = ap (λ (l : List ℕ). tokens_of room y ++ l) (joined-more room ys x) ∙ sym (append_assoc (tokens_of room y) (joined room ys) (tokens_of room x))

packed_more : (at : ℕ) (xs : List Run) (x : Run) → packed at (xs ++ (x ∷ [])) ≡ packed at xs ++ (run x.number (at + live xs) x.size ∷ [])
unfolding packed live
packed_more at [] x =
    let e : at ≡ at + 0 = omega arith in
    ap (λ (k : ℕ). run x.number k x.size ∷ []) e
packed_more at (y ∷ ys) x =
    let e : at + y.size + live ys ≡ at + (y.size + live ys) = omega arith in
    ap (λ (l : List Run). run y.number at y.size ∷ l) (packed_more (at + y.size) ys x ∙ ap (λ (k : ℕ). packed (at + y.size) ys ++ (run x.number k x.size ∷ [])) e)

-- the first i runs are together, and the others stand where they stood
pub record Packing (room₀ r : List ℕ) (n i : ℕ) (room rec : List ℕ) (top : ℕ) : Type 0 where
  pub within : i ≤ n
  pub low : top ≤ length room₀
  pub end : top ≡ live (runs_from r 0 i)
  pub long : length (joined room₀ (runs_from r 0 i)) ≡ top
  pub tokens : room ≡ placed 0 (joined room₀ (runs_from r 0 i)) room₀
  pub runs : rec ≡ headed (get_or r 0 0) (packed 0 (runs_from r 0 i)) r
  pub later : in_order top (length room₀) (runs_from r i (n - i)) ≡ true

pub pack-start : (room r : List ℕ) (n : ℕ) → length r ≡ 3073 → in_order 0 (length room) (runs_from r 0 n) ≡ true → Packing room r n 0 room r 0
unfolding live joined packed runs_from
pack-start room r n l o =
    let e : n - 0 ≡ n = omega arith in
    record {
      within = omega arith;
      low = omega arith;
      end = refl;
      long = refl;
      tokens = sym (placed-none 0 room);
      runs = sym (headed-none r (omega arith));
      later = rw e o;
    }

module _ (room₀ r : List ℕ) (n i : ℕ) (room rec : List ℕ) (top : ℕ) (s : Packing room₀ r n i room rec top) (l : length r ≡ 3073) (few : n ≤ 1024) where
  first : List Run
  first = packed 0 (runs_from r 0 i)

  first-length : length first ≡ i
  unfolding first
  first-length = packed-length 0 (runs_from r 0 i) ∙ runs-length r 0 i

  front_fits : 3 * length first + 1 ≤ length r
  front_fits = let f = first-length in let w = s.within in omega arith

  same : rec ≡ headed (get_or r 0 0) first r
  unfolding first
  same = s.runs

  room_fits : 0 + length (joined room₀ (runs_from r 0 i)) ≤ length room₀
  room_fits = let a = s.long in let b = s.low in omega arith

  pub pack-long : (length room ≡ length room₀) × (length rec ≡ 3073)
  pack-long = (rw s.tokens (placed-length 0 (joined room₀ (runs_from r 0 i)) room₀ room_fits), rw same (headed-length (get_or r 0 0) first r front_fits ∙ l))

  ahead : (j : ℕ) → 3 * i + 1 ≤ j → get_or rec j 0 ≡ get_or r j 0
  ahead j h = rw same (headed-past (get_or r 0 0) first r front_fits j (let f = first-length in omega arith))

  module _ (h : i < n) where
    head : (top ≤ get_or r (3 * i + 2) 0) × ((get_or r (3 * i + 2) 0 + get_or r (3 * i + 3) 0 ≤ length room₀) × (in_order (get_or r (3 * i + 2) 0 + get_or r (3 * i + 3) 0) (length room₀) (runs_from r (i + 1) (n - (i + 1))) ≡ true))
    head = order-head top (length room₀) (run_at r i) (runs_from r (i + 1) (n - (i + 1))) (rw (runs-next r i n h) at s.later)

    -- what the turn goes by
    pub turn : (top ≤ get_or rec (3 * i + 2) 0) × (get_or rec (3 * i + 2) 0 + get_or rec (3 * i + 3) 0 ≤ length room)
    turn =
        let a = ahead (3 * i + 2) (omega arith) in
        let b = ahead (3 * i + 3) (omega arith) in
        let t = head in
        let p = t.0 in
        let q = t.1.0 in
        let w = pack-long.0 in
        (omega arith, omega arith)

    pub pack-next : {room' rec' : List ℕ}
        → room' ≡ placed top (take (get_or rec (3 * i + 3) 0) (drop (get_or rec (3 * i + 2) 0) room)) room
        → rec' ≡ placed (3 * i + 1) (get_or rec (3 * i + 1) 0 ∷ top ∷ get_or rec (3 * i + 3) 0 ∷ []) rec
        → Packing room₀ r n (i + 1) room' rec' (top + get_or rec (3 * i + 3) 0)
    unfolding tokens_of first
    pack-next {room'} {rec'} et er =
        let a = ahead (3 * i + 1) (omega arith) in
        let b = ahead (3 * i + 2) (omega arith) in
        let d = ahead (3 * i + 3) (omega arith) in
        let p = head.0 in
        let q = head.1.0 in
        let low' = s.low in
        let size = length-drop (get_or r (3 * i + 2) 0) room₀ in
        let taken : length (take (get_or r (3 * i + 3) 0) (drop (get_or r (3 * i + 2) 0) room₀)) ≡ get_or r (3 * i + 3) 0 = length-take-le (get_or r (3 * i + 3) 0) (drop (get_or r (3 * i + 2) 0) room₀) (omega arith) in
        let more : joined room₀ (runs_from r 0 (i + 1)) ≡ joined room₀ (runs_from r 0 i) ++ tokens_of room₀ (run_at r i) =
        ap (joined room₀) (runs-more r i) ∙ joined-more room₀ (runs_from r 0 i) (run_at r i) in
        let live' : live (runs_from r 0 (i + 1)) ≡ live (runs_from r 0 i) + get_or r (3 * i + 3) 0 = ap live (runs-more r i) ∙ live_more (runs_from r 0 i) (run_at r i) in
        let zero' : 0 + length (joined room₀ (runs_from r 0 i)) ≡ top = let j = s.long in omega arith in
        let longer = length-append (joined room₀ (runs_from r 0 i)) (tokens_of room₀ (run_at r i)) in
        let J = joined room₀ (runs_from r 0 i) in
        let num = get_or r (3 * i + 1) 0 in
        let start = get_or r (3 * i + 2) 0 in
        let sz = get_or r (3 * i + 3) 0 in
        let e = s.end in
        let at_top : 0 + live (runs_from r 0 i) ≡ top = omega arith in
        let packed' : packed 0 (runs_from r 0 (i + 1)) ≡ packed 0 (runs_from r 0 i) ++ (run num top sz ∷ []) =
        ap (packed 0) (runs-more r i) ∙ packed_more 0 (runs_from r 0 i) (run_at r i) ∙ ap (λ (k : ℕ). packed 0 (runs_from r 0 i) ++ (run num k sz ∷ [])) at_top in
        let long' = s.long in
        let long'' = ap length more in
        record {
          within = omega arith;
          low = omega arith;
          end = omega arith;
          long = omega arith;
          tokens =
              et
              ∙ ap₂ (λ (j k : ℕ). placed top (take j (drop k room)) room) d b
              ∙ ap (λ (l : List ℕ). placed top (take sz (drop start l)) l) s.tokens
              ∙ ap (λ (l : List ℕ). placed top (take sz l) (placed 0 J room₀)) (placed-rest 0 J room₀ room_fits start (omega arith))
              ∙ ap (λ (k : ℕ). placed k (take sz (drop start room₀)) (placed 0 J room₀)) (sym zero')
              ∙ placed-placed 0 J room₀ room_fits (take sz (drop start room₀))
              ∙ ap (λ (l : List ℕ). placed 0 l room₀) (sym more);
          runs =
              er
              ∙ ap₂ (λ (j k : ℕ). placed (3 * i + 1) (j ∷ top ∷ k ∷ []) rec) a d
              ∙ ap₂ (λ (j : ℕ) (l : List ℕ). placed (3 * j + 1) (num ∷ top ∷ sz ∷ []) l) (sym first-length) same
              ∙ headed-more (get_or r 0 0) first r front_fits num top sz
              ∙ ap (λ (l : List Run). headed (get_or r 0 0) l r) (sym packed');
          later = order-lower (start + sz) (top + get_or rec (3 * i + 3) 0) (length room₀) (runs_from r (i + 1) (n - (i + 1))) (omega arith) head.1.1;
        }

pub pack-end : (room₀ r : List ℕ) (n i : ℕ) (room rec : List ℕ) (top : ℕ) → Packing room₀ r n i room rec top → n ≤ i → Compacted room₀ r n room rec top
pack-end room₀ r n i room rec top s h =
    let e : i ≡ n = le_antisymm s.within h in
    record { end = rw e at s.end; tokens = rw e at s.tokens; runs = rw e at s.runs }
