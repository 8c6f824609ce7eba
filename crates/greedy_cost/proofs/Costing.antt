-- What a candidate costs, and the first least of the candidates, as the code comes to them. Assumes nothing.
use mathlib.Core.Path.{◌≡◌, refl, sym, ap, ◌∙◌}
use mathlib.Core.Bool.{Bool, true, false, cond}
use mathlib.Core.List.{List}
use Prim.Native.Nat.{ℕ, suc, ◌+◌, ◌*◌, ◌/◌, ◌≤◌, ◌<◌}
use native.Mathlib.Numerals.{add-one}
use lib.Dec.{T, leb, lit≤}
use lib.IntN.{ℤ, pos}
use lib.ListN.{length, get_or, drop}
use lib.Seq.{drop-cons, drop-length}
use lib.Ieee.{Float, inf, lt, add, mul, binary32}
use borrow.Author.Tests.{eq-eqb, ne_eqb, le-leb, lt-leb}
use Rattle.bias.specs.Level.{is_level}
use Rattle.block.specs.Block.{Block, covered}
use Rattle.block.specs.Cost.{distortion, rate, token_price, first_prev, count_cost}
use Rattle.least_cost.specs.Position.{nz}
use Rattle.least_cost.specs.Search.{holder}
use Rattle.prices.specs.Book.{Book}
use Rattle.steps.specs.Place.{distortion_at, rate_at, place_of}
use Rattle.steps.specs.declared.Place.{Place}
use Rattle.steps.specs.Plan.{Planned}
use Rattle.steps.specs.declared.plan.Plan.{Plan}
use Rattle.steps.proofs.Local.{rate-same}
use Rattle.steps.specs.Best.{considered}
use Rattle.steps.specs.declared.best.Best.{Best}
use Rattle.greedy_cost.specs.Cost.{prev_of, bits_of, cost_of}

-- ---- `prev`
module _ (b : Block) (c i front count : ℕ) (e : c ≡ covered b) where
  pub prev-first : i ≡ 0 → cond (leb count (64 * c / 16)) 1 0 ≡ prev_of b i front count
  unfolding prev_of first_prev
  prev-first first = rw (eq-eqb i 0 first, ← e)

  pub prev-few : i ≡ 0 → count ≤ 64 * c / 16 → 1 ≡ prev_of b i front count
  unfolding prev_of first_prev
  prev-few first few = rw (eq-eqb i 0 first, ← e, le-leb count (64 * c / 16) few)

  pub prev-many : i ≡ 0 → 64 * c / 16 < count → 0 ≡ prev_of b i front count
  unfolding prev_of first_prev
  prev-many first many = rw (eq-eqb i 0 first, ← e, lt-leb count (64 * c / 16) many)

  pub prev-front : (i ≡ 0 → ⊥) → front ≡ prev_of b i front count
  unfolding prev_of
  prev-front past = rw (ne_eqb i 0 past)

pub flag-most : (t : Bool) → cond t 1 0 ≤ 1
flag-most true = lit≤ tt
flag-most false = lit≤ tt

-- ---- bits
module _ (book : Book) (b : Block) (plan : Plan) (i remaining prev : ℕ) (run : Float) (q q' : ℤ) (token : Float) (w : Planned b plan) (same : q' ≡ q) (some : remaining ≡ 0 → ⊥)
    (is : token ≡ token_price book b remaining (plan.covered + i) prev q') where
  pub bits-zero : nz q ≡ 0 → token ≡ bits_of book b i remaining prev run q
  unfolding bits_of
  bits-zero z = let cov = w.covered_is in rw (ne_eqb remaining 0 some, eq-eqb (nz q) 0 z) (cc)

  pub bits-nonzero : nz q ≡ 1 → add binary32 token run ≡ bits_of book b i remaining prev run q
  unfolding bits_of
  bits-nonzero z = let cov = w.covered_is in rw (ne_eqb remaining 0 some, z) (cc)

distortion-same : (b : Block) (log2 i : ℕ) (q : ℤ) → distortion_at (place_of b log2 i) q ≡ distortion b i q
unfolding distortion_at place_of distortion
distortion-same b log2 i q = refl

pub cost_is :
    (book : Book) (b : Block) (plan : Plan) (place : Place) (i later others front n prev : ℕ) (run d r bits cost : Float) (q q' : ℤ)
    → Planned b plan → place ≡ place_of b plan.log2 i → q' ≡ q → n ≡ nz q'
    → d ≡ distortion_at place q' → r ≡ rate_at place q' → prev ≡ prev_of b i front (others + n) → bits ≡ bits_of book b i (later + n) prev run q' → cost ≡ count_cost book b (others + n)
    → add binary32 (add binary32 d (mul binary32 r bits)) cost ≡ cost_of book b i later others front run q
unfolding cost_of
cost_is book b plan place i later others front n prev run d r bits cost q q' w ep eq en ed er ev eb ec =
    let dist : distortion_at (place_of b plan.log2 i) q ≡ distortion b i q = distortion-same b plan.log2 i q in
    let rated : rate_at (place_of b plan.log2 i) q ≡ rate b i q = rate-same b plan.log2 i q in
    cc

-- ---- the first least
pub considered-level : (l : Best ℤ) (x : Float) (q : ℤ) → T (is_level l.choice) → T (is_level q) → T (is_level (considered l x q).choice)
unfolding considered
considered-level l x q h k = go (lt x l.cost)
  where
    go : (t : Bool) → T (is_level (cond {A = Best ℤ} t (record { cost = x; choice = q }) l).choice)
    go true = k
    go false = h

pub holder-next : (g : ℤ → Float) (l : Best ℤ) (x : Float) (q : ℤ) (xs : List ℤ) (j : ℕ) → j < length xs → q ≡ get_or xs j (pos 0) → x ≡ g q
    → holder g (considered l x q).cost (considered l x q).choice (drop (j + 1) xs) ≡ holder g l.cost l.choice (drop j xs)
unfolding holder considered
holder-next g l x q xs j h e f = rw (drop-cons xs j (pos 0) h, add-one, ← e, f) (go (lt (g q) l.cost))
  where
    go : (t : Bool) → holder g (cond {A = Best ℤ} t (record { cost = g q; choice = q }) l).cost (cond {A = Best ℤ} t (record { cost = g q; choice = q }) l).choice (drop (suc j) xs)
        ≡ holder g (cond t (g q) l.cost) (cond t q l.choice) (drop (suc j) xs)
    go true = refl
    go false = refl

pub holder-last : (g : ℤ → Float) (v : Float) (d : ℤ) (xs : List ℤ) (j : ℕ) → j ≡ length xs → holder g v d (drop j xs) ≡ d
unfolding holder
holder-last g v d xs j e = rw (e, drop-length)

-- at the end of the list, levels handed over as 32 bits
pub holder-done : (g : ℤ → Float) (v : Float) (d d' current current' : ℤ) (xs : List ℤ) (j : ℕ) → j ≡ length xs → d' ≡ d → current' ≡ current
    → holder g v d (drop j xs) ≡ holder g (inf false) current' xs → d' ≡ holder g (inf false) current xs
holder-done g v d d' current current' xs j last same back e = same ∙ sym (holder-last g v d xs j last) ∙ e ∙ ap (λ (q : ℤ). holder g (inf false) q xs) back
