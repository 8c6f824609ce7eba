-- Positions and counts of one quotient by the covered blocks have one context. Assumes nothing.
use mathlib.Core.Path.{◌≡◌, refl, sym, ap, ◌∙◌, subst⁻¹}
use mathlib.Core.Bool.{Bool, true, false, cond}
use mathlib.Core.List.{List}
use Prim.Native.Nat.{ℕ, zero, suc, ◌+◌, ◌-◌, ◌*◌, ◌/◌, ◌≤◌, ◌<◌}
use native.Mathlib.Nat.{le_refl, suc-mul, div-mul-le_self, div-add-mod', mod-lt, mul-le-mul_right, lt_of_mul-lt-mul_right, not-suc-le-zero, le_of_suc-le-suc}
use native.Mathlib.Omega.{arith}
use native.Mathlib.Numerals.{add-one}
use lib.Dec.{eqb}
use borrow.Author.Tests.{eqb-true, eqb-false}
use lib.IntN.{ℤ}
use lib.ListN.{length, get_or}
use lib.Ieee.{Float, add, mul, binary32}
use Rattle.ac_context.specs.Contexts.{zero_density_context, Coefficient}
use Rattle.ac_context.proofs.Bounds.{covered-some, position-below, pair-below, next-context}
use Rattle.block.specs.Block.{Block}
use Rattle.block.specs.Cost.{token_price}
use Rattle.packing.specs.Signed.{pack_signed}
use Rattle.least_cost.proofs.Trial.{nz-le}
use Rattle.least_cost.specs.Position.{nz}
use Rattle.prices.specs.Book.{Book, book_in, price, cluster_price}
use Rattle.prices.specs.Contents.{contents}
use Rattle.prices.specs.declared.book.PriceBook.{PriceBook}
use Rattle.prices.proofs.Held.{mapped}
use Rattle.scan.specs.Scan.{level_at}
use Rattle.steps.specs.Plan.{Planned}
use Rattle.steps.specs.Tail.{Shared, Standing, Continued, cluster_at}
use Rattle.steps.specs.declared.plan.Plan.{Plan}
use Rattle.steps.specs.declared.tail.Stretch.{Stretch}
use Rattle.steps.specs.declared.tail.Tail.{Tail}
use Rattle.steps.proofs.Counting.{among_first, among-most}
use Rattle.steps.proofs.Tails.{tokens-step}
use Rattle.prices.specs.Checks.{ClusterPassed}
use Rattle.prices.proofs.Passed.{Passed, priced-in}

module _ (c : ℕ) (some : 0 < c) where
  quotient : (q x : ℕ) → q * c ≤ x → x < suc q * c → x / c ≡ q
  quotient q x low high =
      let s : q * c < suc (x / c) * c = rw suc-mul (omega (arith, div-add-mod' x c, mod-lt x some)) in
      let t : x / c * c < suc q * c = omega (arith, div-mul-le_self x c) in
      omega (arith, lt_of_mul-lt-mul_right c s, lt_of_mul-lt-mul_right c t)

  pub position-same : (k i : ℕ) → k ≤ i → i < (k / c + 1) * c → i / c ≡ k / c
  position-same k i low high =
      quotient (k / c) i (omega (arith, div-mul-le_self k c)) (omega (arith, high))

  count-up : (n m : ℕ) → 1 ≤ n → (n - 1) / c * c + 1 ≤ m → m ≤ n → (m + c - 1) / c ≡ suc ((n - 1) / c)
  count-up n m one low high =
      quotient (suc ((n - 1) / c)) (m + c - 1)
      (rw suc-mul (omega (arith, low, some)))
      (rw (suc-mul, suc-mul) (omega (arith, high, one, some, div-add-mod' (n - 1) c, mod-lt (n - 1) some)))

  pub count_same : (n m : ℕ) → 1 ≤ n → (n - 1) / c * c + 1 ≤ m → m ≤ n → (m + c - 1) / c ≡ (n + c - 1) / c
  count_same n m one low high =
      count-up n m one low high ∙ sym (count-up n n one (omega (arith, one, div-mul-le_self (n - 1) c)) (omega arith))

  pub context-same : (n k m i prev : ℕ) → 1 ≤ n → (n - 1) / c * c + 1 ≤ m → m ≤ n → k ≤ i → i < (k / c + 1) * c → zero_density_context c m i prev ≡ zero_density_context c n k prev
  unfolding zero_density_context
  context-same n k m i prev one low high from upto = rw (count_same n m one low high, position-same k i from upto)

  pub end-most : (k n : ℕ) → Coefficient c n k 0 → (k / c + 1) * c ≤ 64 * c
  end-most k n w = mul-le-mul_right c (omega (arith, position-below c n k some w.some w.left))

pub shared : (p : Plan) (map : List ℕ) (n k a b : ℕ) → 0 < p.covered → Coefficient p.covered n k 0
    → a ≡ cluster_at p map n k 0 → b ≡ cluster_at p map n k 1
    → Shared p map k n (record { end = (k / p.covered + 1) * p.covered; least = (n - 1) / p.covered * p.covered + 1; zero = a; one = b })
shared p map n k a b some w ez eo =
    record {
      here = rw (add-one, suc-mul) (omega (arith, div-add-mod' k p.covered, mod-lt k some));
      ends = end-most p.covered some k n w;
      some = omega arith;
      counted = omega (arith, w.some, div-mul-le_self (n - 1) p.covered);
      zero_is = λ m i low high from upto. ap (λ (x : ℕ). get_or map (p.offset + x) 0) (context-same p.covered some n k m i 0 w.some low high from upto) ∙ sym ez;
      one_is = λ m i low high from upto. ap (λ (x : ℕ). get_or map (p.offset + x) 0) (context-same p.covered some n k m i 1 w.some low high from upto) ∙ sym eo;
    }

-- fewer remain, so a position was passed
pub passed-some : {k i r n least : ℕ} → k ≤ i → (i ≡ k → r ≡ n) → r < least → least ≤ n → k < i
passed-some {k} {i} {r} {n} {least} from same low counted = go (eqb i k) refl
  where
    go : (t : Bool) → eqb i k ≡ t → k < i
    go true e = absurd (omega (arith, same (eqb-true i k e), low, counted))
    go false e = omega (arith, from, eqb-false i k e)

-- the token's cost, its cluster at hand
pub stretch-price : (map configs : List ℕ) (symbols ready : List Float) (b : Block) (p : Plan) (s : Stretch) (k most r i prev : ℕ) (q : ℤ) → Planned b p → Shared p map k most s
    → s.least ≤ r → r ≤ most → k ≤ i → i < s.end → prev ≤ 1
    → cluster_price configs symbols (cond (eqb prev 0) s.zero s.one) (pack_signed q) ≡ token_price (book_in map configs symbols ready) b r i prev q
unfolding token_price price
stretch-price map configs symbols ready b p s k most r i zero q w sh low high from upto flag =
    let cluster = sh.zero_is r i low high from upto in
    let offset = w.offset_is in
    let covers = w.covered_is in
    cc
stretch-price map configs symbols ready b p s k most r i (suc zero) q w sh low high from upto flag =
    let cluster = sh.one_is r i low high from upto in
    let offset = w.offset_is in
    let covers = w.covered_is in
    cc
stretch-price map configs symbols ready b p s k most r i (suc (suc prev)) q w sh low high from upto flag =
    absurd (not-suc-le-zero (le_of_suc-le-suc flag))

-- one of two clusters of a book is one of its clusters
pub cluster-by : (n zero one prev cluster : ℕ) → cluster ≡ cond (eqb prev 0) zero one → zero < n → one < n → cluster < n
cluster-by n a b prev cluster e x y = subst⁻¹ (λ k. k < n) e (go (eqb prev 0))
  where
    go : (t : Bool) → cond t a b < n
    go true = x
    go false = y

-- both clusters of a stretch are the book's
pub both-clusters : (book : PriceBook) (p : Plan) {n k : ℕ} {s : Stretch} → Coefficient p.covered n k 0 → Shared p book.map.now k n s
    → (s.zero < (contents book).clusters) × (s.one < (contents book).clusters)
both-clusters book p {n} {k} {s} co sh =
    let few = pair-below (covered-some p.coded.covers) co in
    let zero = mapped book (p.offset + zero_density_context p.covered n k 0) (omega (arith, few, p.coded.offset)) in
    let one = mapped book (p.offset + zero_density_context p.covered n k 1) (omega (arith, few, next-context p.covered n k, p.coded.offset)) in
    (rw (sh.zero_is n k sh.counted (le_refl n) (le_refl k) sh.here) at zero, rw (sh.one_is n k sh.counted (le_refl n) (le_refl k) sh.here) at one)

-- one of two clusters that have prices has prices
pub priced-by : (configs : List ℕ) (symbols ready : List Float) (zero one prev cluster : ℕ) → cluster ≡ cond (eqb prev 0) zero one
    → ClusterPassed configs symbols ready zero → ClusterPassed configs symbols ready one → ClusterPassed configs symbols ready cluster
priced-by configs symbols ready a b prev cluster e x y = subst⁻¹ (ClusterPassed configs symbols ready) e (go (eqb prev 0))
  where
    go : (t : Bool) → ClusterPassed configs symbols ready (cond t a b)
    go true = x
    go false = y

-- both clusters of a stretch have prices where the book passed
pub both-priced : {map configs : List ℕ} {symbols ready : List Float} {p : Plan} {n k : ℕ} {s : Stretch} → Passed (book_in map configs symbols ready) → Coefficient p.covered n k 0 → Shared p map k n s
    → (ClusterPassed configs symbols ready s.zero) × (ClusterPassed configs symbols ready s.one)
both-priced {map} {configs} {symbols} {ready} {p} {n} {k} {s} book co sh =
    let few = pair-below (covered-some p.coded.covers) co in
    let zero = book.sound.mapped (p.offset + zero_density_context p.covered n k 0) (omega (arith, few, p.coded.offset)) in
    let one = book.sound.mapped (p.offset + zero_density_context p.covered n k 1) (omega (arith, few, next-context p.covered n k, p.coded.offset)) in (
      priced-in book (rw (sh.zero_is n k sh.counted (le_refl n) (le_refl k) sh.here) at zero),
      priced-in book (rw (sh.one_is n k sh.counted (le_refl n) (le_refl k) sh.here) at one),
    )

-- the next token is a coefficient's, where nonzero levels are left
pub standing-coefficient : {scan : List ℕ} {levels : List ℤ} {t : Tail} {c : ℕ} → Standing scan levels t → length scan ≡ 64 * c → c ≤ t.k → (t.remaining ≡ 0 → ⊥) → Coefficient c t.remaining t.k 0
standing-coefficient {scan} {levels} {t} {c} st e low some =
    let few : t.remaining ≤ length scan - t.k = rw st.left (among-most _ _ _ _) in
    record { some = omega (arith, some); left = omega (arith, few, st.ended, e); coded = omega (arith, low); flag = omega arith }

-- one token further
pub standing-step : {scan : List ℕ} {levels : List ℤ} {t : Tail} {level : ℤ} {n : ℕ} {x y : Float} → Standing scan levels t → t.k < length scan → level ≡ level_at scan levels t.k → n ≡ nz level
    → Standing scan levels (record { k = t.k + 1; remaining = t.remaining - n; prev = n; first = x; second = y })
standing-step {scan} {levels} {t} {level} {n} s here e en =
    let one : n ≡ nz (level_at scan levels t.k) = en ∙ ap nz e in
    record {
      ended = omega (arith, here);
      flag = rw one (nz-le _);
      left = omega (arith, s.left, one, among_first scan levels (length scan) t.k here);
      within = s.within;
      level = λ k low. s.level k (omega (arith, low));
    }

pub continued-step : {scan : List ℕ} {levels : List ℤ} {t from : Tail} {level : ℤ} {n : ℕ} {lambda cost : Float} {map configs : List ℕ} {symbols ready : List Float} {b : Block} {p : Plan} {s : Stretch}
    → Standing scan levels t → t.k < length scan → level ≡ level_at scan levels t.k → n ≡ nz level → scan ≡ b.scan → levels ≡ b.levels → Planned b p → p.lambda ≡ lambda → Shared p map from.k from.remaining s
    → s.least ≤ t.remaining → t.remaining ≤ from.remaining → from.k ≤ t.k → t.k < s.end → (t.remaining ≡ 0 → ⊥)
    → cost ≡ mul binary32 lambda (cluster_price configs symbols (cond (eqb t.prev 0) s.zero s.one) (pack_signed level))
    → Continued (book_in map configs symbols ready) b (length scan) from t
    → Continued (book_in map configs symbols ready) b (length scan) from (record { k = t.k + 1; remaining = t.remaining - n; prev = n; first = add binary32 t.first cost; second = add binary32 t.second cost })
continued-step {scan} {levels} {t} {from} {level} {n} {lambda} {cost} {map} {configs} {symbols} {ready} {b} {p} {s} st here e en es el w lam sh low high after inside some ec so =
    let price = stretch-price map configs symbols ready b p s from.k from.remaining t.remaining t.k t.prev level w sh low high after inside st.flag in
    let rated : cost ≡ mul binary32 p.lambda (token_price (book_in map configs symbols ready) b t.remaining t.k t.prev level) = cc in
    record {
      first = tokens-step _ b p scan levels (length scan) t.remaining t.k t.prev n t.first cost level es el w e rated en here some ∙ so.first;
      second = tokens-step _ b p scan levels (length scan) t.remaining t.k t.prev n t.second cost level es el w e rated en here some ∙ so.second;
    }

-- one stretch after the other
pub continued-after : {book : Book} {b : Block} {size : ℕ} {s t u : Tail} → Continued book b size s t → Continued book b size t u → Continued book b size s u
continued-after x y = record { first = y.first ∙ x.first; second = y.second ∙ x.second }
