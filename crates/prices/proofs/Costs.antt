-- A price from a book that passes checks 1 to 6 is a cost: +infinity exactly where its symbol's price is, else at most 1,041.
use mathlib.Core.List.{List}
use Prim.Native.Nat.{zero-le, ℕ, zero, suc, ◌+◌, ◌-◌, ◌*◌, ◌^◌, ◌<◌, ◌≤◌}
use mathlib.Core.Path.{◌≡◌, refl, sym, ◌∙◌, subst, subst⁻¹}
use mathlib.Core.Bool.{Bool, true, false, cond, ◌&&◌, ◌||◌, false≢true}
use mathlib.Core.Logic.{◌⊎◌, inl, inr, ⊎_elim}
use native.Mathlib.Omega.{arith}
use native.Mathlib.Nat.{zero-mul, zero-add, sub-zero, le_trans, mul-le-mul_right, mul-pos, zero-lt-suc}
use lib.Dec.{T, ltb, le→leb, lit<, lit≤}
use lib.IntN.{ℤ, pos}
use lib.ListN.{get_or}
use lib.Ieee.{Float, nan, inf, fin, add, sum, round, of_int, in_float, le, lt, eq, up, down, binary32}
use lib.Ieee.Fits.{up_pos, of_int-fits}
use lib.Ieee.Order.{round_mono}
use lib.Ieee.Scale.{finite}
use borrow.Author.Tests.{ltb-true, lt-ltb, le-ltb, ne_eqb}
use Rattle.costs.specs.Cost.{cost, bounded, capped}
use Rattle.costs.proofs.View.{Cost, at-inf, at-fin, view}
use Rattle.costs.proofs.Order.{le→cross, lt-le-trans}
use Rattle.costs.proofs.Sum.{round-cost, inf-add, add-cost, add-comm-cost, le-add}
use Rattle.costs.proofs.Bound.{round-bounded, bounded-capped, capped-cost, add-capped, add-finite, bounded-finite}
use Rattle.packing.proofs.Hybrid.{extra-bits-few}
use Rattle.prices.specs.Book.{Book, at, symbol_at, cluster_symbol, cluster_extra, cluster_price, price}
use Rattle.prices.specs.Checks.{symbol_price, book_refusal}
use Rattle.prices.proofs.Each.{both}
use Rattle.prices.proofs.Passed.{Sound, sound, five}

-- ---- a symbol price

zero-sum : (a b c : ℕ) → a ≡ 0 → cond (ltb a b) (round binary32 false (b - a) c) (round binary32 (true && ltb b a) (a - b) c) ≡ round binary32 false (a + b) c
zero-sum a zero c e = simp (e, le-ltb 0 0 (omega arith))
zero-sum a (suc b) c e = simp (e, lt-ltb 0 (suc b) (omega arith), zero-add (suc b), sub-zero (suc b))

-- -0.0 counts as 0: added to a cost it is as +0.0
negative-zero-add : (e : ℤ) (y : Float) → T (cost y) → add binary32 (fin true 0 e) y ≡ add binary32 (fin false 0 e) y
unfolding add sum
negative-zero-add e y h = go y (view y h)
  where
    go : (z : Float) → Cost z → add binary32 (fin true 0 e) z ≡ add binary32 (fin false 0 e) z
    go z at-inf = refl
    go z (at-fin n d) = zero-sum (0 * up e * down d) (n * up d * down e) (down e * down d) (rw (zero-mul (up e), zero-mul (down d)))

or-false : (b : Bool) → b || false ≡ true → T b
or-false true e = tt
or-false false e = absurd (false≢true e)

scaled : (a d p : ℕ) → a * 1 ≤ 1 * 1024 * d → a * p ≤ 1024 * p * d
scaled a d p h = omega (arith, mul-le-mul_right p h)

-- A symbol price is a cost of at most 1,024 or +infinity, or -0.0.
of-symbol : (x : Float) → symbol_price x ≡ true → T (capped binary32 1024 149 x) ⊎ ((e : ℤ) × (x ≡ fin true 0 e))
unfolding symbol_price capped bounded le lt eq
of-symbol nan h = absurd (false≢true h)
of-symbol (inf true) h = absurd (false≢true h)
of-symbol (inf false) h = inl tt
of-symbol (fin true zero e) h = inr (e, refl)
of-symbol (fin true (suc m) e) h =
    let positive = mul-pos (zero-lt-suc m) (up_pos e) in
    absurd (false≢true (sym (simp (ne_eqb (0 * down e) (suc m * up e * 1) (λ q. omega (arith, zero-mul (down e))))) ∙ h))
of-symbol (fin false m e) h =
    let small = (both (le (fin false 0 (pos 0)) (fin false m e)) (le (fin false m e) (fin false 1 (pos 10)) || eq (fin false m e) (inf false)) h).1 in
    inl (le→leb _ _ (scaled (m * up e) (down e) (2 ^ 149) (le→cross m e 1 (pos 10) (or-false (le (fin false m e) (fin false 1 (pos 10))) small))))

pub kinds : (x : Float) → symbol_price x ≡ true → T (finite x) ⊎ (x ≡ inf false)
unfolding symbol_price le lt eq
kinds nan h = absurd (false≢true h)
kinds (inf true) h = absurd (false≢true h)
kinds (inf false) h = inr refl
kinds (fin s m e) h = inl tt

-- ---- extra bits

extra-bounded : (n : ℕ) → n ≤ 17 → T (bounded binary32 17 149 (of_int binary32 (pos n)))
unfolding of_int
extra-bounded n h =
    round-bounded binary32 false n 1 17 149 (lit< {m = 0} {n = 1} tt) (lit< {m = 17} {n = 2 ^ 24} tt)
    (lit< {m = 17 * 2 ^ 149} {n = 2 ^ 277} tt) (le_trans (mul-le-mul_right (2 ^ 149) h) (lit≤ {m = 17 * 2 ^ 149} {n = 17 * 2 ^ 149 * 1} tt))

extra-cost : (n : ℕ) → T (cost (of_int binary32 (pos n)))
unfolding of_int
extra-cost n = round-cost binary32 n 1

extra-capped : (n : ℕ) → n ≤ 17 → T (capped binary32 17 149 (of_int binary32 (pos n)))
extra-capped n h = bounded-capped binary32 17 149 (of_int binary32 (pos n)) (extra-cost n) (λ t. extra-bounded n h)

-- ---- a price

zero-capped : (e : ℤ) → T (capped binary32 1024 149 (fin false 0 e))
unfolding capped bounded
zero-capped e = le→leb (0 * up e * 2 ^ 149) (1024 * 2 ^ 149 * down e) (rw (zero-mul (up e), zero-mul (2 ^ 149)) zero-le)

-- a symbol price plus at most 17 extra bits
module _ (n : ℕ) (few : n ≤ 17) where
  capped-sum : (x : Float) → T (capped binary32 1024 149 x) → T (capped binary32 1041 149 (add binary32 x (of_int binary32 (pos n))))
  capped-sum x h =
      add-capped binary32 1024 17 149 x (of_int binary32 (pos n)) (lit< {m = 1041} {n = 2 ^ 24} tt) (lit< {m = 1041 * 2 ^ 149} {n = 2 ^ 277} tt) h
      (extra-capped n few)

  finite-sum : (x : Float) → T (capped binary32 1024 149 x) → T (finite x) → T (finite (add binary32 x (of_int binary32 (pos n))))
  finite-sum x h p =
      add-finite binary32 1024 17 149 x (of_int binary32 (pos n)) (lit< {m = 1041} {n = 2 ^ 24} tt) (lit< {m = 1041 * 2 ^ 149} {n = 2 ^ 277} tt) h
      (extra-capped n few) p (bounded-finite binary32 17 149 _ (extra-bounded n few))

  sum-capped : (x : Float) → symbol_price x ≡ true → T (capped binary32 1041 149 (add binary32 x (of_int binary32 (pos n))))
  sum-capped x h =
      ⊎_elim (capped-sum x)
      (λ z.
      subst⁻¹ (λ (y : Float). T (capped binary32 1041 149 (add binary32 y (of_int binary32 (pos n))))) z.1
      (subst⁻¹ (λ (y : Float). T (capped binary32 1041 149 y)) (negative-zero-add z.0 (of_int binary32 (pos n)) (extra-cost n))
      (capped-sum (fin false 0 z.0) (zero-capped z.0))))
      (of-symbol x h)

  sum-finite : (x : Float) → symbol_price x ≡ true → T (finite x) → T (finite (add binary32 x (of_int binary32 (pos n))))
  sum-finite x h p =
      ⊎_elim (λ c. finite-sum x c p)
      (λ z.
      subst⁻¹ (λ (y : Float). T (finite (add binary32 y (of_int binary32 (pos n))))) z.1
      (subst⁻¹ (λ (y : Float). T (finite y)) (negative-zero-add z.0 (of_int binary32 (pos n)) (extra-cost n))
      (finite-sum (fin false 0 z.0) (zero-capped z.0) tt)))
      (of-symbol x h)

-- a number of extra bits is a float
pub extra-exact : (n : ℕ) → n ≤ 16 → T (in_float binary32 (pos n))
unfolding in_float
extra-exact n h = le→leb n (2 ^ 24) (omega arith)

pub zero-extra : of_int binary32 (pos 0) ≡ fin false 0 (pos 0)
unfolding of_int
zero-extra = refl

-- a symbol price plus no extra bits
pub zero-sum-cost : (x : Float) → symbol_price x ≡ true → T (cost (add binary32 x (fin false 0 (pos 0))))
zero-sum-cost x h =
    subst (λ (y : Float). T (cost (add binary32 x y))) zero-extra
    (capped-cost binary32 1041 149 _ (sum-capped 0 (lit≤ {m = 0} {n = 17} tt) x h))

-- a symbol price plus at least one extra bit is above 0
module _ (n : ℕ) (some : 0 < n) where
  extra-above : T (lt (fin false 0 (pos 0)) (of_int binary32 (pos n)))
  unfolding lt cost of_int
  extra-above =
      lt-le-trans (fin false 0 (pos 0)) (fin false 1 (pos 0)) (of_int binary32 (pos n)) tt tt (extra-cost n) tt
      (round_mono binary32 1 1 n 1 (lit< {m = 0} {n = 1} tt) (lit< {m = 0} {n = 1} tt) (omega arith))

  cost-above : (x : Float) → T (cost x) → T (lt (fin false 0 (pos 0)) (add binary32 x (of_int binary32 (pos n))))
  unfolding cost
  cost-above x h =
      let e = of_int binary32 (pos n) in
      lt-le-trans (fin false 0 (pos 0)) e (add binary32 x e) tt (extra-cost n) (add-cost binary32 x e h (extra-cost n)) extra-above
      (subst (λ (y : Float). T (le e y)) (add-comm-cost binary32 e x (extra-cost n) h) (le-add binary32 e x (extra-cost n) h (of_int-fits binary32 (pos n))))

  pub sum-above : (x : Float) → symbol_price x ≡ true → T (lt (fin false 0 (pos 0)) (add binary32 x (of_int binary32 (pos n))))
  unfolding cost
  sum-above x h =
      ⊎_elim (λ c. cost-above x (capped-cost binary32 1024 149 x c))
      (λ z.
      subst⁻¹ (λ (y : Float). T (lt (fin false 0 (pos 0)) (add binary32 y (of_int binary32 (pos n))))) z.1
      (subst⁻¹ (λ (y : Float). T (lt (fin false 0 (pos 0)) y)) (negative-zero-add z.0 (of_int binary32 (pos n)) (extra-cost n))
      (cost-above (fin false 0 z.0) tt)))
      (of-symbol x h)

-- the price of a symbol is a symbol price, where those of the 128 are
pub symbol-priced : (symbols : List Float) (k t : ℕ) → ((i : ℕ) → i < 128 → symbol_price (at symbols (128 * k + i)) ≡ true) → symbol_price (symbol_at symbols k t) ≡ true
unfolding symbol_at symbol_price le lt eq
symbol-priced symbols k t all = go (ltb t 128) refl
  where
    go : (b : Bool) → ltb t 128 ≡ b → symbol_price (cond b (at symbols (128 * k + t)) (inf false)) ≡ true
    go true e = all t (ltb-true t 128 e)
    go false e = refl

-- a value whose symbol is above 127 costs +infinity, whatever its extra bits
pub no_word : (configs : List ℕ) (symbols : List Float) (k v : ℕ) → 127 < cluster_symbol configs k v → cluster_price configs symbols k v ≡ inf false
unfolding cluster_price symbol_at
no_word configs symbols k v h = rw (le-ltb (cluster_symbol configs k v) 128 h) (inf-add binary32 _ (extra-cost _))

pub extra-few : (configs : List ℕ) (k v : ℕ) → v ≤ 131071 → cluster_extra configs k v ≤ 16
unfolding cluster_extra
extra-few configs k v h = extra-bits-few _ _ _ v h

-- the price of value v in cluster k, where the price of its symbol passes check 5
module _ (configs : List ℕ) (symbols : List Float) (k v : ℕ) (hv : v ≤ 131071) (ok : symbol_price (symbol_at symbols k (cluster_symbol configs k v)) ≡ true) where
  pub cluster-capped : T (capped binary32 1041 149 (cluster_price configs symbols k v))
  unfolding cluster_price
  cluster-capped = sum-capped _ (le_trans (extra-few configs k v hv) (lit≤ {m = 16} {n = 17} tt)) _ ok

  pub cluster-cost : T (cost (cluster_price configs symbols k v))
  cluster-cost = capped-cost binary32 1041 149 _ cluster-capped

  pub cluster-finite : T (finite (symbol_at symbols k (cluster_symbol configs k v))) → T (finite (cluster_price configs symbols k v))
  unfolding cluster_price
  cluster-finite = sum-finite _ (le_trans (extra-few configs k v hv) (lit≤ {m = 16} {n = 17} tt)) _ ok

-- the symbol of value v in cluster k of a book that passes checks 1 to 5
pub symbol-passes : (b : Book) → Sound b → (k v : ℕ) → k < b.clusters → v ≤ 131071 → symbol_price (symbol_at b.symbols k (cluster_symbol b.configs k v)) ≡ true
symbol-passes b p k v hk hv = symbol-priced b.symbols k (cluster_symbol b.configs k v) (λ i h. p.priced _ (omega arith))

pub sound-cost : (b : Book) → Sound b → (k v : ℕ) → k < b.clusters → v ≤ 131071 → T (cost (cluster_price b.configs b.symbols k v))
sound-cost b p k v hk hv = cluster-cost b.configs b.symbols k v hv (symbol-passes b p k v hk hv)

-- the price of the symbol of value v in a context
unfoldable pub symbol_price_of : Book → ℕ → ℕ → Float
symbol_price_of b context v = symbol_at b.symbols (get_or b.map context 0) (cluster_symbol b.configs (get_or b.map context 0) v)

module _ (b : Book) (ok : book_refusal b ≡ 0) (context v : ℕ) (hc : context < 14850) (hv : v ≤ 131071) where
  context-symbol : symbol_price (symbol_price_of b context v) ≡ true
  unfolding symbol_price_of
  context-symbol =
      let p = sound b (five b ok) in
      symbol-passes b p (get_or b.map context 0) v (p.mapped context hc) hv

  -- A price is +infinity, or at least 0 and at most 1,041.
  pub price-capped : T (capped binary32 1041 149 (price b context v))
  unfolding price symbol_price_of
  price-capped = cluster-capped b.configs b.symbols (get_or b.map context 0) v hv context-symbol

  pub price-cost : T (cost (price b context v))
  price-cost = capped-cost binary32 1041 149 (price b context v) price-capped

  -- It is finite exactly where the price of the value's symbol is.
  pub price-finite : T (finite (symbol_price_of b context v)) → T (finite (price b context v))
  unfolding price symbol_price_of
  price-finite = cluster-finite b.configs b.symbols (get_or b.map context 0) v hv context-symbol

  pub price-infinite : symbol_price_of b context v ≡ inf false → price b context v ≡ inf false
  unfolding price cluster_price symbol_price_of
  price-infinite e = rw e (inf-add binary32 _ (extra-cost _))

  pub infinite-symbol : price b context v ≡ inf false → symbol_price_of b context v ≡ inf false
  infinite-symbol e =
      ⊎_elim (λ p. absurd (subst (λ (x : Float). T (finite x)) e (price-finite p))) (λ p. p)
      (kinds (symbol_price_of b context v) context-symbol)
