-- The terms of a cost: a distortion of at most 2 ^ 44, and a rate of at most 2 ^ 30 times a price, which is finite exactly where the price is. Assumes nothing.
use mathlib.Core.Path.{◌≡◌, refl, subst}
use mathlib.Core.Bool.{Bool, true, false}
use mathlib.Core.Logic.{◌↔◌, ⊎_elim}
use Prim.Native.Nat.{ℕ, ◌*◌, ◌^◌, ◌≤◌, ◌<◌}
use native.Mathlib.Nat.{le_trans, le_of_eq, mul-le-mul_right, mul_right_comm}
use native.Mathlib.Omega.{arith}
use borrow.Author.Tests.{ltb-true, ltb-false}
use lib.Dec.{T, ltb, le→leb, lit<, lit≤}
use lib.IntN.{pos}
use lib.ListN.{get_or, get_or-eq_default}
use lib.Ieee.{Float, nan, inf, fin, binary32, up, down, sub, mul, of_int, le}
use lib.Ieee.Scale.{finite}
use lib.Ieee.Positive.{positive}
use Rattle.candidates.specs.Nearest.{is_ideal}
use Rattle.candidates.proofs.Rounding.{ideal-size}
use Rattle.costs.specs.Cost.{cost, bounded, capped}
use Rattle.costs.proofs.Order.{same_test}
use Rattle.costs.proofs.Product.{mul-cost, square-cost}
use Rattle.costs.proofs.Sum.{inf-add, round-cost}
use Rattle.costs.proofs.Bound.{bounded-finite, bounded-more, sub-bounded, mul-bounded, bounded-capped, capped-cost, capped-more, mul-capped, mul-finite, finite-factor}
use Rattle.block.specs.Cost.{distortion_of}
use Rattle.prices.specs.Book.{Book, cluster_price, price, at}
use Rattle.prices.specs.Checks.{book_refusal, symbol_price}
use Rattle.prices.proofs.Passed.{sound, five}
use Rattle.prices.proofs.Costs.{kinds, cluster-capped, cluster-finite, symbol-passes, symbol_price_of}
use Rattle.weights.proofs.Parts.{finite_number}

-- ---- a distortion

scaled : (a d p : ℕ) → a ≤ 32767 * d → a * p ≤ 32767 * p * d
scaled a d p h = le_trans (mul-le-mul_right p h) (le_of_eq (mul_right_comm 32767 d p))

pub ideal-bounded : (x : Float) → T (is_ideal x) → T (bounded binary32 32767 149 x)
unfolding bounded is_ideal le
ideal-bounded nan h = absurd h
ideal-bounded (inf true) h = absurd h
ideal-bounded (inf false) h = absurd h
ideal-bounded (fin s m e) h =
    le→leb (m * up e * 2 ^ 149) (32767 * 2 ^ 149 * down e) (scaled (m * up e) (down e) (2 ^ 149) (ideal-size (fin s m e) s (m * up e) (down e) (refl, refl) h))

module _ (weight ideal level : Float) (P : T (positive weight)) (W : T (bounded binary32 1 161 weight)) (I : T (bounded binary32 32767 149 ideal)) (L : T (bounded binary32 32768 149 level)) where
  off : Float
  off = sub binary32 ideal level

  off-bounded : T (bounded binary32 1 165 off)
  unfolding off
  off-bounded =
      bounded-more binary32 65535 149 1 165 off (lit≤ {m = 65535 * 2 ^ 149} {n = 1 * 2 ^ 165} tt)
      (sub-bounded binary32 32767 32768 149 ideal level (lit< {m = 65535} {n = 2 ^ 24} tt) (lit< {m = 65535 * 2 ^ 149} {n = 2 ^ 277} tt) I L)

  square-bounded : T (bounded binary32 1 181 (mul binary32 off off))
  square-bounded =
      mul-bounded binary32 1 165 1 165 181 off off refl (lit< {m = 1} {n = 2 ^ 24} tt) (lit< {m = 1 * 2 ^ 181} {n = 2 ^ 277} tt) off-bounded off-bounded

  pub distortion-bounded : T (bounded binary32 1 193 (distortion_of weight ideal level))
  unfolding distortion_of off
  distortion-bounded =
      mul-bounded binary32 1 161 1 181 193 weight (mul binary32 off off) refl (lit< {m = 1} {n = 2 ^ 24} tt) (lit< {m = 1 * 2 ^ 193} {n = 2 ^ 277} tt) W square-bounded

  distortion-cost : T (cost (distortion_of weight ideal level))
  unfolding distortion_of off
  distortion-cost = mul-cost binary32 weight (mul binary32 off off) P (square-cost binary32 off (finite_number off (bounded-finite binary32 1 165 off off-bounded)))

  pub distortion-capped : T (capped binary32 1 193 (distortion_of weight ideal level))
  distortion-capped = bounded-capped binary32 1 193 (distortion_of weight ideal level) distortion-cost (λ t. distortion-bounded)

-- ---- a price in any context: a context past the map has the first cluster

any-cluster : (book : Book) → book_refusal book ≡ 0 → (context : ℕ) → get_or book.map context 0 < book.clusters
any-cluster book ok context = go (ltb context 14850) refl
  where
    go : (t : Bool) → ltb context 14850 ≡ t → get_or book.map context 0 < book.clusters
    go true e = (sound book (five book ok)).mapped context (ltb-true context 14850 e)
    go false e =
        let p = sound book (five book ok) in
        let past = ltb-false context 14850 e in
        rw (get_or-eq_default book.map 0 {n = context} (omega (arith, p.contexts))) p.some

module _ (book : Book) (ok : book_refusal book ≡ 0) (context v : ℕ) (hv : v ≤ 131071) where
  symbol-ok : symbol_price (symbol_price_of book context v) ≡ true
  unfolding symbol_price_of
  symbol-ok = symbol-passes book (sound book (five book ok)) (get_or book.map context 0) v (any-cluster book ok context) hv

  -- +infinity, or at least 0 and at most 1,041
  pub price-capped : T (capped binary32 1041 149 (price book context v))
  unfolding price symbol_price_of
  price-capped = cluster-capped book.configs book.symbols (get_or book.map context 0) v hv symbol-ok

  price-finite : T (finite (symbol_price_of book context v)) → T (finite (price book context v))
  unfolding price symbol_price_of
  price-finite = cluster-finite book.configs book.symbols (get_or book.map context 0) v hv symbol-ok

  extra-cost : (n : ℕ) → T (cost (of_int binary32 (pos n)))
  unfolding of_int
  extra-cost n = round-cost binary32 n 1

  symbol-infinite : symbol_price_of book context v ≡ inf false → price book context v ≡ inf false
  unfolding price cluster_price symbol_price_of
  symbol-infinite e = rw e (inf-add binary32 _ (extra-cost _))

  -- infinite exactly where the price of the value's symbol is
  pub price-infinite : (price book context v ≡ inf false) ↔ (symbol_price_of book context v ≡ inf false)
  price-infinite = (
    λ e. ⊎_elim (λ p. absurd (subst (λ (x : Float). T (finite x)) e (price-finite p))) (λ p. p) (kinds (symbol_price_of book context v) symbol-ok),
    symbol-infinite,
  )

-- ---- a rate times a price

module _ (rate bits : Float) (P : T (positive rate)) (R : T (bounded binary32 1 179 rate)) (B : T (capped binary32 1041 149 bits)) where
  pub charge-capped : T (capped binary32 1 193 (mul binary32 rate bits))
  charge-capped =
      capped-more binary32 1041 179 1 193 (mul binary32 rate bits) (lit≤ {m = 1041 * 2 ^ 179} {n = 1 * 2 ^ 193} tt)
      (mul-capped binary32 1 179 1041 149 179 rate bits refl (lit< {m = 1041} {n = 2 ^ 24} tt) (lit< {m = 1041 * 2 ^ 179} {n = 2 ^ 277} tt) P R B)

  pub charge-finite : finite (mul binary32 rate bits) ≡ finite bits
  charge-finite =
      same_test (finite (mul binary32 rate bits)) (finite bits) (finite-factor binary32 rate bits P (capped-cost binary32 1041 149 bits B))
      (mul-finite binary32 1 179 1041 149 179 rate bits refl (lit< {m = 1041} {n = 2 ^ 24} tt) (lit< {m = 1041 * 2 ^ 179} {n = 2 ^ 277} tt) R B)
