-- The first tokens of a list, as a list of their own; and that counting them the other way brings a tally back. Assumes nothing.
use Rattle.std.proofs.Common.{◌≡◌, ℕ, zero, suc, ◌+◌, ◌-◌, ◌≤◌, ◌<◌, List, true, cond, eqb, length, get_or, take, refl, sym, ap, ap₂, subst, ◌∙◌, arith, length-take}
use Rattle.std.proofs.lemmas.List.{get_or-take}
use Rattle.tallying.specs.declared.Change.{Change}
use Rattle.tallying.specs.declared.Change.TheVariants.{Add, Remove}
use Rattle.tallying.specs.Uses.{Tokens, tokens_of, cluster_at, place_at, extra_at, used_at, extra_used}
use Rattle.tallying.specs.Tally.{Tally, tally_of, listed, many, are_tokens, plus, minus}
use Rattle.tallying.specs.Counting.{has_room, SomeAdded, SomeRemoved}
use Rattle.prices.proofs.Each.{each_all}
use borrow.Author.Tests.{eq-eqb, le-leb}
use Rattle.tallying.proofs.Checks.{Countable, is_token, same-lengths, token-at}
use Rattle.tallying.specs.Changes.{opposite, SomeCounted}
use Rattle.tallying.proofs.Lists.{listed-length, listed_at, listed_is}
use Rattle.tallying.proofs.Undone.{taken_back, put_back}

abbrev pub first : Tokens → ℕ → Tokens
first t n = tokens_of (take n t.contexts) (take n t.values)

module _ (map configs : List ℕ) (t : Tokens) (n : ℕ) where
  place-same : (i : ℕ) → i < n → place_at map configs (first t n) i ≡ place_at map configs t i
  unfolding place_at cluster_at
  place-same i h = rw (get_or-take n t.contexts i 0 h, get_or-take n t.values i 0 h) refl

  extra-same : (i : ℕ) → i < n → extra_at map configs (first t n) i ≡ extra_at map configs t i
  unfolding extra_at cluster_at
  extra-same i h = rw (get_or-take n t.contexts i 0 h, get_or-take n t.values i 0 h) refl

  used-same : (m : ℕ) → m ≤ n → (s : ℕ) → used_at map configs (first t n) m s ≡ used_at map configs t m s
  unfolding used_at
  used-same zero h s = refl
  used-same (suc m) h s = rw (place-same m h) (ap (λ u. cond (eqb (place_at map configs t m) s) 1 0 + u) (used-same m (omega arith) s))

  extras-same : (m : ℕ) → m ≤ n → extra_used map configs (first t n) m ≡ extra_used map configs t m
  unfolding extra_used
  extras-same zero h = refl
  extras-same (suc m) h = rw (extra-same m h) (ap (λ u. extra_at map configs t m + u) (extras-same m (omega arith)))

  room-same : (room : ℕ → ℕ) (rest i : ℕ) → i < n → has_room map configs (first t n) room rest i ≡ has_room map configs t room rest i
  room-same room rest i h = rw (place-same i h, used-same (suc i) h, extras-same (suc i) h) refl

  counts-same : (op : ℕ → ℕ → ℕ) (counts : List ℕ)
      → listed (λ s. op (get_or counts s 0) (used_at map configs (first t n) n s)) 0 (length counts) ≡ listed (λ s. op (get_or counts s 0) (used_at map configs t n s)) 0 (length counts)
  counts-same op counts =
      let f : ℕ → ℕ = λ s. op (get_or counts s 0) (used_at map configs t n s) in
      listed_is (λ s. op (get_or counts s 0) (used_at map configs (first t n) n s)) (length counts) (listed f 0 (length counts)) (listed-length f 0 (length counts))
      (λ i h. ap (op (get_or counts i 0)) (used-same n (omega arith) i) ∙ sym (listed_at f (length counts) i h))

  plus-same : (y : Tally) → plus map configs (first t n) n y ≡ plus map configs t n y
  unfolding plus
  plus-same y = ap₂ (λ (c : List ℕ) (e : ℕ). tally_of c e) (counts-same (λ x d. x + d) y.counts) (ap (λ u. y.extra + u) (extras-same n (omega arith)))

  minus-same : (y : Tally) → minus map configs (first t n) n y ≡ minus map configs t n y
  unfolding minus
  minus-same y = ap₂ (λ (c : List ℕ) (e : ℕ). tally_of c e) (counts-same (λ x d. x - d) y.counts) (ap (λ u. y.extra - u) (extras-same n (omega arith)))

module _ {map configs : List ℕ} {t : Tokens} {places : ℕ} (K : Countable map configs t places) {n : ℕ} (few : n ≤ many t) where
  pub first-countable : Countable map configs (first t n) places
  first-countable =
      record {
        clusters = K.clusters;
        codes = K.codes;
        places_are = K.places_are;
        long = omega (arith, length-take {A = ℕ}, K.long);
        context = λ i h. rw (get_or-take n t.contexts i 0 (omega (arith, h, length-take {A = ℕ}, few))) (K.context i (omega (arith, h, length-take {A = ℕ}, few)));
        value = λ i h. rw (get_or-take n t.values i 0 (omega (arith, h, length-take {A = ℕ}, few))) (K.value i (omega (arith, h, length-take {A = ℕ}, few)));
      }

pub first-tokens : (t : Tokens) (n : ℕ) → n ≤ many t → are_tokens t ≡ true → are_tokens (first t n) ≡ true
unfolding are_tokens
first-tokens t n few ok =
    let long = same-lengths t ok in
    let each-is : (i : ℕ) → i < many (first t n) → is_token (first t n) i ≡ true = λ i h.
    let here = token-at t ok i (omega (arith, h, length-take {A = ℕ}, few)) in
    let below : i < n = omega (arith, h, length-take {A = ℕ}, few) in
    rw (get_or-take n t.contexts i 0 below, get_or-take n t.values i 0 below, le-leb _ _ here.0, le-leb _ _ here.1)
    in
    rw (eq-eqb (length (first t n).values) (many (first t n)) (omega (arith, length-take {A = ℕ}, long))) (each_all (is_token (first t n)) (many (first t n)) each-is)

-- the tokens before one that has no room, counted back
pub restored : (change : Change) (map configs : List ℕ) (t : Tokens) (counts : List ℕ) (extra : ℕ) (done last : ℕ) (y z : Tally) → Countable map configs t (length counts)
    → ((s : ℕ) → get_or counts s 0 ≤ 4294967295) → extra ≤ 18446744073709551615
    → SomeCounted change map configs t (many t) (tally_of counts extra) done y → SomeCounted (opposite change) map configs (first t done) (many (first t done)) y last z
    → z ≡ tally_of counts extra
restored Add map configs t counts extra done last y z K small total A R =
    let n : many (first t done) ≡ done = omega (arith, A.few, length-take {A = ℕ}) in
    taken_back map configs (first t done) counts extra (first-countable K A.few) done (omega (arith, n))
    (subst (λ (x : Tally). SomeRemoved map configs (first t done) done x last z) (A.tally ∙ sym (plus-same map configs t done (tally_of counts extra))) (rw n at R))
restored Remove map configs t counts extra done last y z K small total A R =
    let n : many (first t done) ≡ done = omega (arith, A.few, length-take {A = ℕ}) in
    put_back map configs (first t done) counts extra (first-countable K A.few) done (omega (arith, n))
    (λ i h. room-same map configs t done (λ s. get_or counts s 0) extra i h ∙ A.fitted i h) small total
    (subst (λ (x : Tally). SomeAdded map configs (first t done) done x last z) (A.tally ∙ sym (minus-same map configs t done (tally_of counts extra))) (rw n at R))
