-- An output that is filled token by token. Assumes nothing.
use Prim.Native.Nat.{ℕ, zero, suc, ◌+◌, ◌-◌, ◌*◌, ◌/◌, ◌≤◌, ◌<◌}
use mathlib.Core.Path.{◌≡◌, refl, sym, ap, ◌∙◌}
use mathlib.Core.List.{List, [], ◌∷◌, ◌++◌, map}
use mathlib.Core.Bool.{cond}
use native.Mathlib.Omega.{arith}
use native.Mathlib.Numerals.{add-one}
use lib.ListN.{length, take, drop, set, length-map, length-set}
use lib.Dec.{leb}
use lib.Seq.{take-length, drop-set-lt}
use Rattle.block_tokens.specs.Tokens.{Token}
use Rattle.block_tokens.specs.Code.{Code, symbol_in, extra_in, bits_in}
use Rattle.least_cost.specs.Position.{nz}
use Rattle.packing.specs.declared.Split.{Split}
use Rattle.scan.specs.Scan.{level_at}
use Rattle.block_tokens.specs.Writing.{over, outputs, written}
use Rattle.token_steps.specs.Steps.{tokens_in, count_token, level_token, SplitIn, StepAt}
use Rattle.token_steps.specs.declared.Step.{Step}
use Rattle.token_steps.specs.declared.coded.Coded.{Coded}
use Rattle.token_steps.proofs.Walk.{before, At, Next, next, at_last, start-in, first-in}

-- what an output holds when its first i numbers are written

abbrev pub up_to : List ℕ → List ℕ → ℕ → List ℕ
up_to xs old i = take i xs ++ drop i old

pub up-to-length : (xs old : List ℕ) (i : ℕ) → i ≤ length xs → length xs ≤ length old → length (up_to xs old i) ≡ length old
up-to-length xs old zero p q = refl
up-to-length [] old (suc i) p q = absurd (omega arith)
up-to-length (x ∷ xs) [] (suc i) p q = absurd (omega arith)
up-to-length (x ∷ xs) (y ∷ old) (suc i) p q = ap suc (up-to-length xs old i (omega arith) (omega arith))

up-to-set : (xs old : List ℕ) (i v : ℕ) (rest : List ℕ) → drop i xs ≡ v ∷ rest → length xs ≤ length old → set (up_to xs old i) i v ≡ up_to xs old (suc i)
up-to-set [] old zero v rest e q = let z : ◌≡◌ {A = ℕ} 0 1 = cc in absurd (omega arith)
up-to-set [] old (suc i) v rest e q = let z : ◌≡◌ {A = ℕ} 0 1 = cc in absurd (omega arith)
up-to-set (x ∷ xs) [] i v rest e q = absurd (omega arith)
up-to-set (x ∷ xs) (y ∷ old) zero v rest e q = let same : v ≡ x = cc in rw same
up-to-set (x ∷ xs) (y ∷ old) (suc i) v rest e q = ap (λ (l : List ℕ). x ∷ l) (up-to-set xs old i v rest e (omega arith))

drop-map : (f : Token → ℕ) (ts : List Token) (i : ℕ) → drop i (map f ts) ≡ map f (drop i ts)
drop-map f ts zero = refl
drop-map f [] (suc i) = refl
drop-map f (t ∷ ts) (suc i) = drop-map f ts i

-- one token more
up-to-more : (f : Token → ℕ) (ts : List Token) {rest : List Token} {t : Token} (old : List ℕ) (i v : ℕ) → drop i ts ≡ t ∷ rest → v ≡ f t → length (map f ts) ≤ length old
    → set (up_to (map f ts) old i) i v ≡ up_to (map f ts) old (i + 1)
up-to-more f ts {rest} {t} old i v e ev q =
    rw (ev, add-one) (up-to-set (map f ts) old i (f t) (map f rest) (drop-map f ts i ∙ ap (map f) e) q)

-- the last one
up-to-all : (xs old : List ℕ) (n : ℕ) → length xs ≡ n → up_to xs old n ≡ over xs old
unfolding over
up-to-all xs old n e = rw (← e, take-length)

-- ---- one output of the writer: f is what it holds of a token

module _ (f : Token → ℕ) (ts : List Token) where
  pub first : {rest : List Token} {t : Token} (old : List ℕ) (v : ℕ) → ts ≡ t ∷ rest → v ≡ f t → length ts ≤ length old → set old 0 v ≡ up_to (map f ts) (set old 0 v) 1
  first {rest} {t} [] v e ev q = absurd (omega (arith, ap length e))
  first {rest} {t} (y ∷ old) v e ev q = rw (e, ev)

  pub more : {rest : List Token} {t : Token} (now old : List ℕ) (i v : ℕ) → now ≡ up_to (map f ts) old i → drop i ts ≡ t ∷ rest → v ≡ f t → length ts ≤ length old
      → set now i v ≡ up_to (map f ts) old (i + 1)
  more now old i v e d ev q = rw e (up-to-more f ts old i v d ev (rw (length-map ts f) q))

  pub long : (now old : List ℕ) (i : ℕ) → now ≡ up_to (map f ts) old i → i ≤ length ts → length ts ≤ length old → length now ≡ length old
  long now old i e l q = rw e (up-to-length (map f ts) old i (rw (length-map ts f) l) (rw (length-map ts f) q))

  -- the first number was written to what was lent
  pub last : (now lent : List ℕ) (v i : ℕ) → now ≡ up_to (map f ts) (set lent 0 v) i → length ts ≡ i → 1 ≤ i → now ≡ over (map f ts) lent
  unfolding over
  last now lent v i e n some =
      e
      ∙ up-to-all (map f ts) (set lent 0 v) i (length-map ts f ∙ n)
      ∙ ap (λ (l : List ℕ). map f ts ++ l) (drop-set-lt (length (map f ts)) lent 0 v (rw (length-map ts f) (omega arith)))

-- ---- the four

pub record Filled (x : Code) (ts : List Token) (contexts₀ symbols₀ extra₀ bits₀ contexts symbols extra bits : List ℕ) (i : ℕ) : Type 0 where
  pub contexts-are : contexts ≡ up_to (map (λ t. t.context) ts) contexts₀ i
  pub symbols-are : symbols ≡ up_to (map (symbol_in x) ts) symbols₀ i
  pub extra-are : extra ≡ up_to (map (extra_in x) ts) extra₀ i
  pub bits_are : bits ≡ up_to (map (bits_in x) ts) bits₀ i

-- each output has room for n numbers
pub record RoomFor (n : ℕ) (contexts symbols extra bits : List ℕ) : Type 0 where
  pub contexts_long : n ≤ length contexts
  pub symbols_long : n ≤ length symbols
  pub extra_long : n ≤ length extra
  pub bits_long : n ≤ length bits

set-room : {n : ℕ} {contexts symbols extra bits : List ℕ} (v w y z : ℕ) → RoomFor n contexts symbols extra bits → RoomFor n (set contexts 0 v) (set symbols 0 w) (set extra 0 y) (set bits 0 z)
set-room v w y z r =
    record {
      contexts_long = simp length-set r.contexts_long;
      symbols_long = simp length-set r.symbols_long;
      extra_long = simp length-set r.extra_long;
      bits_long = simp length-set r.bits_long;
    }

-- what the second pass knows at scan position k
pub record Writing (x : Code) (d : Coded) (contexts₀ symbols₀ extra₀ bits₀ contexts symbols extra bits : List ℕ) (i k prev left : ℕ) : Type 0 where
  pub at : At d.layout.shape d.scan.now d.levels.now k prev left
  pub index : i ≡ before d.layout.shape d.scan.now d.levels.now k
  pub filled : Filled x (tokens_in d) contexts₀ symbols₀ extra₀ bits₀ contexts symbols extra bits i
  pub room : RoomFor (length (tokens_in d)) contexts₀ symbols₀ extra₀ bits₀

-- with the count's token written
module _ (d : Coded) where
  pub some-token : 1 ≤ length (tokens_in d)
  some-token = omega (arith, ap length (first-in d))

  pub begun : (x : Code) {contexts symbols extra bits : List ℕ} (prev : ℕ) {r : Split} → SplitIn x (count_token d) r → RoomFor (length (tokens_in d)) contexts symbols extra bits
      → prev ≡ cond (leb d.count (64 * d.layout.covered / 16)) 1 0
      → (let contexts₁ = set contexts 0 d.layout.count_context in let symbols₁ = set symbols 0 r.symbol in let extra₁ = set extra 0 r.extra_bits in let bits₁ = set bits 0 r.bits in
      Writing x d contexts₁ symbols₁ extra₁ bits₁ contexts₁ symbols₁ extra₁ bits₁ 1 d.layout.covered prev d.count)
  begun x {contexts} {symbols} {extra} {bits} prev split room e =
      record {
        at = start-in d prev e;
        index = omega (arith, d.layout.laid.covered_is);
        filled = record {
          contexts-are = first (λ t. t.context) _ contexts _ (first-in d) d.layout.laid.count_is room.contexts_long;
          symbols-are = first (symbol_in x) _ symbols _ (first-in d) split.symbol_is room.symbols_long;
          extra-are = first (extra_in x) _ extra _ (first-in d) split.extra_is room.extra_long;
          bits_are = first (bits_in x) _ bits _ (first-in d) split.bits_are room.bits_long;
        };
        room = set-room _ _ _ _ room;
      }

-- at scan position k
module _ {x : Code} {d : Coded} {contexts₀ symbols₀ extra₀ bits₀ contexts symbols extra bits : List ℕ} {i k prev left : ℕ} (w : Writing x d contexts₀ symbols₀ extra₀ bits₀ contexts symbols extra bits i k prev left) where
  passed : i ≤ length (tokens_in d)
  passed = omega (arith, w.index, w.at.passed)

  -- the outputs keep their lengths
  contexts-kept : length contexts ≡ length contexts₀
  contexts-kept = long (λ t. t.context) (tokens_in d) _ _ i w.filled.contexts-are passed w.room.contexts_long

  symbols-kept : length symbols ≡ length symbols₀
  symbols-kept = long (symbol_in x) (tokens_in d) _ _ i w.filled.symbols-are passed w.room.symbols_long

  extra-kept : length extra ≡ length extra₀
  extra-kept = long (extra_in x) (tokens_in d) _ _ i w.filled.extra-are passed w.room.extra_long

  bits-kept : length bits ≡ length bits₀
  bits-kept = long (bits_in x) (tokens_in d) _ _ i w.filled.bits_are passed w.room.bits_long

  module _ (some : 0 < left) where
    pub onward : Next d.layout.shape d.scan.now d.levels.now k prev left
    onward = next d.layout.shape d.scan.now d.levels.now k prev left w.at some

    -- there is room for a token more
    pub room-on : RoomFor (suc i) contexts symbols extra bits
    room-on =
        let below : i < length (tokens_in d) = omega (arith, onward.there.passed, w.index, w.at.from) in
        record {
          contexts_long = omega (arith, below, w.room.contexts_long, contexts-kept);
          symbols_long = omega (arith, below, w.room.symbols_long, symbols-kept);
          extra_long = omega (arith, below, w.room.extra_long, extra-kept);
          bits_long = omega (arith, below, w.room.bits_long, bits-kept);
        }

    -- it is written
    pub written-on : {r : Step} → StepAt x (level_token d.layout.shape d.scan.now d.levels.now k left prev) (level_at d.scan.now d.levels.now k) r
        → Writing x d contexts₀ symbols₀ extra₀ bits₀ (set contexts i r.context) (set symbols i r.symbol) (set extra i r.extra_bits) (set bits i r.bits) (i + 1) (k + 1) (nz (level_at d.scan.now d.levels.now k)) (left - nz (level_at d.scan.now d.levels.now k))
    written-on step =
        let token = ap (λ (j : ℕ). drop j (tokens_in d)) w.index ∙ onward.token in
        let f = w.filled in
        record {
          at = onward.there;
          index = omega (arith, w.index, w.at.from);
          filled = record {
            contexts-are = more (λ t. t.context) _ _ _ _ _ f.contexts-are token step.context_is w.room.contexts_long;
            symbols-are = more (symbol_in x) _ _ _ _ _ f.symbols-are token step.symbol_is w.room.symbols_long;
            extra-are = more (extra_in x) _ _ _ _ _ f.extra-are token step.extra_is w.room.extra_long;
            bits_are = more (bits_in x) _ _ _ _ _ f.bits_are token step.bits_are w.room.bits_long;
          };
          room = w.room;
        }

  pub number : left ≤ 0 → i ≡ length (tokens_in d)
  number none = sym (at_last _ _ _ _ _ _ w.at none ∙ sym w.index)

-- all tokens are written
pub four : (x : Code) (ts : List Token) (contexts₀ symbols₀ extra₀ bits₀ contexts symbols extra bits : List ℕ) (v w y z i : ℕ)
    → Filled x ts (set contexts₀ 0 v) (set symbols₀ 0 w) (set extra₀ 0 y) (set bits₀ 0 z) contexts symbols extra bits i → length ts ≡ i → 1 ≤ i
    → outputs contexts symbols extra bits ≡ written x ts (outputs contexts₀ symbols₀ extra₀ bits₀)
unfolding written
four x ts contexts₀ symbols₀ extra₀ bits₀ contexts symbols extra bits v w y z i f n some =
    rw (
      last (λ t. t.context) ts contexts contexts₀ v i f.contexts-are n some,
      last (symbol_in x) ts symbols symbols₀ w i f.symbols-are n some,
      last (extra_in x) ts extra extra₀ y i f.extra-are n some,
      last (bits_in x) ts bits bits₀ z i f.bits_are n some,
    )

pub all-written : {x : Code} {d : Coded} (contexts₀ symbols₀ extra₀ bits₀ : List ℕ) (v w y z : ℕ) {contexts symbols extra bits : List ℕ} {i k prev left : ℕ}
    → Writing x d (set contexts₀ 0 v) (set symbols₀ 0 w) (set extra₀ 0 y) (set bits₀ 0 z) contexts symbols extra bits i k prev left → left ≤ 0
    → outputs contexts symbols extra bits ≡ written x (tokens_in d) (outputs contexts₀ symbols₀ extra₀ bits₀)
all-written {x} {d} contexts₀ symbols₀ extra₀ bits₀ v w y z W none =
    let all = at_last _ _ _ _ _ _ W.at none in
    four x (tokens_in d) contexts₀ symbols₀ extra₀ bits₀ _ _ _ _ _ _ _ _ _ W.filled (all ∙ sym W.index) (omega (arith, W.index, W.at.from))
