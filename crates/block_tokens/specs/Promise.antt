-- What the two calls promise: reply and every lent number by the outcome, and what that means.
use Rattle.std.specs.Prelude.{ℕ, ◌+◌, ◌*◌, ◌≤◌, ◌<◌, ◌≡◌, true, List, ℤ, length, take}
use Rattle.packing.specs.Hybrid.{symbol_of, extra_value_of}
use Rattle.scan.specs.Scan.{level_at}
use Rattle.block_tokens.specs.Reply.{Reply, Tokens, Refused}
use Rattle.block_tokens.specs.Tokens.{covered_by, coded_levels}
use Rattle.block_tokens.specs.Code.{Code, code_in, split_exponent, msb_in_token, lsb_in_token}
use Rattle.block_tokens.specs.Writing.{Outputs, wrote, room_for}
use Rattle.block_tokens.specs.Reading.{Pair, splits_in}
use Rattle.block_tokens.specs.Outcome.{Given, lent_refusal, read_as, write_outcome, read_outcome}

-- n symbols and their extra bits were read over the levels `old`: those from scan position c on are the levels written, the first c are the old ones
pub record ReadBack (g : Given) (levels : List ℤ) (symbols bits : List ℕ) (n : ℕ) (old : List ℤ) : Type 0 where
  pub reply : (read_outcome g symbols bits old).reply ≡ Tokens n
  pub coded : coded_levels g.shape g.scan (read_outcome g symbols bits old).levels ≡ coded_levels g.shape g.scan levels
  pub first : (k : ℕ) → k < covered_by g.shape → level_at g.scan (read_outcome g symbols bits old).levels k ≡ level_at g.scan old k

pub record Write (g : Given) (levels : List ℤ) (o : Outputs) (reply : Reply) (after : Outputs) : Type 0 where
  -- reply and outputs
  pub settled : wrote reply after ≡ write_outcome g levels o
  -- What is written the reader turns back into those levels, whatever levels it is lent.
  pub reads_back : (n : ℕ) → reply ≡ Tokens n → (old : List ℤ) → length old ≡ length levels
      → ReadBack g levels (take n after.symbols) (take n after.bits) n old
  -- 63c + 1 numbers are always room enough.
  pub room : room_for (63 * covered_by g.shape + 1) o ≡ true → reply ≡ Refused 23 → ⊥

-- the symbols and extra bits of n tokens stand at the front of the outputs that the writer makes of the levels
pub record WrittenBack (g : Given) (levels : List ℤ) (symbols bits : List ℕ) (n : ℕ) (o : Outputs) : Type 0 where
  pub reply : (write_outcome g levels o).reply ≡ Tokens n
  pub symbols_same : take n (write_outcome g levels o).outputs.symbols ≡ symbols
  pub bits_same : take n (write_outcome g levels o).outputs.bits ≡ bits

-- the symbol and the extra bits of some value up to 131,071 in a context, the symbol one of the 128
pub record ValuePair (x : Code) (at : ℕ) (p : Pair) : Type 0 where
  pub value : ℕ
  pub most : value ≤ 131071
  pub low : p.symbol < 128
  pub symbol_is : symbol_of (split_exponent x at) (msb_in_token x at) (lsb_in_token x at) value ≡ p.symbol
  pub bits_are : extra_value_of (split_exponent x at) (msb_in_token x at) (lsb_in_token x at) value ≡ p.bits

pub record Read (g : Given) (symbols bits : List ℕ) (levels : List ℤ) (reply : Reply) (after : List ℤ) : Type 0 where
  -- reply and levels
  pub settled : read_as reply after ≡ read_outcome g symbols bits levels
  -- What is read the writer reproduces token by token, extra bits too, given room.
  pub writes_back : (n : ℕ) → reply ≡ Tokens n → (o : Outputs) → room_for n o ≡ true → WrittenBack g after symbols bits n o
  -- Where nothing that is lent is refused, a pair is taken for a value exactly where it is one's.
  pub value_pairs : lent_refusal g levels ≡ 0 → (at : ℕ) (p : Pair)
      → (splits_in (code_in g.coding) at p ≡ true → ValuePair (code_in g.coding) at p) × (ValuePair (code_in g.coding) at p → splits_in (code_in g.coding) at p ≡ true)
