-- The tokens past the window, added up by stretches of shared contexts.
use Rattle.std.specs.Prelude.{ℕ, ◌+◌, ◌-◌, ◌*◌, ◌≤◌, ◌<◌, ◌≡◌, List, ℤ, length, get_or, T}
use Rattle.ac_context.specs.Contexts.{zero_density_context}
use Rattle.block.specs.Block.{Block, nonzeros_among}
use Rattle.block.specs.Cost.{tokens_from}
use Rattle.candidates.specs.Candidates.{is_current}
use Rattle.prices.specs.Book.{Book}
use Rattle.scan.specs.Scan.{level_at}
use Rattle.steps.specs.declared.plan.Plan.{Plan}
use Rattle.steps.specs.declared.tail.Stretch.{Stretch}
use Rattle.steps.specs.declared.tail.Tail.{Tail}

-- the cluster of a token's context
abbrev pub cluster_at : Plan → List ℕ → ℕ → ℕ → ℕ → ℕ
cluster_at p map n k prev = get_or map (p.offset + zero_density_context p.covered n k prev) 0

-- from scan position k up to the stretch's end, with counts from its least to n, tokens have its two clusters, by `prev`; position k with count n is one of them
pub record Shared (p : Plan) (map : List ℕ) (k n : ℕ) (s : Stretch) : Type 0 where
  pub here : k < s.end
  pub ends : s.end ≤ 64 * p.covered
  pub some : 1 ≤ s.least
  pub counted : s.least ≤ n
  pub zero_is : (m i : ℕ) → s.least ≤ m → m ≤ n → k ≤ i → i < s.end → cluster_at p map m i 0 ≡ s.zero
  pub one_is : (m i : ℕ) → s.least ≤ m → m ≤ n → k ≤ i → i < s.end → cluster_at p map m i 1 ≡ s.one

-- tokens are added up to a scan position, from which on each level is within ±32,767
pub record Standing (scan : List ℕ) (levels : List ℤ) (t : Tail) : Type 0 where
  pub ended : t.k ≤ length scan
  pub flag : t.prev ≤ 1
  pub left : t.remaining ≡ nonzeros_among scan levels t.k (length scan - t.k)
  pub within : (k : ℕ) → k < length scan → get_or scan k 0 < length levels
  pub level : (k : ℕ) → t.k ≤ k → k < length scan → T (is_current (level_at scan levels k))

-- going on from t leads to the sums to which going on from s leads
pub record Continued (book : Book) (b : Block) (size : ℕ) (s t : Tail) : Type 0 where
  pub first : tokens_from book b (size - t.k) t.remaining t.k t.prev t.first ≡ tokens_from book b (size - s.k) s.remaining s.k s.prev s.first
  pub second : tokens_from book b (size - t.k) t.remaining t.k t.prev t.second ≡ tokens_from book b (size - s.k) s.remaining s.k s.prev s.second
