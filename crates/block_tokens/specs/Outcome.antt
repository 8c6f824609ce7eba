-- What the two calls answer and leave, whatever they are lent.
use Rattle.std.specs.Prelude.{ℕ, ◌*◌, Bool, true, cond, ◌&&◌, List, [], ◌∷◌, ◌++◌, eqb, leb, ℤ, length, get_or}
use Rattle.ac_context.specs.Contexts.{is_power_below}
use Rattle.block.specs.Checks.{strategy_covered}
use Rattle.block.specs.declared.Shape.{Shape}
use Rattle.coding.specs.Coding.{Coding, coding_of, coding_checks}
use Rattle.laws.specs.Refusals.{first_refused}
use Rattle.scan.specs.Scan.{each_once, put}
use Rattle.block_tokens.specs.Reply.{Reply, Tokens, Refused}
use Rattle.block_tokens.specs.Tokens.{covered_by, coded_levels}
use Rattle.block_tokens.specs.Code.{code_in}
use Rattle.block_tokens.specs.Writing.{Outputs, WriteResult, wrote, write_result}
use Rattle.block_tokens.specs.Reading.{Reading, read_tokens}

-- what both are given besides levels and tokens; any part may be anything
pub record Given : Type 0 where
  pub coding : Coding
  pub shape : Shape
  pub scan : List ℕ

abbrev pub given_of : ℕ → List ℕ → List ℕ → Shape → List ℕ → Given
given_of clusters map configs shape scan = record { coding = coding_of clusters map configs; shape = shape; scan = scan }

-- 7: each side is 1, 2, 4, 8, 16 or 32. 8: the levels and the scan hold 64c numbers each. 9: strategy and channel are known. 18: the sides' product is the
-- strategy's.
unfoldable pub shape_checks : Shape → ℕ → ℕ → List (Bool × ℕ)
shape_checks h levels scan =
    (is_power_below 6 h.cx && is_power_below 6 h.cy, 7)
    ∷ (eqb levels (64 * covered_by h) && eqb scan (64 * covered_by h), 8)
    ∷ (leb h.strategy 26 && leb h.channel 2, 9)
    ∷ (eqb (covered_by h) (get_or strategy_covered h.strategy 0), 18)
    ∷ []

-- What both check first, in their order: 1 to 4 of the coding, 7, 8, 9 and 18 of the shape, and 11, whether the scan has each place once.
unfoldable pub lent_checks : Given → List ℤ → List (Bool × ℕ)
lent_checks g levels =
    coding_checks g.coding true ++ shape_checks g.shape (length levels) (length g.scan) ++ (each_once g.scan, 11) ∷ []

-- the first of these that fails, or 0
unfoldable pub lent_refusal : Given → List ℤ → ℕ
lent_refusal g levels = first_refused (lent_checks g levels) 0

-- ---- writing

unfoldable pub write_outcome : Given → List ℤ → Outputs → WriteResult
write_outcome g levels o =
    let refusal = lent_refusal g levels in
    cond (eqb refusal 0) (write_result (code_in g.coding) g.shape (coded_levels g.shape g.scan levels) o) (wrote (Refused refusal) o)

-- ---- reading

-- what the reader answers, and the levels afterwards
pub record ReadResult : Type 0 where
  pub reply : Reply
  pub levels : List ℤ

abbrev pub read_as : Reply → List ℤ → ReadResult
read_as reply levels = record { reply = reply; levels = levels }

-- The levels read are written from scan position c on, the first c stay; a refusal changes none.
unfoldable pub read_result : Shape → List ℕ → ℕ → List ℤ → Reading → ReadResult
read_result h scan n levels (Reading.Levels qs) = read_as (Tokens n) (put scan qs (covered_by h) (63 * covered_by h) levels)
read_result h scan n levels (Reading.Refused number) = read_as (Refused number) levels

unfoldable pub read_outcome : Given → List ℕ → List ℕ → List ℤ → ReadResult
read_outcome g symbols bits levels =
    let refusal = lent_refusal g levels in
    let reading = read_tokens (code_in g.coding) g.shape symbols bits in
    cond (eqb refusal 0) (read_result g.shape g.scan (length symbols) levels reading) (read_as (Refused refusal) levels)
