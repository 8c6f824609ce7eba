-- What a list goes by of one block's search: the room matters by its lengths alone, which stay; the levels stay as many; a count is at most 63c. Assumes nothing.
use mathlib.Core.Path.{◌≡◌, refl, sym, ap, ◌∙◌}
use mathlib.Core.Bool.{Bool, true, false, cond}
use mathlib.Core.List.{List}
use Prim.Native.Nat.{ℕ, zero, suc, ◌+◌, ◌*◌, ◌-◌, ◌≤◌}
use native.Mathlib.Omega.{arith}
use lib.Dec.{eqb}
use lib.IntN.{ℤ}
use lib.ListN.{length, get_or, length-replicate, length-set}
use lib.Ieee.{Float, inf}
use lib.Ieee.Scale.{finite}
use Rattle.beam.specs.Beam as Beam
use Rattle.block.specs.Band.{problem_of}
use Rattle.block.specs.Block.{Block, with_levels, covered, input_remaining}
use Rattle.block.specs.Outcome.{Lent, cleared, refused}
use Rattle.block.specs.Answer.{Answer}
use Rattle.block.specs.Answer.{Cost, Count, Refused}
use Rattle.greedy.specs.Greedy as Greedy
use Rattle.greedy.specs.Greedy.{greedy_levels, settled_from, settled_at, chosen}
use Rattle.least_cost.specs.Search.{least_total, least_levels}
use Rattle.prices.specs.Book.{Book}
use Rattle.problem.proofs.Problem.{among-most}
use Rattle.scan.specs.Scan.{put}
use Rattle.scan.proofs.Through.{put-length}
use Rattle.searches.specs.Outcome.{Demanded, Promised, refusal_of, searched_outcome, search_outcome}
use Rattle.searches.specs.declared.Search.{Search}
use Rattle.searches.specs.declared.Search.TheVariants.{Greedy, Beam, Trellis, Unfactored}
use Rattle.searches.proofs.Results.{whole-promised}
use Rattle.trellis.specs.Outcome as Banded
use Rattle.weights.specs.Window.{window_of}
use Rattle.weights.specs.declared.Window.{Window}
use Rattle.group_run.specs.Block.{room_of, count_in}
use Rattle.group_run.specs.Demand.{SameLengths}

-- ---- the room
same : (l : Lent) → SameLengths (room_of l) (room_of l)
same l = record { choices = refl; first = refl; second = refl }

cleared-same : (l : Lent) → SameLengths (room_of l) (room_of (cleared l))
unfolding cleared
cleared-same l =
    record { choices = sym (length-replicate (length l.choices) 255); first = sym (length-replicate (length l.row_a) (inf false)); second = sym (length-replicate (length l.row_b) (inf false)) }

module _ (w : ℕ) (v : Window) (book : Book) (b : Block) where
  -- of a block that passed its checks
  searched-same : (s : Search) (l : Lent) → SameLengths (room_of l) (room_of (searched_outcome w v s book b l).lent)
  unfolding searched_outcome Banded.searched_outcome
  searched-same Greedy l = same l
  searched-same Beam l = cleared-same (record { levels = Beam.written v book b; choices = l.choices; row_a = l.row_a; row_b = l.row_b })
  searched-same Trellis l = cleared-same (record { levels = Banded.written w v book b; choices = l.choices; row_a = l.row_a; row_b = l.row_b })
  searched-same Unfactored l = cleared-same (record { levels = Banded.written w v book b; choices = l.choices; row_a = l.row_a; row_b = l.row_b })

  searched-alike : (s : Search) (l l' : Lent)
      → ((searched_outcome w v s book b l).answer ≡ (searched_outcome w v s book b l').answer) × ((searched_outcome w v s book b l).lent.levels ≡ (searched_outcome w v s book b l').lent.levels)
  unfolding searched_outcome Banded.searched_outcome cleared
  searched-alike Greedy l l' = (refl, refl)
  searched-alike Beam l l' = (refl, refl)
  searched-alike Trellis l l' = (refl, refl)
  searched-alike Unfactored l l' = (refl, refl)

  -- the lengths of the room stay
  pub lengths-kept : (s : Search) (l : Lent) → SameLengths (room_of l) (room_of (search_outcome w v s book b l).lent)
  unfolding search_outcome
  lengths-kept s l = go (eqb (refusal_of w v s book b l) 0)
    where
      go : (t : Bool) → SameLengths (room_of l) (room_of (cond t (searched_outcome w v s book b l) (refused (refusal_of w v s book b l) l)).lent)
      go true = searched-same s l
      go false = same l

  refusal-alike : (s : Search) (l l' : Lent) → SameLengths (room_of l) (room_of l') → refusal_of w v s book b l ≡ refusal_of w v s book b l'
  unfolding refusal_of
  refusal-alike s l l' e = rw (e.choices, e.first, e.second)

  -- answer and levels go by them alone
  pub answers-alike : (s : Search) (l l' : Lent) → l.levels ≡ l'.levels → SameLengths (room_of l) (room_of l')
      → ((search_outcome w v s book b l).answer ≡ (search_outcome w v s book b l').answer) × ((search_outcome w v s book b l).lent.levels ≡ (search_outcome w v s book b l').lent.levels)
  unfolding search_outcome
  answers-alike s l l' e k = rw (refusal-alike s l l' k) (go (eqb (refusal_of w v s book b l') 0) (refusal_of w v s book b l'))
    where
      go : (t : Bool) (n : ℕ)
          → ((cond t (searched_outcome w v s book b l) (refused n l)).answer ≡ (cond t (searched_outcome w v s book b l') (refused n l')).answer)
          × ((cond t (searched_outcome w v s book b l) (refused n l)).lent.levels ≡ (cond t (searched_outcome w v s book b l') (refused n l')).lent.levels)
      go true n = searched-alike s l l'
      go false n = (refl, e)

  -- ---- a search writes as many levels as it was lent
  written_either : (f : Bool) (levels : List ℤ) → length (cond f (put b.scan levels (covered b) v.length b.levels) b.levels) ≡ length b.levels
  written_either true levels = put-length b.scan levels (covered b) v.length b.levels
  written_either false levels = refl

greedy-length : (v : Window) (book : Book) (n : ℕ) (b : Block) → length (settled_from v book n b) ≡ length b.levels
unfolding settled_from settled_at
greedy-length v book zero b = refl
greedy-length v book (suc n) b = greedy-length v book n (with_levels b (settled_at v book b n)) ∙ length-set b.levels (get_or b.scan (covered b + n) 0) (chosen v book b n)

module _ (w : ℕ) (v : Window) (book : Book) (b : Block) (l : Lent) where
  searched-length : (s : Search) → length (searched_outcome w v s book b l).lent.levels ≡ length b.levels
  unfolding searched_outcome Banded.searched_outcome cleared Greedy.searched_outcome greedy_levels Beam.written Banded.written
  searched-length Greedy = greedy-length v book v.length b
  searched-length Beam = written_either w v book b (finite (Beam.beam_cost (Beam.problem v book b))) (Beam.beam_levels (Beam.problem v book b))
  searched-length Trellis = written_either w v book b (finite (least_total (problem_of w v book b))) (least_levels (problem_of w v book b))
  searched-length Unfactored = written_either w v book b (finite (least_total (problem_of w v book b))) (least_levels (problem_of w v book b))

  pub levels-length : (s : Search) → l.levels ≡ b.levels → length (search_outcome w v s book b l).lent.levels ≡ length b.levels
  unfolding search_outcome
  levels-length s own = go (eqb (refusal_of w v s book b l) 0)
    where
      go : (t : Bool) → length (cond t (searched_outcome w v s book b l) (refused (refusal_of w v s book b l) l)).lent.levels ≡ length b.levels
      go true = searched-length s
      go false = ap length own

-- ---- counts
count_most : (b : Block) (levels : List ℤ) → input_remaining (with_levels b levels) (covered b) ≤ 63 * covered b
unfolding input_remaining covered
count_most b levels = omega (arith, among-most b.scan levels (covered b) (64 * covered b - covered b))

-- an answer of which every count is at most m
few : (m : ℕ) (answer : Answer) → ((n : ℕ) → answer ≡ Count n → n ≤ m) → ((x : Float) (n : ℕ) → answer ≡ Cost x n → n ≤ m) → count_in answer ≤ m
unfolding count_in
few m (Cost x n) f g = g x n refl
few m (Count n) f g = f n refl
few m (Refused k) f g = omega arith

-- the searches over costs answer no bare count ..
no-count : (t f : Bool) (x : Float) (n k j : ℕ) (left l : Lent) (m : ℕ) → (cond t (record { answer = cond f (Cost x n) (Refused k); lent = left }) (refused j l)).answer ≡ Count m → ⊥
no-count true true x n k j left l m e =
    let bad : ◌≡◌ {A = ℕ} 0 1 = cc in
    omega arith
no-count true false x n k j left l m e =
    let bad : ◌≡◌ {A = ℕ} 0 1 = cc in
    omega arith
no-count false f x n k j left l m e =
    let bad : ◌≡◌ {A = ℕ} 0 1 = cc in
    omega arith

-- .. and greedy no cost
no-cost : (t : Bool) (n j : ℕ) (left l : Lent) (x : Float) (m : ℕ) → (cond t (record { answer = Count n; lent = left }) (refused j l)).answer ≡ Cost x m → ⊥
no-cost true n j left l x m e =
    let bad : ◌≡◌ {A = ℕ} 0 1 = cc in
    omega arith
no-cost false n j left l x m e =
    let bad : ◌≡◌ {A = ℕ} 0 1 = cc in
    omega arith

module _ (w : ℕ) (book : Book) (b : Block) (l : Lent) (own : l.levels ≡ b.levels) where
  abbrev v : Window
  v = window_of (covered b)

  pub meant : (s : Search) → Promised w s book b l (search_outcome w (window_of (covered b)) s book b l)
  meant s = whole-promised w s book b l own

  -- the count answered
  pub count-within : (s : Search) → count_in (search_outcome w (window_of (covered b)) s book b l).answer ≤ 63 * covered b
  unfolding search_outcome searched_outcome Banded.searched_outcome Greedy.searched_outcome Beam.answered Banded.answered Demanded
  count-within Greedy =
      few (63 * covered b) _ (λ n e. rw ((meant Greedy).demanded.0 n e).1 (count_most b _)) (λ x n e. absurd (no-cost (eqb (refusal_of w v Greedy book b l) 0) _ _ _ l x n e))
  count-within Beam =
      few (63 * covered b) _ (λ n e. absurd (no-count (eqb (refusal_of w v Beam book b l) 0) (finite (Beam.beam_cost (Beam.problem v book b))) _ _ _ _ _ l n e))
      (λ x n e. rw ((meant Beam).demanded.1 x n e).count_is (count_most b _))
  count-within Trellis =
      few (63 * covered b) _ (λ n e. absurd (no-count (eqb (refusal_of w v Trellis book b l) 0) (finite (least_total (problem_of w v book b))) _ _ _ _ _ l n e))
      (λ x n e. rw ((meant Trellis).demanded.1 x n e).count_is (count_most b _))
  count-within Unfactored =
      few (63 * covered b) _ (λ n e. absurd (no-count (eqb (refusal_of w v Unfactored book b l) 0) (finite (least_total (problem_of w v book b))) _ _ _ _ _ l n e))
      (λ x n e. rw ((meant Unfactored).demanded.1 x n e).count_is (count_most b _))
