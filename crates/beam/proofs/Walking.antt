-- The walk: what each position's choice names, and what is written. Assumes nothing.
use mathlib.Core.Path.{◌≡◌, sym, ap, ap₂, ◌∙◌, subst}
use mathlib.Core.Bool.{cond}
use mathlib.Core.List.{List}
use Prim.Native.Nat.{ℕ, suc, ◌+◌, ◌*◌, ◌/◌, ◌%◌, ◌≤◌, ◌<◌}
use native.Mathlib.Omega.{arith}
use native.Mathlib.Numerals.{add-one}
use lib.IntN.{ℤ, pos}
use mir.Syntax.{w32}
use mir.Val.{of_z, to_z}
use lib.Dec.{T, leb}
use lib.ListN.{length, get_or, drop, set, length-take}
use lib.Seq.{get_or-take}
use lib.Ieee.{Float}
use lib.Ieee.Scale.{finite}
use Rattle.beam_paths.specs.Held.{way_of, Named}
use Rattle.beam_paths.specs.Path.{Way, way_levels}
use Rattle.block.specs.Block.{Block}
use Rattle.block.specs.Band.{position_at, tail_of, half_width}
use Rattle.candidates.specs.Candidates.{in_array}
use Rattle.least_cost.specs.Position.{nz}
use Rattle.least_cost.proofs.Trial.{nz-le}
use Rattle.search_checks.specs.Checked.{positions}
use Rattle.search_checks.proofs.Checked.{first_bit, first_is}
use Rattle.search_checks.proofs.Writing.{WrittenTo, from-here, none_written, offer-listed, more-written}
use Rattle.steps.proofs.Zero.{level-back}
use Rattle.steps.specs.Plan.{Planned, Lists, Offered, Usable, listed}
use Rattle.steps.specs.declared.plan.Plan.{Plan}
use Rattle.steps.specs.declared.reading.Offer.{Offer}
use Rattle.beam.specs.Held.{paths, path_at, levels_of, Walkable}
use Rattle.beam.proofs.Carried.{Leads, way-rest, paths-few}
use Rattle.beam.proofs.Priced.{at_listed}
use Rattle.beam.proofs.Taking.{here-priced, carried_of}

-- the walk has written the levels of the positions before i, and stands at a path of finite cost
pub record WalkedTo {scan : List ℕ} {source inverse : List Float} {levels₀ : List ℤ} {plan : Plan} {choices : List ℕ} {first count : ℕ}
    (w : Walkable scan source inverse levels₀ plan choices first count) (i : ℕ) (levels : List ℤ) (path prev : ℕ) : Type 0 where
  pub prefix : WrittenTo w.searched (levels_of plan.window w.book w.searched.block first count) i levels
  pub rest : drop i (levels_of plan.window w.book w.searched.block first count) ≡ (path_at plan.window w.book w.searched.block i path).levels prev
  pub inside : path < length (paths plan.window w.book w.searched.block i)
  pub cheap : T (finite ((path_at plan.window w.book w.searched.block i path).cost prev))
  pub bit : prev ≤ 1

module _ {scan : List ℕ} {source inverse : List Float} {levels₀ : List ℤ} {plan : Plan} {choices : List ℕ} {first count : ℕ}
    (w : Walkable scan source inverse levels₀ plan choices first count) where
  pub walk-starts : {prev : ℕ} → prev ≡ cond (leb count (64 * plan.covered / 16)) 1 0 → WalkedTo w 0 levels₀ first prev
  walk-starts {prev} e₀ =
      let e = first_is w.searched.checked count e₀ in
      record {
        prefix = none_written w.searched _;
        rest = rw e;
        inside = w.inside;
        cheap = rw e w.cheap;
        bit = rw e (first_bit w.searched.block count);
      }

  module _ {i : ℕ} {levels : List ℤ} {path prev : ℕ} (W : WalkedTo w i levels path prev) (h : i < plan.window.length) where
    pub path-few : path < 3
    path-few = omega (arith, W.inside, paths-few (tail_of plan.window w.book w.searched.block) (positions half_width plan.window w.book w.searched.block i))

    -- ---- what the choice names
    way : Way
    way = way_of (position_at half_width plan.window w.book w.searched.block i) (paths plan.window w.book w.searched.block (suc i)) (get_or choices (6 * i + (2 * path + prev)) 0)

    named : Named (position_at half_width plan.window w.book w.searched.block i) (paths plan.window w.book w.searched.block (suc i)) prev (get_or choices (6 * i + (2 * path + prev)) 0) (path_at plan.window w.book w.searched.block i path)
    named = (w.chosen i h).each path prev W.inside W.bit W.cheap

    leads : Leads (tail_of plan.window w.book w.searched.block) (position_at half_width plan.window w.book w.searched.block i) (positions half_width plan.window w.book w.searched.block (suc i)) (here-priced w.searched.checked i h) way
    unfolding way way_of
    leads = record { path = carried_of w.searched.checked (suc i) _ h named.path; level = at_listed (position_at half_width plan.window w.book w.searched.block i).candidates (pos 0) _ named.level }

    way-cheap : T (finite (way.path.cost (nz way.level)))
    unfolding way
    way-cheap =
        way-rest (tail_of plan.window w.book w.searched.block) (position_at half_width plan.window w.book w.searched.block i) (positions half_width plan.window w.book w.searched.block (suc i)) (here-priced w.searched.checked i h) way leads prev W.bit
        (subst (λ (x : Float). T (finite x)) named.cost_is W.cheap)

    way-levels : (get_or (levels_of plan.window w.book w.searched.block first count) i (pos 0) ≡ way.level) × (drop (suc i) (levels_of plan.window w.book w.searched.block first count) ≡ way.path.levels (nz way.level))
    unfolding way way_levels
    way-levels = from-here (levels_of plan.window w.book w.searched.block first count) i (W.rest ∙ named.levels_are)

    -- ---- one turn of the loop
    module _ {offer : Offer} {array : List ℤ} (S : (b' : Block) → Lists b' scan source inverse levels → Planned b' plan → Offered plan.window b' i offer array) (U : Usable (in_array offer.count array)) {n : ℕ} (x : n ≡ get_or choices (6 * i + (2 * path + prev)) 0) where
      pub index_below : n % 16 < offer.count
      unfolding position_at
      index_below =
          let k : n % 16 < length (listed (in_array offer.count array)) = rw (x, (offer-listed w.searched _ W.prefix h S)) named.level in
          omega (arith, length-take offer.count array)

      level-named : get_or array (n % 16) (pos 0) ≡ way.level
      unfolding way way_of position_at
      level-named =
          sym (get_or-take offer.count array (n % 16) (pos 0) index_below)
          ∙ ap₂ (λ (c : List ℤ) (m : ℕ). get_or c (m % 16) (pos 0)) (offer-listed w.searched _ W.prefix h S) x

      level-handed : to_z w32 (of_z w32 (get_or array (n % 16) (pos 0))) ≡ way.level
      level-handed = level-back _ (U.levels (n % 16) index_below) ∙ level-named

      pub walked_on : {m : ℕ} {levels' : List ℤ} {k : ℕ} → m ≡ nz (to_z w32 (of_z w32 (get_or array (n % 16) (pos 0)))) → k ≡ plan.covered + i
          → levels' ≡ set levels (get_or scan k 0) (to_z w32 (of_z w32 (get_or array (n % 16) (pos 0)))) → WalkedTo w (i + 1) levels' (n / 16) m
      unfolding way way_of
      walked_on {m} {levels'} {k} e f g =
          let flag : m ≡ nz way.level = e ∙ ap nz level-handed in
          let next = way-levels in
          rw (x, flag)
          (record {
            prefix = more-written w.searched _ W.prefix h (next.0 ∙ sym level-handed) f g;
            rest = rw add-one next.1;
            inside = rw add-one named.path;
            cheap = rw add-one way-cheap;
            bit = nz-le way.level;
          })
