-- What the checks of what is lent leave to go by. Assumes nothing.
use Prim.Native.Nat.{ℕ, ◌*◌, ◌≤◌, ◌<◌}
use mathlib.Core.Path.{◌≡◌, refl, sym, ◌∙◌}
use mathlib.Core.Bool.{Bool, true, false, ◌&&◌}
use mathlib.Core.List.{List, [], ◌∷◌, ◌++◌}
use native.Mathlib.Omega.{arith}
use borrow.Author.Tests.{eqb-true, leb-true, ltb-true, ltb-false}
use lib.Dec.{eqb, leb, ltb}
use lib.IntN.{ℤ}
use lib.ListN.{length, get_or, get_or-eq_default}
use Rattle.ac_context.proofs.Domain.{sides-most}
use Rattle.ac_context.specs.Contexts.{is_power_below}
use Rattle.block.specs.declared.Shape.{Shape}
use Rattle.coding.proofs.Passed.{codes}
use Rattle.coding.specs.Coding.{Coding, Codes, coding_checks}
use Rattle.laws.proofs.Refused.{in-turn, none-refused, all_pass, passes-first}
use Rattle.laws.proofs.Tests.{and_left, and_right}
use Rattle.laws.specs.Refusals.{first_refused}
use Rattle.packing.proofs.Hybrid.{Valid, valid}
use Rattle.prices.specs.Book.{cluster_valid}
use Rattle.scan.proofs.Once.{perm-of}
use Rattle.scan.specs.Scan.{each_once}
use Rattle.block_tokens.specs.Tokens.{covered_by}
use Rattle.block_tokens.specs.Code.{code_in, cluster_of, split_exponent, msb_in_token, lsb_in_token}
use Rattle.block_tokens.specs.Outcome.{Given, shape_checks, lent_checks, lent_refusal}
use Rattle.block_tokens.specs.Passed.{Shaped, Passed}
use Rattle.block_tokens.proofs.Pairs.{Within}

-- ---- the configurations

module _ {k : Coding} (ok : Codes k) where
  -- A context past the map reads as cluster 0, which is there too.
  cluster-below : (at : ℕ) → cluster_of (code_in k) at < k.clusters
  cluster-below at = go (ltb at 14850) refl
    where
      go : (b : Bool) → ltb at 14850 ≡ b → get_or k.map at 0 < k.clusters
      go true e = ok.cluster at (ltb-true _ _ e)
      go false e =
          let from : 14850 ≤ at = ltb-false _ _ e in
          let past : length k.map ≤ at = omega (arith, ok.contexts) in
          rw (get_or-eq_default k.map 0 past) (omega (arith, ok.cluster 0 (omega arith)))

  pub codes-valid : (at : ℕ) → Valid (split_exponent (code_in k) at) (msb_in_token (code_in k) at) (lsb_in_token (code_in k) at)
  unfolding cluster_valid
  codes-valid at = valid _ _ _ (ok.valid _ (cluster-below at))

  pub codes-within : Within (code_in k)
  codes-within = record { each = λ at. (codes-valid at).within }

-- ---- the shape, and all

module _ (h : Shape) (levels scan : ℕ) (ok : first_refused (shape_checks h levels scan) 0 ≡ 0) where
  pub record Sized : Type 0 where
    pub shaped : Shaped h
    pub levels_long : levels ≡ 64 * covered_by h
    pub scan_long : scan ≡ 64 * covered_by h

  pub sized : Sized
  unfolding shape_checks
  sized =
      let t7 = passes-first (is_power_below 6 h.cx && is_power_below 6 h.cy) 7 _ 0 refl ok in
      let t8 = passes-first (eqb levels (64 * covered_by h) && eqb scan (64 * covered_by h)) 8 _ 0 refl t7.1 in
      let t9 = passes-first (leb h.strategy 26 && leb h.channel 2) 9 _ 0 refl t8.1 in
      record {
        shaped = record {
          first_side = and_left (is_power_below 6 h.cx) (is_power_below 6 h.cy) t7.0;
          second_side = and_right (is_power_below 6 h.cx) (is_power_below 6 h.cy) t7.0;
          strategy = leb-true _ _ (and_left (leb h.strategy 26) (leb h.channel 2) t9.0);
          channel = leb-true _ _ (and_right (leb h.strategy 26) (leb h.channel 2) t9.0);
        };
        levels_long = eqb-true _ _ (and_left (eqb levels (64 * covered_by h)) (eqb scan (64 * covered_by h)) t8.0);
        scan_long = eqb-true _ _ (and_right (eqb levels (64 * covered_by h)) (eqb scan (64 * covered_by h)) t8.0);
      }

pub covered-most : {h : Shape} → Shaped h → covered_by h ≤ 1024
unfolding covered_by
covered-most s = sides-most _ _ s.first_side s.second_side

-- the three parts of the checks, each of which refuses nothing
module _ (g : Given) (levels : List ℤ) where
  abbrev coding-part : List (Bool × ℕ)
  coding-part = coding_checks g.coding true

  abbrev shape-part : List (Bool × ℕ)
  shape-part = shape_checks g.shape (length levels) (length g.scan)

  abbrev scan-part : List (Bool × ℕ)
  scan-part = (each_once g.scan, 11) ∷ []

  pub in_parts : lent_refusal g levels ≡ first_refused coding-part (first_refused shape-part (first_refused scan-part 0))
  unfolding lent_refusal lent_checks
  in_parts = in-turn (coding-part ++ shape-part) scan-part 0 ∙ in-turn coding-part shape-part (first_refused scan-part 0)

  module _ (ok : lent_refusal g levels ≡ 0) where
    coding-ok : first_refused coding-part 0 ≡ 0
    unfolding coding_checks
    coding-ok = none-refused coding-part _ refl (sym in_parts ∙ ok)

    later-ok : first_refused shape-part (first_refused scan-part 0) ≡ 0
    unfolding coding_checks
    later-ok = sym (all_pass coding-part _ refl coding-ok) ∙ sym in_parts ∙ ok

    shape-ok : first_refused shape-part 0 ≡ 0
    unfolding shape_checks
    shape-ok = none-refused shape-part _ refl later-ok

    scan-ok : first_refused scan-part 0 ≡ 0
    unfolding shape_checks
    scan-ok = sym (all_pass shape-part _ refl shape-ok) ∙ later-ok

    pub passed : Passed g levels
    passed =
        let s = sized g.shape (length levels) (length g.scan) shape-ok in
        record {
          codes = codes g.coding true coding-ok;
          shaped = s.shaped;
          scanned = record {
            order = perm-of g.scan _ s.scan_long (passes-first (each_once g.scan) 11 [] 0 refl scan-ok).0;
            long = s.levels_long;
          };
        }
