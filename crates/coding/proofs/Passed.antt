-- What checks 1 to 4 leave a call with. Assumes nothing.
use mathlib.Core.Path.{◌≡◌, refl}
use mathlib.Core.Bool.{Bool, true, ◌&&◌}
use Prim.Native.Nat.{◌*◌}
use native.Mathlib.Omega.{arith}
use borrow.Author.Tests.{eqb-true, leb-true, ltb-true}
use lib.Dec.{eqb, leb, ltb}
use lib.ListN.{length, get_or}
use Rattle.laws.proofs.Refused.{passes-first}
use Rattle.laws.proofs.Tests.{and_left, and_right}
use Rattle.laws.specs.Refusals.{first_refused}
use Rattle.prices.specs.Book.{cluster_valid}
use Rattle.prices.specs.Checks.{map_below}
use Rattle.prices.proofs.Each.{each_below}
use Rattle.coding.specs.Coding.{Coding, Codes, Coded, coding_checks}
use Rattle.coding.specs.declared.code.Code.{Code}

module _ (k : Coding) (others : Bool) (ok : first_refused (coding_checks k others) 0 ≡ 0) where
  pub others-right : others ≡ true
  unfolding coding_checks
  others-right =
      let t1 = passes-first _ 1 _ 0 refl ok in
      let t2 = passes-first _ 2 _ 0 refl t1.1 in
      and_right (eqb (length k.configs) (3 * k.clusters)) others t2.0

  pub codes : Codes k
  unfolding coding_checks map_below
  codes =
      let t1 = passes-first _ 1 _ 0 refl ok in
      let t2 = passes-first _ 2 _ 0 refl t1.1 in
      let t3 = passes-first _ 3 _ 0 refl t2.1 in
      let t4 = passes-first _ 4 _ 0 refl t3.1 in
      let map-long = eqb-true _ _ (and_left (eqb (length k.map) 14850) (leb 1 k.clusters) (and_left (eqb (length k.map) 14850 && leb 1 k.clusters) (leb k.clusters 256) t1.0)) in
      record {
        few = leb-true _ _ (and_right (eqb (length k.map) 14850 && leb 1 k.clusters) (leb k.clusters 256) t1.0);
        contexts = map-long;
        configured = eqb-true _ _ (and_left (eqb (length k.configs) (3 * k.clusters)) others t2.0);
        cluster = λ context h. ltb-true _ _ (each_below (λ i. ltb (get_or k.map i 0) k.clusters) (length k.map) t3.0 context (omega (arith, map-long)));
        valid = λ cluster h. each_below (cluster_valid k.configs) k.clusters t4.0 cluster h;
      }

-- what a checked code is known by
pub coded-in : (c : Code) → Coded c.map.now c.configs.now
coded-in c = record { clusters = c.clusters; codes = c.codes }
