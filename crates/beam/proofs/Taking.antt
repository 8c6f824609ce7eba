-- One position: from the paths behind it to its own. Assumes nothing.
use mathlib.Core.Path.{◌≡◌, sym, ap, ◌∙◌, subst, subst⁻¹}
use mathlib.Core.List.{List}
use Prim.Native.Nat.{ℕ, suc, ◌+◌, ◌*◌, ◌≤◌, ◌<◌}
use native.Mathlib.Omega.{arith}
use lib.IntN.{ℤ}
use lib.Dec.{T}
use lib.ListN.{length, get_or}
use lib.Ieee.{Float}
use lib.Ieee.Scale.{finite}
use Rattle.beam_paths.specs.Held.{PathsFor, Named}
use Rattle.beam_paths.specs.Step.{stepped}
use Rattle.beam_paths.specs.declared.Paths.{Paths}
use Rattle.beam_paths.specs.declared.Step.{Step}
use Rattle.beam_row.specs.Held.{Spot, spot_of, Stands, Takeable, Taken}
use Rattle.block.specs.Block.{Block, covered, input_at, ideal, candidates_at}
use Rattle.block.specs.Band.{position_at, tail_of, half_width}
use Rattle.block_checks.specs.Passed.{Passed}
use Rattle.candidates.specs.Candidates.{in_array}
use Rattle.prices.specs.Book.{Book}
use Rattle.search_checks.specs.Checked.{positions, Checked, Searched}
use Rattle.search_checks.proofs.Checked.{readable-here, positions-cons}
use Rattle.steps.specs.Place.{place_of, local_at}
use Rattle.steps.specs.Plan.{Planned, Lists, Readable, Offered, listed, Pickable}
use Rattle.steps.specs.declared.Place.{Place}
use Rattle.steps.specs.declared.plan.Plan.{Plan}
use Rattle.steps.specs.declared.reading.Offer.{Offer}
use Rattle.steps.proofs.Local.{local-is}
use Rattle.weights.specs.declared.Window.{Window}
use Rattle.beam.specs.Beam.{beam_paths}
use Rattle.beam.specs.Held.{paths, path_at, Stored, Stepped}
use Rattle.beam.proofs.Carried.{Priced, Carried}
use Rattle.beam.proofs.Priced.{local-cost, carried-at, count_fits}

-- what stands at window position i of a block
pub record Spotted (v : Window) (b : Block) (log2 i : ℕ) (s : Spot) : Type 0 where
  pub place_is : s.place ≡ place_of b log2 i
  pub listed_is : s.candidates ≡ candidates_at v b i

-- the positions of a block, whatever is asked of them
module _ {book : Book} {b : Block} {p : Plan} (K : Checked book b p) where
  P : Passed p.window b
  P = K.passed

  pub carried_of : (i j : ℕ) → i ≤ p.window.length → j < length (paths p.window book b i) → Carried (tail_of p.window book b) (positions half_width p.window book b i) (path_at p.window book b i j)
  carried_of = carried-at p.window book K.book_passed b P

  pub fits-of : (i j : ℕ) → i ≤ p.window.length → j < length (paths p.window book b i) → (path_at p.window book b i j).remaining + (covered b + i) ≤ 64 * covered b
  fits-of = count_fits p.window book K.book_passed b P

  module _ (i : ℕ) (h : i < p.window.length) where
    pub paths-step : paths p.window book b i ≡ stepped (position_at half_width p.window book b i) (paths p.window book b (suc i))
    unfolding beam_paths
    paths-step = ap (beam_paths (tail_of p.window book b)) (positions-cons K half_width i h)

    pub here-priced : Priced (position_at half_width p.window book b i)
    here-priced = local-cost p.window book K.book_passed b P i h

    module _ {spot : Spot} (S : Spotted p.window b p.log2 i spot) where
      pub stands_here : Stands book spot (position_at half_width p.window book b i)
      unfolding position_at
      stands_here =
          record {
            candidates_are = sym S.listed_is;
            price_is = λ r q c Q m. sym (ap (λ (x : Place). local_at book x r q c) S.place_is ∙ local-is book b p.log2 i r q c Q);
          }

      module _ {s : Paths} (F : PathsFor (paths p.window book b (suc i)) s) where
        left : (j : ℕ) → j < s.count → suc (get_or s.remaining j 0) + (covered b + i) ≤ 64 * covered b
        left j k =
            let l : j < length (paths p.window book b (suc i)) = omega (arith, F.count_is) in
            omega (arith, F.remaining_is j l, fits-of (suc i) j h l)

        pub takeable : Pickable spot.candidates → Takeable book spot s
        unfolding place_of
        takeable U =
            record {
              priced = K.book_passed;
              pickable = U;
              covers = rw (S.place_is, ← K.planned.covered_is) K.planned.covers;
              coded = rw S.place_is (omega arith);
              offset = rw (S.place_is, ← K.planned.offset_is) p.coded.offset;
              few = F.few;
              three = F.three;
              six = F.six;
              left = rw S.place_is left;
            }

        -- the step is taken, and its bytes stored
        pub stepped-here : {r : Step} → Taken book spot s r → {at : ℕ} {before after : List ℕ} → at ≡ 6 * i → Stored at r.choices before after → Stepped p.window book b i before after r.paths
        stepped-here {r} t {at} {before} {after} e d =
            let Q = stands_here in
            record {
              paths_are = rw paths-step (t.stands (position_at half_width p.window book b i) (paths p.window book b (suc i)) Q F);
              chosen = record { each = chosen };
              size = d.size;
              behind = λ j k. d.behind j (omega arith);
            }
          where
            named : (j q : ℕ) → j < length (paths p.window book b i) → q ≤ 1 → T (finite ((path_at p.window book b i j).cost q))
                → Named (position_at half_width p.window book b i) (paths p.window book b (suc i)) q (get_or r.choices (2 * j + q) 0) (path_at p.window book b i j)
            named = rw paths-step (t.remembered (position_at half_width p.window book b i) (paths p.window book b (suc i)) stands_here F).each

            few : length (paths p.window book b i) ≤ 3
            few = rw paths-step (omega (arith, (t.stands (position_at half_width p.window book b i) (paths p.window book b (suc i)) stands_here F).few, (t.stands (position_at half_width p.window book b i) (paths p.window book b (suc i)) stands_here F).count_is))

            chosen : (j q : ℕ) → j < length (paths p.window book b i) → q ≤ 1 → T (finite ((path_at p.window book b i j).cost q))
                → Named (position_at half_width p.window book b i) (paths p.window book b (suc i)) q (get_or after (6 * i + (2 * j + q)) 0) (path_at p.window book b i j)
            chosen j q l Q f =
                let same : get_or after (6 * i + (2 * j + q)) 0 ≡ get_or r.choices (2 * j + q) 0 = subst (λ (k : ℕ). get_or after (k + (2 * j + q)) 0 ≡ get_or r.choices (2 * j + q) 0) e (d.stored (2 * j + q) (omega (arith, few))) in
                subst⁻¹ (λ (k : ℕ). Named (position_at half_width p.window book b i) (paths p.window book b (suc i)) q k (path_at p.window book b i j)) same (named j q l Q f)

-- ---- a block by what the code is handed of it
module _ {book : Book} {scan : List ℕ} {source inverse : List Float} {levels : List ℤ} {plan : Plan} (w : Searched book scan source inverse levels plan) where
  pub readable-now : (i : ℕ) → i < plan.window.length → Readable scan source inverse levels plan.scale (plan.covered + i)
  readable-now i h = let L = w.lists in rw (L.scan_is, L.source_is, L.inverse_is, L.levels_is) (readable-here w.checked i h)

  -- a position by what it offers and what prices a level there
  pub spotted-now : {i : ℕ} {offer : Offer} {array : List ℤ} {x : Place} {level : ℤ} → ((b : Block) → Lists b scan source inverse levels → Planned b plan → Offered plan.window b i offer array) → level ≡ offer.level
      → ((b : Block) → Planned b plan → offer.ideal ≡ ideal b i → level ≡ input_at b (covered b + i) → x ≡ place_of b plan.log2 i) → Spotted plan.window w.block plan.log2 i (spot_of x (listed (in_array offer.count array)))
  spotted-now O back placed =
      let o = O w.block w.lists w.checked.planned in
      record { place_is = placed w.block w.checked.planned o.ideal_is (back ∙ o.level_is); listed_is = o.listed_is }
