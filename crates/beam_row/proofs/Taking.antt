-- The step, by the number of candidates. Assumes nothing.
use mathlib.Core.Path.{◌≡◌, sym, ◌∙◌, subst⁻¹}
use mathlib.Core.List.{List, []}
use Prim.Native.Nat.{◌≤◌}
use lib.IntN.{pos}
use lib.ListN.{length, get_or}
use borrow.Author.Tests.{eq-eqb, ne_eqb}
use Rattle.least_cost.specs.Position.{Position}
use Rattle.prices.specs.Book.{Book}
use Rattle.beam_paths.specs.Path.{Path, ways}
use Rattle.beam_paths.specs.Step.{counts_named, merged_at, kept, extended, stepped}
use Rattle.beam_paths.specs.Held.{PathsFor, Remembered}
use Rattle.beam_paths.specs.Entries.{KeptIs}
use Rattle.beam_paths.specs.declared.Paths.{Paths}
use Rattle.beam_paths.specs.declared.Step.{Step}
use Rattle.beam_paths.specs.declared.kept.Kept.{Kept}
use Rattle.beam_row.specs.Held.{Spot, Stands, Takeable, Taken}
use Rattle.beam_row.proofs.Trying.{candidates-length}
use Rattle.beam_row.proofs.Growing.{counts-next-upto}

stepped-sole : (q : Position) (xs : List Path) → length q.candidates ≡ 1 → stepped q xs ≡ extended q (get_or q.candidates 0 (pos 0)) xs
unfolding stepped
stepped-sole q xs e = rw (eq-eqb (length q.candidates) 1 e)

stepped-several : (q : Position) (xs : List Path) → (length q.candidates ≡ 1 → ⊥) → stepped q xs ≡ kept (merged_at q (ways xs q.candidates) (counts_named [] xs))
unfolding stepped
stepped-several q xs e = rw (ne_eqb (length q.candidates) 1 e)

few-paths : {xs : List Path} {paths : Paths} → PathsFor xs paths → length xs ≤ 3
few-paths W = rw W.count_is W.few

module _ {book : Book} {s : Spot} {paths : Paths} {k : Kept} {r : Step} (K : Takeable book s paths)
    (closed : (q : Position) (xs ys : List Path) → length xs ≤ 3 → KeptIs q xs ys k → (PathsFor ys r.paths) × Remembered q xs ys r.choices) where
  taken : ((q : Position) (xs : List Path) → Stands book s q → PathsFor xs paths → KeptIs q xs (stepped q xs) k) → Taken book s paths r
  taken is =
      let stands : (q : Position) (xs : List Path) → Stands book s q → PathsFor xs paths → PathsFor (stepped q xs) r.paths = λ q xs S W. (closed q xs (stepped q xs) (few-paths W) (is q xs S W)).0 in
      record {
        stands = stands;
        remembered = λ q xs S W. (closed q xs (stepped q xs) (few-paths W) (is q xs S W)).1;
        upto = counts-next-upto K.few K.three K.six stands;
      }

  pub taken-sole : length s.candidates ≡ 1 → ((q : Position) (xs : List Path) → Stands book s q → PathsFor xs paths → KeptIs q xs (extended q (get_or q.candidates 0 (pos 0)) xs) k) → Taken book s paths r
  taken-sole one is = taken (λ q xs S W. subst⁻¹ (λ (ys : List Path). KeptIs q xs ys k) (stepped-sole q xs (candidates-length S ∙ one)) (is q xs S W))

  pub taken-several : (length s.candidates ≡ 1 → ⊥)
      → ((q : Position) (xs : List Path) → Stands book s q → PathsFor xs paths → KeptIs q xs (kept (merged_at q (ways xs q.candidates) (counts_named [] xs))) k) → Taken book s paths r
  taken-several more is =
      taken (λ q xs S W. subst⁻¹ (λ (ys : List Path). KeptIs q xs ys k) (stepped-several q xs (λ e. more (sym (candidates-length S) ∙ e))) (is q xs S W))
