-- A record with given runs in front. Assumes nothing.
use Prim.Native.Nat.{ℕ, suc, ◌+◌, ◌*◌, ◌<◌, ◌≤◌}
use mathlib.Core.Path.{◌≡◌, refl, sym, ap, ◌∙◌}
use mathlib.Core.List.{List, [], ◌∷◌, ◌++◌}
use native.Mathlib.Omega.{arith}
use native.Mathlib.Nat.{not-suc-le-zero}
use lib.ListN.{length, get_or, set, drop}
use Rattle.store_record.specs.Placed.{placed}
use Rattle.store_record.specs.Runs.{run, runs_from, flat, headed}
use Rattle.store_record.specs.declared.Run.{Run}
use Rattle.store_record.proofs.Placed.{placed-length, placed_past, placed-placed, placed-over}
use Rattle.store_record.proofs.Runs.{flat-length, flat_append, flat-one, read_back}

pub headed-none : (r : List ℕ) → 0 < length r → headed (get_or r 0 0) [] r ≡ r
unfolding placed flat
headed-none [] h = absurd (not-suc-le-zero h)
headed-none (x ∷ xs) h = refl

pub headed-count : (n : ℕ) (xs : List Run) (r : List ℕ) → get_or (headed n xs r) 0 0 ≡ n
unfolding placed
headed-count n xs r = refl

pub headed-runs : (n : ℕ) (xs : List Run) (r : List ℕ) → runs_from (headed n xs r) 0 (length xs) ≡ xs
unfolding placed
headed-runs n xs r = read_back n xs (drop (0 + suc (length (flat xs))) r)

pub headed-set : (n m : ℕ) (xs : List Run) (r : List ℕ) → set (headed n xs r) 0 m ≡ headed m xs r
unfolding placed
headed-set n m xs r = refl

module _ (n : ℕ) (xs : List Run) (r : List ℕ) (h : 3 * length xs + 1 ≤ length r) where
  front_length : length (n ∷ flat xs) ≡ 3 * length xs + 1
  front_length = let f = flat-length xs in omega arith

  front_fits : 0 + length (n ∷ flat xs) ≤ length r
  front_fits = let f = flat-length xs in omega arith

  pub headed-length : length (headed n xs r) ≡ length r
  headed-length = placed-length 0 (n ∷ flat xs) r front_fits

  pub headed-past : (j : ℕ) → 3 * length xs + 1 ≤ j → get_or (headed n xs r) j 0 ≡ get_or r j 0
  headed-past j l = placed_past 0 (n ∷ flat xs) r front_fits j (let f = flat-length xs in omega arith)

  -- one run more
  pub headed-more : (a b d : ℕ) → placed (3 * length xs + 1) (a ∷ b ∷ d ∷ []) (headed n xs r) ≡ headed n (xs ++ (run a b d ∷ [])) r
  headed-more a b d =
      let f = flat-length xs in
      let e : 3 * length xs + 1 ≡ 0 + length (n ∷ flat xs) = omega arith in
      ap (λ (k : ℕ). placed k (a ∷ b ∷ d ∷ []) (headed n xs r)) e
      ∙ placed-placed 0 (n ∷ flat xs) r front_fits (a ∷ b ∷ d ∷ [])
      ∙ ap (λ (l : List ℕ). placed 0 (n ∷ l) r) (ap (λ (l : List ℕ). flat xs ++ l) (sym (flat-one (run a b d))) ∙ sym (flat_append xs (run a b d ∷ [])))

  -- as many other runs in their place
  pub headed-over : (m : ℕ) (ys : List Run) → length ys ≡ length xs → headed m ys (headed n xs r) ≡ headed m ys r
  headed-over m ys e =
      let f = flat-length xs in
      let g = flat-length ys in
      placed-over 0 (n ∷ flat xs) r front_fits (m ∷ flat ys) (omega arith)
