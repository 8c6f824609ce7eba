-- The theorem: from a zero tally, any run of calls leaves what its calls brought less what they took. Assumes nothing.
use mathlib.Core.Path.{◌≡◌, refl, sym, ap, ap₂, ◌∙◌}
use mathlib.Core.List.{List, [], ◌∷◌}
use Prim.Native.Nat.{ℕ, ◌+◌, ◌-◌, ◌<◌}
use native.Mathlib.Omega.{arith}
use lib.ListN.{length, get_or, length-replicate, get_or-replicate}
use Rattle.tallying.specs.Tally.{Tally, tally_of}
use Rattle.tallying.proofs.Lists.{listed_is}
use Rattle.tally_runs.specs.Runs.{Call, done, after, answered, zeros, summed, brought_by, taken_by, extra_brought, extra_taken, afresh, AsSums}
use Rattle.tally_runs.proofs.Calls.{balanced}

-- ---- from any tally
after-sized : (y : Tally) (cs : List Call) → length (after y cs).counts ≡ length y.counts
unfolding after
after-sized y [] = refl
after-sized y (c ∷ cs) = after-sized (done c y).tally cs ∙ (balanced c y).sized

after-counts : (y : Tally) (cs : List Call) (s : ℕ) → s < length y.counts
    → get_or (after y cs).counts s 0 + summed (λ c. taken_by c s) (answered y cs) ≡ get_or y.counts s 0 + summed (λ c. brought_by c s) (answered y cs)
unfolding after answered summed
after-counts y [] s h = refl
after-counts y (c ∷ cs) s h =
    let B = balanced c y in
    omega (arith, after-counts (done c y).tally cs s (omega (arith, h, B.sized)), B.counts s h)

after-extra : (y : Tally) (cs : List Call) → (after y cs).extra + summed extra_taken (answered y cs) ≡ y.extra + summed extra_brought (answered y cs)
unfolding after answered summed
after-extra y [] = refl
after-extra y (c ∷ cs) = omega (arith, after-extra (done c y).tally cs, (balanced c y).extra)

-- ---- from a zero tally
module _ (n : ℕ) (calls : List Call) where
  counts_are : (s : ℕ) → s < n → get_or (after (zeros n) calls).counts s 0 + summed (λ c. taken_by c s) (answered (zeros n) calls) ≡ summed (λ c. brought_by c s) (answered (zeros n) calls)
  counts_are s h = omega (arith, after-counts (zeros n) calls s (omega (arith, h, length-replicate {A = ℕ} n 0)), get_or-replicate {A = ℕ} n s 0 0 h)

  extra_is : (after (zeros n) calls).extra + summed extra_taken (answered (zeros n) calls) ≡ summed extra_brought (answered (zeros n) calls)
  extra_is = omega (arith, after-extra (zeros n) calls)

  tally-is : after (zeros n) calls ≡ afresh n (answered (zeros n) calls)
  unfolding afresh
  tally-is =
      ap₂ (λ (c : List ℕ) (e : ℕ). tally_of c e)
      (sym
      (listed_is (λ s. summed (λ c. brought_by c s) (answered (zeros n) calls) - summed (λ c. taken_by c s) (answered (zeros n) calls)) n (after (zeros n) calls).counts
      (after-sized (zeros n) calls ∙ length-replicate {A = ℕ} n 0)
      (λ i h. omega (arith, counts_are i h))))
      (omega (arith, extra_is))

  pub as_sums : AsSums n calls
  as_sums = record { counts = counts_are; extra = extra_is; tally = tally-is; replies = λ next. ap (λ (y : Tally). (done next y).reply) tally-is }
