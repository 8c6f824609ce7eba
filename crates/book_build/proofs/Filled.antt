-- A book whose ready prices were filled passes checks 1 to 6.
use Prim.Native.Nat.{ℕ, ◌+◌, ◌*◌, ◌<◌}
use mathlib.Core.Path.{◌≡◌, ap, ap₂, ◌∙◌}
use mathlib.Core.Bool.{Bool, true, cond}
use mathlib.Core.List.{List}
use native.Mathlib.Omega.{arith}
use lib.ListN.{length}
use lib.Ieee.{Float, nan, to_bits, binary32}
use borrow.Author.Tests.{eq-eqb, ne_eqb}
use Rattle.prices.specs.Book.{Book, at, cluster_price}
use Rattle.prices.specs.Checks.{same_bits, row_kept, check1, check2, check3, check4, check5, check6, first_two, first_five, fill_refusal, book_refusal}
use Rattle.prices.proofs.Each.{each_all}
use Rattle.prices.proofs.Passed.{sound, six}
use Rattle.book_build.specs.Paint.{paint}
use Rattle.book_build.specs.Fill.{ready_entry, filled_ready, filled}
use Rattle.book_build.proofs.Painted.{paint-length, paint-at}

pub refused : (b : Book) → (fill_refusal b ≡ 0 → ⊥) → filled_ready b ≡ b.ready
unfolding filled_ready
refused b ne = simp (ne_eqb (fill_refusal b) 0 ne)

pub accepted : (b : Book) → fill_refusal b ≡ 0 → filled_ready b ≡ paint (ready_entry b.configs b.symbols) 0 (256 * b.clusters) b.ready
unfolding filled_ready
accepted b e = simp (eq-eqb (fill_refusal b) 0 e)

same_length : (b : Book) → fill_refusal b ≡ 0 → length (filled_ready b) ≡ length b.ready
same_length b e = ap length (accepted b e) ∙ paint-length _ 0 (256 * b.clusters) b.ready

-- Checks 1 to 5 look at the number of ready prices alone.
still-sound : (b : Book) → fill_refusal b ≡ 0 → fill_refusal (filled b) ≡ 0
unfolding fill_refusal first_five first_two filled check1 check2 check3 check4 check5
still-sound b e = rw (same_length b e) e

entry : (b : Book) → fill_refusal b ≡ 0 → (k v : ℕ) → k < b.clusters → v < 256 → at (filled_ready b) (256 * k + v) ≡ cluster_price b.configs b.symbols k v
unfolding ready_entry
entry b e k v hk hv =
    let p = sound b e in
    ap (λ (l : List Float). at l (256 * k + v)) (accepted b e)
    ∙ paint-at (ready_entry b.configs b.symbols) (256 * b.clusters) b.ready nan (256 * k + v) (omega arith) (omega (arith, p.ready_long))
    ∙ ap₂ (cluster_price b.configs b.symbols) (omega arith) (omega arith)

same_bits_lem : {x y : Float} → x ≡ y → same_bits x y ≡ true
unfolding same_bits
same_bits_lem e = eq-eqb _ _ (ap (to_bits binary32) e)

pub filled-passes : (b : Book) → fill_refusal b ≡ 0 → book_refusal (filled b) ≡ 0
unfolding check6 row_kept filled
filled-passes b e =
    six (filled b) (still-sound b e)
    ∙ ap (λ (t : Bool). cond {A = ℕ} t 0 6)
    (each_all (row_kept b.configs b.symbols (filled_ready b)) b.clusters
    (λ k hk. each_all (λ v. same_bits (at (filled_ready b) (256 * k + v)) (cluster_price b.configs b.symbols k v)) 256 (λ v hv. same_bits_lem (entry b e k v hk hv))))
