-- The paths kept, as the step's arrays. Assumes nothing.
use mathlib.Core.Path.{◌≡◌, refl}
use mathlib.Core.List.{List, [], ◌∷◌}
use Prim.Native.Nat.{ℕ, zero, suc, ◌+◌, ◌*◌, ◌%◌, ◌≤◌, ◌<◌}
use native.Mathlib.Omega.{arith}
use lib.Dec.{T}
use lib.ListN.{length, get_or}
use lib.Ieee.{Float, nan}
use lib.Ieee.Scale.{finite}
use Rattle.least_cost.specs.Position.{Position}
use Rattle.beam_paths.specs.Path.{Path}
use Rattle.beam_paths.specs.Held.{no_path, PathsFor, Named, Remembered}
use Rattle.beam_paths.specs.Entries.{KeptIs}
use Rattle.beam_paths.specs.declared.kept.Kept.{Kept}

abbrev pub remainings : Kept → List ℕ
remainings k = k.one.remaining ∷ k.two.remaining ∷ k.three.remaining ∷ []

abbrev pub costs : Kept → List Float
costs k = k.one.first.cost ∷ k.one.second.cost ∷ k.two.first.cost ∷ k.two.second.cost ∷ k.three.first.cost ∷ k.three.second.cost ∷ []

abbrev pub bytes : Kept → List ℕ
bytes k =
    k.one.first.choice % 256 ∷ k.one.second.choice % 256 ∷ k.two.first.choice % 256 ∷ k.two.second.choice % 256 ∷ k.three.first.choice % 256 ∷ k.three.second.choice % 256 ∷ []

-- a choice that names one of three paths is a byte
named-byte : {q : Position} {xs : List Path} {p b : ℕ} {y : Path} → length xs ≤ 3 → Named q xs p b y → Named q xs p (b % 256) y
named-byte {q} {xs} {p} {b} {y} few w =
    let same : b % 256 ≡ b = omega (arith, few, w.path) in
    rw same w

module _ {q : Position} {xs ys : List Path} {k : Kept} (w : KeptIs q xs ys k) where
  remaining-at : (j : ℕ) → j < length ys → get_or (remainings k) j 0 ≡ (get_or ys j no_path).remaining
  remaining-at zero h = (w.one h).remaining_is
  remaining-at (suc zero) h = (w.two h).remaining_is
  remaining-at (suc (suc zero)) h = (w.three h).remaining_is
  remaining-at (suc (suc (suc j))) h = absurd (omega (arith, w.few))

  cost-at : (j p : ℕ) → j < length ys → p ≤ 1 → get_or (costs k) (2 * j + p) nan ≡ (get_or ys j no_path).cost p
  cost-at zero zero h l = (w.one h).first_is
  cost-at zero (suc zero) h l = (w.one h).second_is
  cost-at zero (suc (suc p)) h l = absurd (omega arith)
  cost-at (suc zero) zero h l = (w.two h).first_is
  cost-at (suc zero) (suc zero) h l = (w.two h).second_is
  cost-at (suc zero) (suc (suc p)) h l = absurd (omega arith)
  cost-at (suc (suc zero)) zero h l = (w.three h).first_is
  cost-at (suc (suc zero)) (suc zero) h l = (w.three h).second_is
  cost-at (suc (suc zero)) (suc (suc p)) h l = absurd (omega arith)
  cost-at (suc (suc (suc j))) p h l = absurd (omega (arith, w.few))

  byte_at : length xs ≤ 3 → (j p : ℕ) → j < length ys → p ≤ 1 → T (finite ((get_or ys j no_path).cost p)) → Named q xs p (get_or (bytes k) (2 * j + p) 0) (get_or ys j no_path)
  byte_at few zero zero h l t = named-byte few ((w.one h).first_by t)
  byte_at few zero (suc zero) h l t = named-byte few ((w.one h).second_by t)
  byte_at few zero (suc (suc p)) h l t = absurd (omega arith)
  byte_at few (suc zero) zero h l t = named-byte few ((w.two h).first_by t)
  byte_at few (suc zero) (suc zero) h l t = named-byte few ((w.two h).second_by t)
  byte_at few (suc zero) (suc (suc p)) h l t = absurd (omega arith)
  byte_at few (suc (suc zero)) zero h l t = named-byte few ((w.three h).first_by t)
  byte_at few (suc (suc zero)) (suc zero) h l t = named-byte few ((w.three h).second_by t)
  byte_at few (suc (suc zero)) (suc (suc p)) h l t = absurd (omega arith)
  byte_at few (suc (suc (suc j))) p h l t = absurd (omega (arith, w.few))

  pub paths-closed : PathsFor ys (record { count = k.count; remaining = remainings k; costs = costs k })
  paths-closed =
      record {
        count_is = w.count_is;
        few = omega (arith, w.count_is, w.few);
        three = refl;
        six = refl;
        remaining_is = remaining-at;
        cost_is = cost-at;
      }

  pub bytes-closed : length xs ≤ 3 → Remembered q xs ys (bytes k)
  bytes-closed few = record { six = refl; each = byte_at few }
