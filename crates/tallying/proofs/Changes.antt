-- One token more, whichever way a tally is changed, and where the loop ends. Assumes nothing.
use Rattle.std.proofs.Common.{◌≡◌, ℕ, ◌+◌, ◌-◌, ◌<◌, ◌≤◌, List, length, get_or, set, add-zero, arith}
use native.Mathlib.Nat.{sub-zero}
use Rattle.tallying.specs.declared.Change.{Change}
use Rattle.tallying.specs.declared.Change.TheVariants.{Add, Remove}
use Rattle.tallying.specs.Uses.{Tokens, place_at, extra_at}
use Rattle.tallying.specs.Tally.{tally_of, many}
use Rattle.tallying.specs.Counting.{to_add, rest_to_add, to_remove}
use Rattle.tallying.proofs.Checks.{Countable}
use Rattle.tallying.specs.Changes.{op_of, room_of, rest_of, Goes, SomeCounted}
use Rattle.tallying.proofs.Uses.{extra-room}
use Rattle.tallying.proofs.Steps.{Going, going-none, going-at, in-places, going_next, add-full, add-over, add-fits, remove-empty, remove-under, remove-fits}
use Rattle.tallying.proofs.Ends.{some-added, some-removed}

-- a loop under way: i tokens have been counted
abbrev pub Under : List ℕ → List ℕ → Tokens → List ℕ → ℕ → Change → List ℕ → ℕ → ℕ → Type 0
Under map configs t counts extra change held total i =
    Going (op_of change) (room_of change (tally_of counts extra)) (rest_of change (tally_of counts extra)) map configs t (many t) counts extra held total i

module _ {map configs : List ℕ} {t : Tokens} {counts : List ℕ} {extra : ℕ} where
  pub none : (change : Change) → Under map configs t counts extra change counts extra 0
  none Add = going-none (op_of Add) (to_add (tally_of counts extra)) (rest_to_add (tally_of counts extra)) map configs t (many t) counts extra add-zero
  none Remove = going-none (op_of Remove) (to_remove (tally_of counts extra)) extra map configs t (many t) counts extra sub-zero

  module _ {held : List ℕ} {total i : ℕ} where
    pub all : (change : Change) → Under map configs t counts extra change held total i → many t ≤ i → SomeCounted change map configs t (many t) (tally_of counts extra) (many t) (tally_of held total)
    all Add G e =
        let whole : i ≡ many t = omega (arith, e, G.few) in
        rw whole at (some-added G (λ h. absurd (omega (arith, h, e))))
    all Remove G e =
        let whole : i ≡ many t = omega (arith, e, G.few) in
        rw whole at (some-removed G (λ h. absurd (omega (arith, h, e))))

    -- token i
    module _ {p e : ℕ} (K : Countable map configs t (length counts)) (l : i < many t) (place : p ≡ place_at map configs t i) (bits : e ≡ extra_at map configs t i) where
      pub next : (change : Change) → Under map configs t counts extra change held total i → Goes change 4294967296 (get_or held p 0) 1 → Goes change 18446744073709551616 total e
          → Under map configs t counts extra change (set held p (op_of change (get_or held p 0) 1)) (op_of change total e) (i + 1)
      next Add G has rest =
          let at = going-at (op_of Add) (to_add (tally_of counts extra)) (rest_to_add (tally_of counts extra)) map configs t (many t) counts extra G p (rw place (in-places K i l)) in
          going_next (op_of Add) (to_add (tally_of counts extra)) (rest_to_add (tally_of counts extra)) map configs t (many t) counts extra G p (get_or held p 0 + 1) (total + e) l place (rw place (in-places K i l)) (omega (arith, at)) (omega (arith, G.total-is, bits))
          (add-fits map configs t counts extra i p e place bits (omega (arith, at, has)) (omega (arith, G.total-is, rest)))
      next Remove G has rest =
          let at = going-at (op_of Remove) (to_remove (tally_of counts extra)) extra map configs t (many t) counts extra G p (rw place (in-places K i l)) in
          let enough = extra-room map configs t (to_remove (tally_of counts extra)) extra i G.fitted in
          going_next (op_of Remove) (to_remove (tally_of counts extra)) extra map configs t (many t) counts extra G p (get_or held p 0 - 1) (total - e) l place (rw place (in-places K i l)) (omega (arith, at)) (omega (arith, G.total-is, bits))
          (remove-fits map configs t counts extra i p e place bits (omega (arith, at, has)) enough (omega (arith, G.total-is, rest)))

      pub no-place : (change : Change) → Under map configs t counts extra change held total i → (Goes change 4294967296 (get_or held p 0) 1 → ⊥)
          → SomeCounted change map configs t (many t) (tally_of counts extra) i (tally_of held total)
      no-place Add G full =
          let at = going-at (op_of Add) (to_add (tally_of counts extra)) (rest_to_add (tally_of counts extra)) map configs t (many t) counts extra G p (rw place (in-places K i l)) in
          some-added G (λ _. add-full map configs t counts extra i p e place bits (omega (arith, at, full)))
      no-place Remove G empty =
          let at = going-at (op_of Remove) (to_remove (tally_of counts extra)) extra map configs t (many t) counts extra G p (rw place (in-places K i l)) in
          some-removed G (λ _. remove-empty map configs t counts extra i p e place bits (omega (arith, at, empty)))

      pub no-rest : (change : Change) → Under map configs t counts extra change held total i → total < 18446744073709551616 → (Goes change 18446744073709551616 total e → ⊥)
          → SomeCounted change map configs t (many t) (tally_of counts extra) i (tally_of held total)
      no-rest Add G fits over =
          some-added G (λ _. add-over map configs t counts extra i p e place bits (omega (arith, G.total-is, fits)) (omega (arith, G.total-is, over)))
      no-rest Remove G fits under =
          let enough = extra-room map configs t (to_remove (tally_of counts extra)) extra i G.fitted in
          some-removed G (λ _. remove-under map configs t counts extra i p e place bits enough (omega (arith, G.total-is, under)))
