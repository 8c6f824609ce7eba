-- What is tested of a list before any search holds of the blocks of each channel alone. Assumes nothing.
use mathlib.Core.Path.{◌≡◌, refl, sym, ap, subst}
use mathlib.Core.Bool.{Bool, true, false, not, cond, ◌||◌}
use mathlib.Core.List.{List, [], ◌∷◌}
use Prim.Native.Nat.{ℕ, ◌+◌}
use borrow.Author.Tests.{eqb-true}
use lib.Dec.{eqb}
use lib.Ieee.{Float}
use Rattle.laws.proofs.Refused.{passes-first}
use Rattle.laws.proofs.Tests.{and_left, and_right}
use Rattle.laws.specs.Refusals.{first_refused}
use Rattle.prices.proofs.Each.{each_same}
use Rattle.group_list.specs.Heads.{Head, heads_of, covers, covering}
use Rattle.group_list.specs.Checks.{in_order, sided, channelled, inside, apart, neighboured, heads_refusal, whole_blocks, list_refusal}
use Rattle.group_list.specs.Channel.{of_channel}

-- a block of another channel covers no cell of this one
pub covers-other : (channel : ℕ) (h : Head) (x y : ℕ) → eqb channel h.channel ≡ false → covers h channel x y ≡ false
unfolding covers
covers-other channel h x y e = rw e

pub covering-alone : (channel : ℕ) (hs : List Head) (x y : ℕ) → covering (of_channel channel hs) channel x y ≡ covering hs channel x y
unfolding covering of_channel
covering-alone channel [] x y = refl
covering-alone channel (h ∷ hs) x y = go (eqb channel h.channel) refl (covering-alone channel hs x y)
  where
    go : (t : Bool) → eqb channel h.channel ≡ t → covering (of_channel channel hs) channel x y ≡ covering hs channel x y
        → covering (cond t (h ∷ of_channel channel hs) (of_channel channel hs)) channel x y ≡ (covers h channel x y || covering hs channel x y)
    go true e ih = rw ih
    go false e ih = rw (covers-other channel h x y e, ih)

-- a test that sees of the blocks before only those of the block's own channel
module _ (p : List Head → Head → Bool) (own : (before : List Head) (h : Head) → p (of_channel h.channel before) h ≡ p before h) (channel : ℕ) where
  alone : (before hs : List Head) → in_order p before hs ≡ true → in_order p (of_channel channel before) (of_channel channel hs) ≡ true
  unfolding in_order of_channel
  alone before [] e = refl
  alone before (h ∷ hs) e = go (eqb channel h.channel) refl (alone (h ∷ before) hs (and_right (p before h) _ e))
    where
      go : (t : Bool) → eqb channel h.channel ≡ t
          → in_order p (cond t (h ∷ of_channel channel before) (of_channel channel before)) (of_channel channel hs) ≡ true
          → in_order p (of_channel channel before) (cond t (h ∷ of_channel channel hs) (of_channel channel hs)) ≡ true
      go true k ih =
          let own-channel : p (of_channel channel before) h ≡ p before h = subst (λ (c : ℕ). p (of_channel c before) h ≡ p before h) (sym (eqb-true _ _ k)) (own before h) in
          rw (own-channel, and_left (p before h) _ e) ih
      go false k ih = ih

  pub passed-alone : (hs : List Head) → in_order p [] hs ≡ true → in_order p [] (of_channel channel hs) ≡ true
  unfolding of_channel
  passed-alone hs e = alone [] hs e

own-sided : (before : List Head) (h : Head) → sided (of_channel h.channel before) h ≡ sided before h
unfolding sided
own-sided before h = refl

own-channelled : (before : List Head) (h : Head) → channelled (of_channel h.channel before) h ≡ channelled before h
unfolding channelled
own-channelled before h = refl

own-inside : (before : List Head) (h : Head) → inside (of_channel h.channel before) h ≡ inside before h
unfolding inside
own-inside before h = refl

own-apart : (before : List Head) (h : Head) → apart (of_channel h.channel before) h ≡ apart before h
unfolding apart
own-apart before h = each_same _ _ h.cy (λ j k. each_same _ _ h.cx (λ i l. ap not (covering-alone h.channel before (h.x + i) (h.y + j))))

own-neighboured : (before : List Head) (h : Head) → neighboured (of_channel h.channel before) h ≡ neighboured before h
unfolding neighboured
own-neighboured before h = simp covering-alone

-- a list that passes, test by test
pub record Passes (hs : List Head) : Type 0 where
  pub sides : in_order sided [] hs ≡ true
  pub channels : in_order channelled [] hs ≡ true
  pub within : in_order inside [] hs ≡ true
  pub apart : in_order apart [] hs ≡ true
  pub neighbours : in_order neighboured [] hs ≡ true

pub heads-pass : (hs : List Head) → heads_refusal hs ≡ 0 → Passes hs
unfolding heads_refusal
heads-pass hs e =
    let t7 = passes-first (in_order sided [] hs) 7 _ 0 refl e in
    let t9 = passes-first (in_order channelled [] hs) 9 _ 0 refl t7.1 in
    let t29 = passes-first (in_order inside [] hs) 29 _ 0 refl t9.1 in
    let t30 = passes-first (in_order apart [] hs) 30 _ 0 refl t29.1 in
    let t31 = passes-first (in_order neighboured [] hs) 31 _ 0 refl t30.1 in
    record { sides = t7.0; channels = t9.0; within = t29.0; apart = t30.0; neighbours = t31.0 }

pub list-passes : (words : List ℕ) (reals : List Float) → list_refusal words reals ≡ 0 → (whole_blocks words reals ≡ true) × (heads_refusal (heads_of words reals) ≡ 0)
unfolding list_refusal first_refused
list-passes words reals e = passes-first (whole_blocks words reals) 17 [] (heads_refusal (heads_of words reals)) refl e

-- what passes for a list passes for the blocks of each channel alone
pub heads-alone : (channel : ℕ) (hs : List Head) → heads_refusal hs ≡ 0 → heads_refusal (of_channel channel hs) ≡ 0
unfolding heads_refusal first_refused
heads-alone channel hs e =
    let p = heads-pass hs e in
    rw (passed-alone sided own-sided channel hs p.sides, passed-alone channelled own-channelled channel hs p.channels, passed-alone inside own-inside channel hs p.within, passed-alone apart own-apart channel hs p.apart, passed-alone neighboured own-neighboured channel hs p.neighbours)
