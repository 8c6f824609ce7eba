-- A reader's answer, told as a code. Assumes nothing.
use Prim.Native.Nat.{ℕ, zero, suc}
use mathlib.Core.Path.{◌≡◌, refl, sym, ap, ap₂, ◌∙◌}
use mathlib.Core.Bool.{cond}
use mathlib.Core.List.{List, []}
use native.Mathlib.Omega.{arith}
use borrow.Author.Tests.{ne_eqb}
use lib.Dec.{eqb}
use lib.ListN.{length, take}
use Rattle.store_map.specs.Map.{reply}
use Rattle.store_map.specs.Store.{Store, run_in, read_refusal}
use Rattle.refusals.specs.Numbers.{code_of}
use Rattle.refusals.specs.declared.Refusal.{Refusal}
use Rattle.std.proofs.Common.{Result, Ok, Err}
use Rattle.c_answers.specs.Told.{after}
use Rattle.store_calls.specs.Calls.{Length, Read, length_of, length_reply, told}
use Rattle.c_store.specs.Told.{ReadTold, length_code, length_after}

code-reply : (n size : ℕ) → length_code (length_reply n size) ≡ n
unfolding length_code length_reply
code-reply zero size = refl
code-reply (suc n) size = refl

after-reply : (n size before : ℕ) → length_after (length_reply n size) before ≡ cond (eqb n 0) size before
unfolding length_after length_reply
after-reply zero size before = refl
after-reply (suc n) size before = rw (ne_eqb (suc n) 0 (λ z. omega arith))

told-reply : (n size before : ℕ) (l : List ℕ) → told (length_reply n size) l ≡ reply n (cond (eqb n 0) (take (cond (eqb n 0) size before) l) [])
unfolding told length_reply
told-reply zero size before l = refl
told-reply (suc n) size before l = rw (ne_eqb (suc n) 0 (λ z. omega arith))

pub code-told : (r : Result ℕ Refusal) → code_of r ≡ length_code (length_of r)
unfolding length_code
code-told (Ok n) = refl
code-told (Err refusal) = refl

pub length-told : (r : Result ℕ Refusal) (before : ℕ) → after r before ≡ length_after (length_of r) before
unfolding length_after after
length-told (Ok n) before = refl
length-told (Err refusal) before = refl

pub read_told : (s : Store) (k : ℕ) (buffer : List ℕ) (before : ℕ) {answer : Length} {after : List ℕ} {code size : ℕ} → Read s k buffer answer after
    → code ≡ length_code answer → size ≡ length_after answer before → ReadTold s k buffer before code after size
read_told s k buffer before {answer} {after} {code} {size} r ec es =
    let R = read_refusal s k (length buffer) in
    let n = (run_in s k).size in
    let c : code ≡ R = ec ∙ ap length_code r.settled ∙ code-reply R n in
    let l : size ≡ cond (eqb R 0) n before = es ∙ ap (λ (a : Length). length_after a before) r.settled ∙ after-reply R n before in
    let t : told answer after ≡ reply code (cond (eqb code 0) (take size after) []) =
    ap (λ (a : Length). told a after) r.settled ∙ told-reply R n before after ∙ sym (ap₂ (λ (m : ℕ) (v : ℕ). reply m (cond (eqb m 0) (take v after) [])) c l) in
    record { settled = c; sized = l; tokens = r.tokens; kept = rw t at r.kept }
