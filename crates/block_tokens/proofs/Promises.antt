-- The promises of both calls, of any answer that is the outcome's. Assumes nothing.
use Prim.Native.Nat.{ℕ, ◌+◌, ◌*◌}
use mathlib.Core.Path.{◌≡◌, refl, sym, ap, ◌∙◌}
use mathlib.Core.Bool.{Bool, true, false, cond, false≢true}
use mathlib.Core.List.{List}
use native.Mathlib.Omega.{arith}
use lib.Dec.{eqb}
use lib.IntN.{ℤ}
use lib.ListN.{length}
use Rattle.laws.proofs.Refused.{not-refused}
use Rattle.laws.specs.Refusals.{first_refused}
use Rattle.coding.specs.Coding.{coding_checks}
use Rattle.packing.proofs.Hybrid.{split-of, is-split}
use Rattle.block_tokens.specs.Reply.{Reply, Tokens, Refused}
use Rattle.block_tokens.specs.Tokens.{Token, covered_by, block_tokens, coded_levels}
use Rattle.block_tokens.specs.Code.{Code, code_in}
use Rattle.block_tokens.specs.Writing.{Outputs, written, all_within, all_coded, room_for, write_checks, WriteResult, wrote, write_result}
use Rattle.block_tokens.specs.Reading.{Pair, splits_in}
use Rattle.block_tokens.specs.Outcome.{Given, shape_checks, lent_checks, lent_refusal, write_outcome, ReadResult, read_as, read_outcome}
use Rattle.block_tokens.specs.Promise.{Write, ValuePair, Read}
use Rattle.block_tokens.proofs.Passed.{codes-within, passed}
use Rattle.block_tokens.proofs.Pairs.{Within}
use Rattle.block_tokens.proofs.Accepted.{tokens-most, coded-length, fewer}
use Rattle.block_tokens.proofs.ReadBack.{read_back}
use Rattle.block_tokens.proofs.WrittenBack.{written_back}

-- ---- room

-- 23 is answered by the last of the checks alone
short : (r : ℕ) (w : WriteResult) (o : Outputs) → (w.reply ≡ Refused 23 → ⊥) → (r ≡ 23 → ⊥) → (cond (eqb r 0) w (wrote (Refused r) o)).reply ≡ Refused 23 → ⊥
short r w o own other e = go (eqb r 0) e
  where
    go : (b : Bool) → (cond b w (wrote (Refused r) o)).reply ≡ Refused 23 → ⊥
    go true f = own f
    go false f = other cc

module _ (x : Code) (g : Given) (levels : List ℤ) (o : Outputs) (room : room_for (63 * covered_by g.shape + 1) o ≡ true) where
  abbrev qs : List ℤ
  qs = coded_levels g.shape g.scan levels

  abbrev ts : List Token
  ts = block_tokens g.shape qs

  own : (write_result x g.shape qs o).reply ≡ Refused 23 → ⊥
  unfolding write_result write_checks first_refused room_for
  own =
      let enough : room_for (length ts) o ≡ true = fewer (length ts) (63 * covered_by g.shape + 1) _ _ _ _ (tokens-most g.shape qs (coded-length g.shape g.scan levels)) room in
      short (first_refused (write_checks x g.shape qs o) 0) (wrote (Tokens (length ts)) (written x ts o)) o (λ e. let z : ◌≡◌ {A = ℕ} 0 1 = cc in omega arith)
      (λ e. not23 (all_within qs) (all_coded x ts) (room_for (length ts) o) enough e)
    where
      not23 : (a b c : Bool) → c ≡ true → ◌≡◌ {A = ℕ} (cond a (cond b (cond c 0 23) 20) 24) 23 → ⊥
      not23 true true true d e = omega arith
      not23 true true false d e = false≢true d
      not23 true false c d e = omega arith
      not23 false b c d e = omega arith

lent-not-23 : (g : Given) (levels : List ℤ) → lent_refusal g levels ≡ 23 → ⊥
unfolding lent_refusal lent_checks coding_checks shape_checks
lent-not-23 g levels e = let z = not-refused 23 (lent_checks g levels) 0 refl e in omega arith

-- ---- the promises

pub write-promise : (g : Given) (levels : List ℤ) (o : Outputs) (reply : Reply) (after : Outputs) → wrote reply after ≡ write_outcome g levels o → Write g levels o reply after
unfolding write_outcome
write-promise g levels o reply after e =
    record {
      settled = e;
      reads_back = λ n d old sized. rw (ap (λ (r : WriteResult). r.outputs) e) (read_back g levels o n (sym (ap (λ (r : WriteResult). r.reply) e) ∙ d) old sized);
      room = λ enough d. short (lent_refusal g levels) _ o (own (code_in g.coding) g levels o enough) (lent-not-23 g levels) (sym (ap (λ (r : WriteResult). r.reply) e) ∙ d);
    }

module _ {x : Code} (within : Within x) (at : ℕ) (p : Pair) where
  taken-pair : splits_in x at p ≡ true → ValuePair x at p
  unfolding splits_in
  taken-pair e =
      let s = split-of _ _ _ (within.each at) _ _ e in
      record { value = _; most = s.most; low = s.low; symbol_is = s.symbol_is; bits_are = s.bits_are }

  value_taken : ValuePair x at p → splits_in x at p ≡ true
  unfolding splits_in
  value_taken v =
      is-split _ _ _ (within.each at) _ _ {v = v.value} (record { most = v.most; low = v.low; symbol_is = v.symbol_is; bits_are = v.bits_are })

pub read-promise : (g : Given) (symbols bits : List ℕ) (levels : List ℤ) (reply : Reply) (after : List ℤ) → read_as reply after ≡ read_outcome g symbols bits levels → Read g symbols bits levels reply after
read-promise g symbols bits levels reply after e =
    record {
      settled = e;
      writes_back = λ n d o room. rw (ap (λ (r : ReadResult). r.levels) e) (written_back g symbols bits levels n (sym (ap (λ (r : ReadResult). r.reply) e) ∙ d) o room);
      value_pairs = λ ok at p. let within = codes-within (passed g levels ok).codes in (taken-pair within at p, value_taken within at p);
    }
