use Rattle.std.proofs.Common.{◌≡◌, rules, tests}
use Rattle.std.proofs.lemmas.Iterator.{cases_from_any, YieldsList-from_slice}
use Rattle.book_build.proofs.Trained.{row, looked}
use Rattle.book_build.proofs.is_trained.Goals as goal

pub returns : goal.returns
returns c =
    looked c.args.depths.now c.args.cluster c.any.result c.requires
    (cases_from_any _ _ _ (λ depth. depth ≡ 0 → ⊥) (λ depth. depth ≡ 0) c.any.ensures.ran (YieldsList-from_slice (row c.args.depths.now c.args.cluster) (cc)) (λ x q e. search (rules, tests)) (λ x q e. search (rules, tests)))
