use mathlib.Core.Path.{◌∙◌}
use lib.Dec.{eqb}
use lib.ListN.{take}
use Rattle.std.proofs.Common.{rules}
use Rattle.std.proofs.lemmas.Iterator.{YieldsList-from_slice}
use Rattle.std.proofs.lemmas.Iterator.Search.{all_from_yields_List}
use Rattle.scan.proofs.Bits.{full, all_full}
use Rattle.scan.proofs.all_full.Goals as goal

pub returns : goal.returns
returns c =
    let words = c.args.words.now in
    all_from_yields_List (λ w. eqb w full) _ _ _ c.all.ensures.ran (YieldsList-from_slice (take c.args.n words) cc) (λ x b q k. search rules)
    ∙ all_full words c.args.n c.requires (λ j. (c.type_inv.words j).fits)
