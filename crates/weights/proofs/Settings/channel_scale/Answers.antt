use mathlib.Core.Path.{sym, ap, ◌∙◌}
use mathlib.Core.Bool.{Bool, cond}
use borrow.Author.Tests.{eq-eqb, ne_eqb}
use lib.Ieee.{Float, binary32, mul, of_bits}
use Rattle.weights.specs.Weights.{one_f, chroma_weight}
use Rattle.weights.specs.Settings.{channel_scale}
use Rattle.weights.proofs.Settings.channel_scale.Goals as goal

pub returns-then-channel-eq1 : goal.returns-then-channel-eq1
unfolding channel_scale of_bits
returns-then-channel-eq1 c =
    let a = c.args in
    sym (ap (λ (b : Bool). mul binary32 a.self.channel_weight (cond b one_f (chroma_weight a.self.distance))) (eq-eqb a.channel 1 c.if-channel-eq1.true))

pub returns : goal.returns
unfolding channel_scale
returns c =
    let a = c.args in
    ap (λ (x : Float). mul binary32 a.self.channel_weight x) c.chroma_rdoq_weight.ensures
    ∙ sym (ap (λ (b : Bool). mul binary32 a.self.channel_weight (cond b one_f (chroma_weight a.self.distance))) (ne_eqb a.channel 1 c.if-channel-eq1.false))
