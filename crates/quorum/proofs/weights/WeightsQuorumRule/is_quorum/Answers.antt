use Rattle.std.proofs.Common.{◌∙◌}
use Rattle.quorum.proofs.Questions.{weights_quorum}
use Rattle.quorum.proofs.weights.WeightsQuorumRule.is_quorum.Goals as goal

pub returns : goal.returns
returns c =
    let me = c.args.self.now in
    c.is_over_two_thirds.ensures ∙ weights_quorum me.list.now c.args.set.bits c.weigh.result me.total c.weigh.ensures me.whole
