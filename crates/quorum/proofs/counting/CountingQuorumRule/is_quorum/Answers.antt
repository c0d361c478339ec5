use Rattle.std.proofs.Common.{◌∙◌}
use Rattle.quorum.proofs.Questions.{counting_quorum}
use Rattle.quorum.proofs.counting.CountingQuorumRule.is_quorum.Goals as goal

pub returns : goal.returns
returns c = c.is_enough.ensures ∙ counting_quorum c.args.self.now.f c.args.set.bits c.size.result c.count.result c.size.ensures c.count.ensures
