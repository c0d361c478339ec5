use Rattle.std.proofs.lemmas.Bool.Decides.{Decides-at}
use Rattle.quorum.proofs.Questions.{counting_blocking}
use Rattle.quorum.proofs.counting.CountingQuorumRule.is_blocking.Goals as goal

pub returns : goal.returns
returns c =
    let me = c.args.self.now in
    Decides-at _ _ c.is_too_many.ensures (counting_blocking me.f c.args.set.bits c.size.result c.count.result c.size.ensures c.count.ensures me.few)
