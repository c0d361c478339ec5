use Rattle.std.proofs.Common.{length}
use Rattle.std.proofs.lemmas.Bool.Decides.{Decides-at}
use Rattle.sets.proofs.Laws.{weighing_lawful}
use Rattle.quorum.specs.WeightList.{weight_at}
use Rattle.quorum.proofs.Questions.{weights_blocking}
use Rattle.quorum.proofs.weights.WeightsQuorumRule.is_blocking.Goals as goal

pub returns : goal.returns
returns c =
    let me = c.args.self.now in
    let xs = me.list.now in
    Decides-at _ _ c.is_a_third.ensures
    (weights_blocking xs c.args.set.bits c.weigh.result me.total c.weigh.ensures me.whole (weighing_lawful (length xs) (weight_at xs) me.some me.few me.weighty))
