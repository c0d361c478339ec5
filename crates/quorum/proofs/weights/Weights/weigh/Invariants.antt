use Rattle.std.proofs.Common.{◌≡◌, ◌*◌, ◌≤◌, length}
use Rattle.sets.specs.Weighing.{weight}
use Rattle.quorum.specs.WeightList.{weight_at}
use Rattle.quorum.proofs.weights.Weights.weigh.Given as goal

abbrev pub invariant-loop-process : goal.invariant-loop-process
invariant-loop-process l =
    let i = length l.yielded in
    (l.sum ≡ weight i (weight_at l.self.list.now) l.set.bits) × (l.sum ≤ i * 1000000)
