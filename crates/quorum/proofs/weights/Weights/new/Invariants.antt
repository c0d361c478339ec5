use Rattle.std.proofs.Common.{◌≡◌, ◌*◌, ◌≤◌, length, None}
use Rattle.sets.specs.Weighing.{total}
use Rattle.quorum.specs.Firsts.{first_below}
use Rattle.quorum.specs.WeightList.{weight_at, heavy_fault}
use Rattle.quorum.proofs.weights.Weights.new.Given as goal

abbrev pub invariant-loop-process : goal.invariant-loop-process
invariant-loop-process l =
    let i = length l.yielded in
    (l.total ≡ total i (weight_at l.list)) × (l.total ≤ i * 1000000) × (first_below (λ j. heavy_fault (weight_at l.list j) j) i ≡ None)
