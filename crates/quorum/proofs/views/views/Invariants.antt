use Rattle.std.proofs.Common.{◌≡◌, ◌+◌, not, length}
use Rattle.quorum.specs.Wishes.{highest}
use Rattle.quorum.proofs.views.views.Given as goal

abbrev pub invariant-loop-view : goal.invariant-loop-view
invariant-loop-view g l =
    let m = g.Q.QuorumRule.meaning l.rule in
    let k = length l.yielded in
    (k + l.view-iterator.n ≡ m.size)
    × (k + length l.view-iterator.iter.rest.now ≡ length l.wishes)
    × (l.hopeful ≡ highest (λ s. not (m.tolerated s)) l.wishes k)
    × (l.settled ≡ highest m.quorum l.wishes k)
