use Rattle.std.proofs.Common.{◌≡◌, None, length}
use Rattle.quorum.specs.Firsts.{first_below}
use Rattle.protocol.specs.Openings.{own_fault}
use Rattle.committee.proofs.opening.check_owns.Given as goal

abbrev pub invariant-loop-slot : goal.invariant-loop-slot
invariant-loop-slot g l = first_below (own_fault (g.V.ValidityRule.valid l.validity) l.foreign.bits l.owns) (length l.yielded) ≡ None
