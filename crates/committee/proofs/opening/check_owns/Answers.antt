use Rattle.std.proofs.Common.{length, rules}
use Rattle.std.proofs.lemmas.List.{length_push}
use Rattle.quorum.proofs.Found.{none_from_ok, some_from_err, exits, first_more, first_here}
use Rattle.quorum.proofs.Numbered.{turn}
use Rattle.protocol.specs.Openings.{own_fault}
use Rattle.committee.proofs.opening.check_owns.Goals as goal

pub returns-in_err-check_own : goal.returns-in_err-check_own
returns-in_err-check_own g c =
    let at = turn c.args.size c.args.owns.now c.loop-slot.yielded _ _ c.next.new.self _ (search rules) (search rules) c.loop-slot.yielded_by _ c.in-Some.is c.next.ensures.steps in
    let found = some_from_err _ _ _ c.in_err-check_own.ensures in
    exits _ _ _ _ c.from_residual.ensures.1
    (first_here (own_fault (g.V.ValidityRule.valid c.args.validity.now) c.args.foreign.bits c.args.owns.now) (length c.loop-slot.yielded) _ _ at.1.low c.loop-slot.invariant (rw (at.0, at.1.entry_is 0) at found))

pub loop-slot-preserved : goal.loop-slot-preserved
loop-slot-preserved g c =
    let at = turn c.args.size c.args.owns.now c.loop-slot.yielded _ _ c.next.new.self _ (search rules) (search rules) c.loop-slot.yielded_by _ c.in-Some.is c.next.ensures.steps in
    let none = none_from_ok _ _ _ c.in_ok-check_own.ensures in
    rw length_push (first_more _ (length c.loop-slot.yielded) c.loop-slot.invariant (rw (at.0, at.1.entry_is 0) at none))
