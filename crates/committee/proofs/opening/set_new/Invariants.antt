use Rattle.std.proofs.Common.{◌≡◌}
use Rattle.protocol.specs.Openings.{new_rows}
use Rattle.committee.proofs.opening.set_new.Given as goal

abbrev pub invariant-loop-slot : goal.invariant-loop-slot
invariant-loop-slot l = l.table ≡ new_rows l.owns l.initial.table l.slot
