use Rattle.std.proofs.Common.{◌≡◌, length}
use Rattle.mail.specs.Readings.{read}
use Rattle.protocol.specs.Plans.{backing}
use Rattle.steps.proofs.perform.backing_places.Given as goal

abbrev pub invariant-loop-slot : goal.invariant-loop-slot
invariant-loop-slot l = l.places ≡ backing (read l.reading) l.held l.value (length l.yielded)
