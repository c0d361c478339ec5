use Rattle.std.proofs.Common.{◌≡◌, None, length}
use Rattle.quorum.specs.Firsts.{first_below}
use Rattle.mail.specs.Readings.{read}
use Rattle.steps.specs.Proposing.{lock_value}
use Rattle.steps.proofs.choosing.locked_value.Given as goal

abbrev pub invariant-loop-held : goal.invariant-loop-held
invariant-loop-held l = first_below (lock_value (read l.reading) l.reports l.locked) (length l.yielded) ≡ None
