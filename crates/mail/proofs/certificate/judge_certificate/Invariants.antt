use Rattle.std.proofs.Common.{◌≡◌, None, length}
use Rattle.quorum.specs.Firsts.{first_below}
use Rattle.mail.specs.Readings.{read}
use Rattle.mail.specs.Judging.{vote_fault}
use Rattle.mail.proofs.certificate.judge_certificate.Given as goal

abbrev pub invariant-loop-slot : goal.invariant-loop-slot
invariant-loop-slot g l = first_below (vote_fault (read l.reading) l.report.citations l.report.locked l.report.value l.place) (length l.yielded) ≡ None
