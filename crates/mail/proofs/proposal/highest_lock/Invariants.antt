use Rattle.std.proofs.Common.{◌≡◌, length}
use Rattle.mail.specs.Readings.{read}
use Rattle.mail.specs.Judging.{top_lock}
use Rattle.mail.proofs.proposal.highest_lock.Given as goal

abbrev pub invariant-loop-cited : goal.invariant-loop-cited
invariant-loop-cited l = l.top ≡ top_lock (read l.reading) l.citations (length l.yielded)
