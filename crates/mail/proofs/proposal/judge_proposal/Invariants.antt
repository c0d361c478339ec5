use Rattle.std.proofs.Common.{◌≡◌, None, length}
use Rattle.quorum.specs.Firsts.{first_below}
use Rattle.mail.specs.Readings.{read}
use Rattle.mail.specs.Judging.{citation_fault}
use Rattle.mail.proofs.proposal.judge_proposal.Given as goal

abbrev pub invariant-loop-slot : goal.invariant-loop-slot
invariant-loop-slot g l = first_below (citation_fault (g.Q.QuorumRule.meaning l.rule) (read l.reading) l.proposal l.place) (length l.yielded) ≡ None
