use Rattle.std.proofs.Common.{◌≡◌, length}
use Rattle.sets.specs.Sets.{sift}
use Rattle.quorum.specs.Tallies.{passing}
use Rattle.quorum.proofs.tally.tally.Given as goal

abbrev pub invariant-loop-process : goal.invariant-loop-process
invariant-loop-process g l = l.passing.bits ≡ sift (length l.yielded) (passing (g.T.EntryTest.accepts l.test) l.entries)
