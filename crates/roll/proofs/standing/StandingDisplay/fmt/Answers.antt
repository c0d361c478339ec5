use Rattle.roll.proofs.standing.StandingDisplay.fmt.Goals as goal

pub returns-clause-writes : goal.returns-clause-writes
returns-clause-writes g c plain ok = rw (← c.yes_or_no.ensures, ← c.yes_or_no-2.ensures) (c.write.ensures.writes plain ok)
