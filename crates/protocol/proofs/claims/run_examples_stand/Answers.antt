use Rattle.std.proofs.Common.{refl}
use Rattle.sets.specs.Sets.{has, sift}
use Rattle.sets.specs.Weighing.{weigh, counting}
use Rattle.quorum.specs.Wishes.{highest}
use Rattle.mail.specs.Messages.{posted}
use Rattle.mail.specs.Judging.{certificate_fault, top_lock, carries, proposal_fault}
use Rattle.protocol.specs.Plans.{backing, choice, plan}
use Rattle.protocol.specs.Calls.{expire, taking_fault, deliver, move}
use Rattle.protocol.specs.Sweeps.{given_all, settle, turns, sweep}
use Rattle.protocol.specs.Openings.{open_fault, new_rows}
use Rattle.protocol.proofs.claims.run_examples_stand.Goals as goal

pub returns : goal.returns
unfolding has sift weigh counting highest posted certificate_fault top_lock carries proposal_fault backing choice plan expire taking_fault deliver move given_all settle turns sweep open_fault new_rows
returns c = record { alone = refl; not_yet = refl; answered = refl; silent = refl }
