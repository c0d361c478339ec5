use Rattle.std.proofs.Common.{refl}
use Rattle.sets.specs.Sets.{has, sift}
use Rattle.sets.specs.Weighing.{weigh, counting}
use Rattle.mail.specs.Messages.{posted}
use Rattle.mail.specs.Judging.{certificate_fault, top_lock, carries, proposal_fault}
use Rattle.mail.proofs.claims.examples_stand.Goals as goal

pub returns : goal.returns
unfolding has sift weigh counting posted certificate_fault top_lock carries proposal_fault
returns c = record {
  rules = c.rule_examples_stand.ensures;
  leaders = (refl, refl, refl, refl);
  no_leader = refl;
  locked_in_its_view = refl;
  highest_passes = refl;
  lower_fails = refl;
}
