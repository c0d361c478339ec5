use Rattle.std.proofs.Common.{refl}
use Rattle.mail.specs.Messages.{posted}
use Rattle.mail.proofs.Judged.{judging}
use Rattle.mail.proofs.claims.judging_stands.Goals as goal

pub returns : goal.returns
unfolding posted
returns g c = judging (g.Q.QuorumRule.meaning c.args.rule.now) _ refl (g.V.ValidityRule.valid c.args.validity.now)
