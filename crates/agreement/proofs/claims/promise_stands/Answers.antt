use Rattle.agreement.proofs.Promises.{promised}
use Rattle.agreement.proofs.claims.promise_stands.Goals as goal

pub returns : goal.returns
returns g c = promised (g.Q.QuorumRule.meaning c.args.rule.now) (g.V.ValidityRule.valid c.args.validity.now) (g.met.Q.QuorumRule.lawful c.args.rule.now)
