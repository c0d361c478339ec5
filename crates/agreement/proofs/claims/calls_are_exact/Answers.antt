use Rattle.agreement.proofs.Exacts.{exact}
use Rattle.agreement.proofs.claims.calls_are_exact.Goals as goal

pub returns : goal.returns
returns g c = exact (g.Q.QuorumRule.meaning c.args.rule.now) (g.V.ValidityRule.valid c.args.validity.now) (g.met.Q.QuorumRule.lawful c.args.rule.now)
