use Rattle.quorum.proofs.Highs.{views_are}
use Rattle.quorum.proofs.claims.views_stand.Goals as goal

pub returns : goal.returns
returns g c = views_are (g.Q.QuorumRule.meaning c.args.rule.now) (g.met.Q.QuorumRule.lawful c.args.rule.now)
