use Rattle.quorum.proofs.Found.{none_from_ok}
use Rattle.committee.specs.Committees.{whole}
use Rattle.committee.proofs.Opened.{promise}
use Rattle.committee.proofs.committee.Committee.open.Goals as goal

pub returns-clause-promise : goal.returns-clause-promise
returns-clause-promise g c =
    let none = none_from_ok _ _ _ c.in_ok-check_opening.ensures in
    λ _ few. promise (g.Q.QuorumRule.meaning c.args.self.now.rule) (g.V.ValidityRule.valid c.args.self.now.validity) c.args.table.now c.args.post.now c.args.foreign.bits c.args.owns.now (whole c.args.self.now.books c.args.self.now.foreign.bits) (g.met.Q.QuorumRule.lawful c.args.self.now.rule) none _ c.size-size.ensures _ c.set_new.ensures _ c.below-self.ensures few
