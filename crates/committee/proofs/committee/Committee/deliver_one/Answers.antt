use Rattle.std.proofs.Common.{sym, ◌∙◌}
use Rattle.committee.specs.Committees.{setting, lent}
use Rattle.committee.specs.Sweeping.{sweeping}
use Rattle.committee.proofs.Given.{passed_over, accepted, refused}
use Rattle.committee.proofs.committee.Committee.deliver_one.Goals.{else-is_due-via-then-is_due+else-is_ok, else-is_due-via-else-is_due}
use Rattle.committee.proofs.committee.Committee.deliver_one.Goals as goal

pub returns-then-is_ok-clause-given : goal.returns-then-is_ok-clause-given
returns-then-is_ok-clause-given g c =
    let S = setting g.Q.QuorumRule.meaning g.V.ValidityRule.valid c.args.self.now in
    let w = sweeping (lent c.args.self.now.books c.args.table.now c.args.post.now) c.args.swept.now in
    rw c.count_accepted.ensures (accepted S c.args.process c.args.place w _ _ c.deliver.ensures.answer c.deliver.ensures.table (sym c.is_ok.ensures.value ∙ c.if-is_ok.true))

pub returns-else-is_due-clause-given : goal.returns-else-is_due-clause-given
returns-else-is_due-clause-given g c =
    let S = setting g.Q.QuorumRule.meaning g.V.ValidityRule.valid c.args.self.now in
    let w = sweeping (lent c.args.self.now.books c.args.table.now c.args.post.now) c.args.swept.now in
    elim c.else-is_due.branch [
      | else-is_due-via-then-is_due+else-is_ok b ↦ rw b.table-is (refused S c.args.process c.args.place w _ _ b.deliver.ensures.answer b.deliver.ensures.table (sym b.is_ok.ensures.value ∙ b.if-is_ok.false))
      | else-is_due-via-else-is_due b ↦ rw b.table-is (sym (passed_over S c.args.process c.args.place w c.requires.first (sym b.if-is_due.ensures)))
    ]
