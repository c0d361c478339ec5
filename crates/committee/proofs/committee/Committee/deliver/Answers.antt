use Rattle.quorum.proofs.Found.{none_from_ok}
use Rattle.committee.specs.Committees.{setting, lent}
use Rattle.committee.proofs.Delivered.{by_answer, by_row}
use Rattle.committee.proofs.committee.Committee.deliver.Goals as goal

pub returns : goal.returns
returns g c =
    let S = setting g.Q.QuorumRule.meaning g.V.ValidityRule.valid c.args.self.now in
    let s = lent c.args.self.now.books c.args.table.now c.args.post.now in
    let n = none_from_ok _ _ _ c.in_ok-check_lent.ensures in
    let m = none_from_ok _ _ _ c.in_ok-check_run.ensures in
    record {
      answer = by_answer S s c.args.process c.args.place n m _ c.give_to.ensures.answer;
      table = by_row S s c.args.process c.args.place n m _ c.give_to.ensures.after;
    }
