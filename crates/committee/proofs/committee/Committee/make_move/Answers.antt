use Rattle.std.proofs.Common.{rules}
use Rattle.std.proofs.lemmas.Result.{err_from_is_err_and}
use Rattle.committee.specs.Committees.{setting, lent}
use Rattle.committee.proofs.Readied.{readied, unready}
use Rattle.committee.proofs.committee.Committee.make_move.Goals as goal

pub returns-in_err-plan-clause-answer : goal.returns-in_err-plan-clause-answer
returns-in_err-plan-clause-answer g c =
    let S = setting g.Q.QuorumRule.meaning g.V.ValidityRule.valid c.args.self.now in
    let s = lent c.args.self.now.books c.args.table.now c.args.post.now in
    let p = err_from_is_err_and c.from_residual.result c.from_residual.ensures.1 in
    rw (p.1, p.2, unready S s c.args.process _ c.in_err-plan.ensures)

pub returns-in_default : goal.returns-in_default
returns-in_default g c =
    let S = setting g.Q.QuorumRule.meaning g.V.ValidityRule.valid c.args.self.now in
    let s = lent c.args.self.now.books c.args.table.now c.args.post.now in
    let d = readied S s c.args.process _ _ c.in_ok-plan.ensures in
    record {
      answer = rw (d.does, c.in_default.is, c.which.ensures);
      table = rw (d.does, c.in_default.is, c.perform.ensures, c.reading.ensures.size, c.reading.ensures.post, c.reading.ensures.count);
      post = rw (d.does, c.in_default.is);
      books = rw (d.does, c.in_default.is);
      same = search rules;
    }

pub returns : goal.returns
returns g c =
    let S = setting g.Q.QuorumRule.meaning g.V.ValidityRule.valid c.args.self.now in
    let s = lent c.args.self.now.books c.args.table.now c.args.post.now in
    let d = readied S s c.args.process _ _ c.in_ok-plan.ensures in
    record {
      answer = rw (d.does, c.in-Some.is, c.which-2.ensures, c.append.ensures.place);
      table = rw (d.does, c.in-Some.is, c.perform.ensures, c.reading.ensures.size, c.reading.ensures.post, c.reading.ensures.count);
      post = rw (d.does, c.in-Some.is) c.append.ensures.post;
      books = rw (d.does, c.in-Some.is) c.append.ensures.books;
      same = search rules;
    }
