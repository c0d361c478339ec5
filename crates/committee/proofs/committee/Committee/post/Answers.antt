use Rattle.std.proofs.Common.{rules}
use Rattle.std.proofs.lemmas.Result.{err_from_is_err_and}
use Rattle.committee.specs.Committees.{setting, lent}
use Rattle.committee.proofs.Refused.{post_refused}
use Rattle.committee.proofs.committee.Committee.post.Goals as goal

pub returns-in_err-check_posting : goal.returns-in_err-check_posting
returns-in_err-check_posting g c =
    let S = setting g.Q.QuorumRule.meaning g.V.ValidityRule.valid c.args.self.now in
    let s = lent c.args.self.now.books c.args.table.now c.args.post.now in
    let u = post_refused S s _ c.args.process c.args.posting.now c.in_err-check_posting.ensures in
    let p = err_from_is_err_and c.from_residual.result c.from_residual.ensures.1 in
    record { answer = rw (p.1, p.2, u); post = rw u; books = rw u; same = search rules }
