use Rattle.std.proofs.Common.{refl, arith, rules}
use Rattle.committee.specs.Committees.{setting, lent}
use Rattle.committee.specs.Sweeping.{sweeping}
use Rattle.committee.proofs.Settled.{same_setting, same_then, comes_to, settle_more, settle_stops, settle_all}
use Rattle.committee.proofs.committee.Committee.settle.Goals as goal

pub loop-preserved : goal.loop-preserved
loop-preserved g c =
    let M = g.Q.QuorumRule.meaning in
    let W = g.V.ValidityRule.valid in
    let start = sweeping (lent c.args.self.now.books c.args.table.now c.args.post.now) c.args.swept.now in
    let w = sweeping (lent c.loop.self.books c.loop.table c.loop.post) c.loop.swept in
    let same = same_setting M W _ c.loop.self c.loop.invariant.same in
    let d = c.in-Ok.ensures in
    record {
      way = settle_more (setting M W c.args.self.now) c.args.process c.loop.counter w start c.loop.invariant.way _ same c.loop-test.true _ _ d.answer (comes_to c.loop.self.books _ _ _ _ d.books d.table d.post);
      same = same_then _ _ _ c.loop.invariant.same d.same;
      few = search rules;
    }

pub returns-in-Err-clause-settled : goal.returns-in-Err-clause-settled
returns-in-Err-clause-settled g c =
    let M = g.Q.QuorumRule.meaning in
    let W = g.V.ValidityRule.valid in
    let start = sweeping (lent c.args.self.now.books c.args.table.now c.args.post.now) c.args.swept.now in
    let w = sweeping (lent c.loop.self.books c.loop.table c.loop.post) c.loop.swept in
    let same = same_setting M W _ c.loop.self c.loop.invariant.same in
    let d = c.in-Err.ensures in
    rw c.count_stopped.ensures (settle_stops (setting M W c.args.self.now) c.args.process c.loop.counter w start c.loop.invariant.way _ same c.loop-test.true _ _ _ d.answer (comes_to c.loop.self.books _ _ _ _ d.books d.table d.post) refl)

pub returns-clause-settled : goal.returns-clause-settled
returns-clause-settled g c =
    let M = g.Q.QuorumRule.meaning in
    let W = g.V.ValidityRule.valid in
    let start = sweeping (lent c.args.self.now.books c.args.table.now c.args.post.now) c.args.swept.now in
    let w = sweeping (lent c.loop.self.books c.loop.table c.loop.post) c.loop.swept in
    settle_all (setting M W c.args.self.now) c.args.process c.loop.counter w start c.loop.invariant.way _ (same_setting M W _ c.loop.self c.loop.invariant.same) (omega arith)
