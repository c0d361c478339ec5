use Rattle.mail.specs.Readings.{read}
use Rattle.steps.proofs.Planning.{by_relay, by_take_up, by_proposal, by_vote}
use Rattle.steps.proofs.plan.plan_move.Goals as goal

pub returns-then-row-hopeful : goal.returns-then-row-hopeful
returns-then-row-hopeful g c =
    let m = g.Q.QuorumRule.meaning c.args.rule.now in
    by_relay m (read c.args.reading.now) c.args.process c.args.row.now _ c.views-hopeful.ensures c.if-row-hopeful.true

pub returns-then-may_take_up : goal.returns-then-may_take_up
returns-then-may_take_up g c =
    let m = g.Q.QuorumRule.meaning c.args.rule.now in
    by_take_up m (read c.args.reading.now) c.args.process c.args.row.now _ c.views-hopeful.ensures c.if-row-hopeful.false _ c.may_take_up.ensures c.if-may_take_up.true

pub returns-then-may_propose : goal.returns-then-may_propose
returns-then-may_propose g c =
    let m = g.Q.QuorumRule.meaning c.args.rule.now in
    by_proposal m (read c.args.reading.now) c.args.process c.args.row.now _ c.views-hopeful.ensures c.if-row-hopeful.false _ c.may_take_up.ensures c.if-may_take_up.false _ c.may_propose.ensures c.if-may_propose.true _ (rw c.size.ensures at c.choose-value.ensures)

pub returns : goal.returns
returns g c =
    let m = g.Q.QuorumRule.meaning c.args.rule.now in
    by_vote m (read c.args.reading.now) c.args.process c.args.row.now _ c.views-hopeful.ensures c.if-row-hopeful.false _ c.may_take_up.ensures c.if-may_take_up.false _ c.may_propose.ensures c.if-may_propose.false _ c.plan_vote.ensures
