use Rattle.std.proofs.Common.{ℕ, ap, arith}
use Rattle.quorum.proofs.Found.{none_from_ok}
use Rattle.protocol.specs.Sweeps.{begun}
use Rattle.agreement.proofs.Granted.{lent_is}
use Rattle.committee.specs.Committees.{setting, lent}
use Rattle.committee.specs.declared.books.Books.{Books}
use Rattle.committee.proofs.Settled.{same_setting, same_then}
use Rattle.committee.proofs.Rounds.{turns_more, swept_all}
use Rattle.committee.proofs.committee.Committee.sweep.Goals as goal

pub take_turn-requires : goal.take_turn-requires
take_turn-requires g c =
    let S = setting g.Q.QuorumRule.meaning g.V.ValidityRule.valid c.args.self.now in
    let s = lent c.args.self.now.books c.args.table.now c.args.post.now in
    let none = none_from_ok _ _ _ c.in_ok-check_lent.ensures in
    let tall = ((lent_is S s).0 none).table in
    let few = (g.met.Q.QuorumRule.lawful c.args.self.now.rule).few in
    let size = c.size-process-end.ensures in
    record { within = omega arith; few = record { accepted = omega arith; moves = omega arith; stopped = omega arith } }

pub loop-process-preserved : goal.loop-process-preserved
loop-process-preserved g c =
    let M = g.Q.QuorumRule.meaning in
    let W = g.V.ValidityRule.valid in
    let s = lent c.args.self.now.books c.args.table.now c.args.post.now in
    let inv = c.loop-process.invariant in
    let d = c.take_turn.ensures in
    record {
      way = turns_more (setting M W c.args.self.now) _ (same_setting M W _ c.loop-process.self inv.same) s.count (begun s) c.loop-process.process _ _ d.turn inv.way;
      same = same_then _ _ _ inv.same d.same;
      few = record { accepted = omega arith; moves = omega arith; stopped = omega arith };
    }

pub returns : goal.returns
returns g c =
    let S = setting g.Q.QuorumRule.meaning g.V.ValidityRule.valid c.args.self.now in
    let s = lent c.args.self.now.books c.args.table.now c.args.post.now in
    let none = none_from_ok _ _ _ c.in_ok-check_lent.ensures in
    let inv = c.loop-process.invariant in
    let at-span : ℕ → Books = λ n. record { count = c.loop-process.self.books.count; span = n } in
    let e = swept_all S s none c.loop-process.process (omega arith) (lent c.loop-process.self.books c.loop-process.table c.loop-process.post) c.loop-process.swept inv.way in
    record { answer = rw e; table = rw e; post = rw e; books = rw e (ap at-span inv.same.span); same = inv.same }
