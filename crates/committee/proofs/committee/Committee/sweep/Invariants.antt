use Rattle.std.proofs.Common.{◌≡◌, ◌*◌}
use Rattle.protocol.specs.Sweeps.{begun, turns}
use Rattle.committee.specs.Committees.{SameSetting, setting, lent}
use Rattle.committee.specs.Sweeping.{Grown, sweeping}
use Rattle.committee.proofs.committee.Committee.sweep.Given as goal

abbrev pub invariant-loop-process : goal.invariant-loop-process
invariant-loop-process g l =
    let S = setting g.Q.QuorumRule.meaning g.V.ValidityRule.valid l.initial.self in
    let s = lent l.initial.self.books l.initial.table l.initial.post in
    record {
      way : sweeping (lent l.self.books l.table l.post) l.swept ≡ turns S s.count (begun s) l.process;
      same : SameSetting l.initial.self l.self;
      few : Grown l.initial.swept (65535 * l.process) (12 * l.process) l.process l.swept;
    }
