use Rattle.std.proofs.Common.{◌≡◌, ◌-◌}
use Rattle.protocol.specs.Sweeps.{settle}
use Rattle.committee.specs.Committees.{SameSetting, setting, lent}
use Rattle.committee.specs.Sweeping.{Grown, sweeping}
use Rattle.committee.proofs.committee.Committee.settle.Given as goal

abbrev pub invariant-loop : goal.invariant-loop
invariant-loop g l =
    let S = setting g.Q.QuorumRule.meaning g.V.ValidityRule.valid l.initial.self in
    record {
      way : settle (12 - l.counter) S l.process (sweeping (lent l.self.books l.table l.post) l.swept) ≡ settle 12 S l.process (sweeping (lent l.initial.self.books l.initial.table l.initial.post) l.initial.swept);
      same : SameSetting l.initial.self l.self;
      few : Grown l.initial.swept 0 l.counter 0 l.swept;
    }
