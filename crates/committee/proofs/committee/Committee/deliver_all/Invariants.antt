use Rattle.std.proofs.Common.{◌≡◌, ◌+◌, ◌-◌, ◌≤◌}
use Rattle.protocol.specs.Sweeps.{given_all}
use Rattle.committee.specs.Committees.{setting, lent}
use Rattle.committee.specs.Sweeping.{Grown, sweeping}
use Rattle.committee.proofs.committee.Committee.deliver_all.Given as goal

abbrev pub invariant-loop-place : goal.invariant-loop-place
invariant-loop-place g l =
    let S = setting g.Q.QuorumRule.meaning g.V.ValidityRule.valid l.self in
    record {
      way : sweeping (lent l.self.books l.table l.post) l.swept ≡ given_all S l.process (sweeping (lent l.self.books l.initial.table l.post) l.initial.swept) (l.place - 1);
      within : l.place ≤ l.posted + 1;
      few : Grown l.initial.swept (l.place - 1) 0 0 l.swept;
    }
