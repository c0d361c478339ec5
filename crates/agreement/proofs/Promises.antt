-- The whole promise, for every accepted opening.
use Rattle.std.proofs.Common.{ℕ, Bool}
use Rattle.sets.specs.Rules.{Rule, Lawful}
use Rattle.protocol.specs.Settings.{Setting, State}
use Rattle.protocol.specs.Runs.{run}
use Rattle.protocol.specs.Protocol.{Opened}
use Rattle.protocol.specs.Protocol.Reached.{start}
use Rattle.agreement.specs.Promise.{Promise, Promised}
use Rattle.agreement.specs.Exactness.{Exact}
use Rattle.agreement.proofs.Invariant.{Fair}
use Rattle.agreement.proofs.Safety.{reached_safe}
use Rattle.agreement.proofs.Exacts.{exact, run_reached}
use Rattle.agreement.proofs.Opens.{opened}
use Rattle.agreement.proofs.Six.{progresses}

promise : (S : Setting) → Fair S → Exact S.rule S.valid → (s : State) → Opened S s → Promise S s
promise S fair ex s o = record {
  safe = λ cs. reached_safe S fair (run S s cs) (run_reached S fair.laws s cs (start o));
  progresses = λ cs. progresses S fair ex (run S s cs) (run_reached S fair.laws s cs (start o));
}

pub promised : (m : Rule) (valid : ℕ → Bool) → Lawful m → Promised m valid
promised m valid laws b table post foreign owns ok few = promise _ (record { laws = laws; few = few }) (exact m valid laws) _ (opened m valid b table post foreign owns laws ok)
