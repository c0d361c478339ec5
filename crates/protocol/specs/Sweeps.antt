-- The sweep: to each run process, upward, every place posted before the sweep, upward, and then moves until one is refused. Assumes nothing.
--     Sweeping                 a sweep on its way: the state and the three counts
--     given S i k w            w after the delivery of place k to process i
--     given_all S i w k        w after the delivery of the places up to k
--     settle n S i w           w after moves of process i until one is refused, at most n (more than there can be)
--     turn S c w i             w after the turn of process i, with c messages posted before the sweep
--     turns S c w n            w after the turns of the processes below n
--     sweep S s                the call
use Rattle.std.specs.Prelude.{ℕ, zero, suc, ◌+◌, Bool, cond, is_ok, Ok, Err, ◌==◌}
use Rattle.sets.specs.Sets.{has}
use Rattle.protocol.specs.declared.call.Swept.{Swept}
use Rattle.protocol.specs.declared.refusal.Refusal.{Refusal}
use Rattle.protocol.specs.Numbers.{refusal_numbers}
use Rattle.protocol.specs.Settings.{Setting, State, Outcome, outcome}
use Rattle.protocol.specs.Calls.{lent_fault, deliver, move}

pub record Sweeping : Type 0 where
  pub state : State
  pub accepted : ℕ
  pub moves : ℕ
  pub stopped : ℕ

abbrev pub begun : State → Sweeping
begun s = record { state = s; accepted = 0; moves = 0; stopped = 0 }

abbrev pub given : Setting → ℕ → ℕ → Sweeping → Sweeping
given S i k w = record {
  state = (deliver S w.state i k).state;
  accepted = w.accepted + cond (is_ok (deliver S w.state i k).answer) 1 0;
  moves = w.moves;
  stopped = w.stopped;
}

unfoldable pub given_all : Setting → ℕ → Sweeping → ℕ → Sweeping
given_all S i w zero = w
given_all S i w (suc k) = given S i (suc k) (given_all S i w k)

-- the refusal of a move by a full post
abbrev pub is_full : Refusal → Bool
is_full e = (refusal_numbers e).number == 7

unfoldable pub settle : ℕ → Setting → ℕ → Sweeping → Sweeping
settle zero S i w = w
settle (suc n) S i w = elim (move S w.state i).answer [
  | Ok a ↦ settle n S i (record { state = (move S w.state i).state; accepted = w.accepted; moves = w.moves + 1; stopped = w.stopped })
  | Err e ↦ record { state = w.state; accepted = w.accepted; moves = w.moves; stopped = w.stopped + cond (is_full e) 1 0 }
]

abbrev pub turn : Setting → ℕ → Sweeping → ℕ → Sweeping
turn S c w i = cond (has S.foreign i) w (settle 12 S i (given_all S i w c))

unfoldable pub turns : Setting → ℕ → Sweeping → ℕ → Sweeping
turns S c w zero = w
turns S c w (suc i) = turn S c (turns S c w i) i

abbrev pub swept : Setting → State → Sweeping
swept S s = turns S s.count (begun s) S.rule.size

unfoldable pub sweep : Setting → State → Outcome Swept
sweep S s =
    outcome s (lent_fault S s)
    (record { accepted = (swept S s).accepted; moves = (swept S s).moves; stopped = (swept S s).stopped })
    (swept S s).state
