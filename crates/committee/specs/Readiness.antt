-- A move before it is made. Assumes nothing.
--     ready S s i     the move that process i makes next, with the message that it sends if any; or why it makes none
use Rattle.std.specs.Prelude.{ℕ, not, ◌&&◌, is_some, Some, None, Err, Option, Result}
use Rattle.quorum.specs.Firsts.{fault_if, first, answered}
use Rattle.mail.specs.declared.message.Message.{Message}
use Rattle.protocol.specs.declared.moves.Plan.{Plan}
use Rattle.protocol.specs.declared.refusal.Refusal.{Refusal}
use Rattle.protocol.specs.declared.refusal.Refusal.TheVariants.{NoMove, PostFull}
use Rattle.protocol.specs.Settings.{Setting, State, row, mail, has_room}
use Rattle.protocol.specs.Plans.{plan, sends}
use Rattle.protocol.specs.Calls.{lent_fault, run_fault}

-- the plan p, whose message is x, where there is room for it
abbrev pub with_room : State → Plan → Option Message → Result (Plan × Option Message) Refusal
with_room s p x = answered (fault_if (is_some x && not (has_room s)) PostFull) (p, x)

abbrev pub ready_by : State → ℕ → Option Plan → Result (Plan × Option Message) Refusal
ready_by s i None = Err NoMove
ready_by s i (Some p) = with_room s p (sends i (row s i) p)

abbrev pub unless : {A : Type 0} → Option Refusal → Result A Refusal → Result A Refusal
unless None r = r
unless (Some e) r = Err e

unfoldable pub ready : Setting → State → ℕ → Result (Plan × Option Message) Refusal
ready S s i = unless (first (lent_fault S s) (run_fault S i)) (ready_by s i (plan S.rule (mail S s) i (row s i)))
