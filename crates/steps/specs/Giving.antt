-- Why a message cannot be given to a process. Assumes nothing.
--     ruled m valid              what a committee of these two rules is for good, with no post and no foreign process
--     giving_fault S M i r k     there is no message at k, or process i with row r does not take it
use Rattle.std.specs.Prelude.{ℕ, Bool, Option, ◌==◌}
use Rattle.sets.specs.Rules.{Rule}
use Rattle.quorum.specs.Firsts.{fault_if, first}
use Rattle.mail.specs.declared.message.Message.{Message}
use Rattle.protocol.specs.declared.row.Row.{Row}
use Rattle.protocol.specs.declared.refusal.Refusal.{Refusal}
use Rattle.protocol.specs.declared.refusal.Refusal.TheVariants.{NoMessage}
use Rattle.protocol.specs.Settings.{Setting}
use Rattle.protocol.specs.Calls.{taking_fault}

abbrev pub ruled : Rule → (ℕ → Bool) → Setting
ruled m valid = record { rule = m; valid = valid; span = 0; foreign = 0 }

abbrev pub giving_fault : Setting → (ℕ → Message) → ℕ → Row → ℕ → Option Refusal
giving_fault S M i r k = first (fault_if ((M k).kind == 0) NoMessage) (taking_fault S M i r k)
