-- The value that a leader takes from reports. Assumes nothing.
--     lock_value M ps h j        the value of the report of process j, where its locked view is h
use Rattle.std.specs.Prelude.{ℕ, List, Option, ◌==◌}
use Rattle.quorum.specs.Firsts.{fault_if}
use Rattle.mail.specs.declared.message.Message.{Message}
use Rattle.mail.specs.Messages.{place_at}

abbrev pub lock_value : (ℕ → Message) → List ℕ → ℕ → ℕ → Option ℕ
lock_value M ps h j = fault_if ((M (place_at ps j)).locked == h) (M (place_at ps j)).value
