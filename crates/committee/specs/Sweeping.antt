-- A sweep on its way, in the words of the code. Assumes nothing.
--     sweeping s x      a sweep that has come to the state s with the counts x
--     Countable x a m n     the counts x can rise by a deliveries, m moves and n stopped processes
--     Grown x a m n y       the counts y are those of x, risen by at most that many
--     due post k v      slot k of the post has a message that is a wish or of view v: no late and no early one
use Rattle.std.specs.Prelude.{ℕ, ◌+◌, ◌^◌, ◌<◌, ◌≤◌, Bool, ◌&&◌, ◌||◌, List, length, ◌==◌, nat_lt, slice_index_or}
use Rattle.mail.specs.declared.message.Message.{Message}
use Rattle.mail.specs.Messages.{blank, kind_wish}
use Rattle.protocol.specs.declared.call.Swept.{Swept}
use Rattle.protocol.specs.Settings.{State}
use Rattle.protocol.specs.Sweeps.{Sweeping}

abbrev pub sweeping : State → Swept → Sweeping
sweeping s x = record { state = s; accepted = x.accepted; moves = x.moves; stopped = x.stopped }

pub record Countable (x : Swept) (a m n : ℕ) : Type 0 where
  pub accepted : x.accepted + a < 2 ^ 32
  pub moves : x.moves + m < 2 ^ 32
  pub stopped : x.stopped + n < 2 ^ 8

pub record Grown (x : Swept) (a m n : ℕ) (y : Swept) : Type 0 where
  pub accepted : y.accepted ≤ x.accepted + a
  pub moves : y.moves ≤ x.moves + m
  pub stopped : y.stopped ≤ x.stopped + n

abbrev pub due : List Message → ℕ → ℕ → Bool
due post k v = nat_lt k (length post) && ((slice_index_or post k blank).kind == kind_wish || (slice_index_or post k blank).view == v)
