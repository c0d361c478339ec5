-- What a committee is, and what its calls change. Assumes nothing.
--     Setting              what a committee is for good: its two rules, the post's length and the foreign processes
--     State                what calls change: the table, the post, and the count of messages posted
--     Outcome A            an answer, or a refusal, with the state after
--     outcome s o x t      the refusal o, which leaves the state s; else the answer x with the state t
--     Runs S i             process i is run
--     row s i              the row of process i
--     mail S s k           what place k reads as
--     put s i r            s with r as the row of process i
--     send s x             s with the message x posted
--     has_room s           there is a place left
use Rattle.std.specs.Prelude.{◌≡◌, ℕ, ◌+◌, ◌<◌, Bool, false, List, length, Some, None, Ok, Err, Option, Result, nat_lt, slice_index_or, slice_set}
use Rattle.sets.specs.Sets.{has}
use Rattle.sets.specs.Rules.{Rule}
use Rattle.mail.specs.declared.message.Message.{Message}
use Rattle.mail.specs.Messages.{posted}
use Rattle.protocol.specs.declared.row.Row.{Row}
use Rattle.protocol.specs.declared.refusal.Refusal.{Refusal}
use Rattle.protocol.specs.Rows.{blank_row}

pub record Setting : Type 0 where
  pub rule : Rule
  pub valid : ℕ → Bool
  pub span : ℕ
  pub foreign : ℕ

pub record State : Type 0 where
  pub table : List Row
  pub post : List Message
  pub count : ℕ

pub record Outcome (A : Type 0) : Type 0 where
  pub answer : Result A Refusal
  pub state : State

abbrev pub outcome : {A : Type 0} → State → Option Refusal → A → State → Outcome A
outcome s None x t = record { answer = Ok x; state = t }
outcome s (Some e) x t = record { answer = Err e; state = s }

pub record Runs (S : Setting) (i : ℕ) : Type 0 where
  pub within : i < S.rule.size
  pub native : has S.foreign i ≡ false

abbrev pub row : State → ℕ → Row
row s i = slice_index_or s.table i blank_row

abbrev pub mail : Setting → State → ℕ → Message
mail S s = posted S.rule.size s.post s.count

abbrev pub put : State → ℕ → Row → State
put s i r = record { table = slice_set s.table i r; post = s.post; count = s.count }

abbrev pub send : State → Message → State
send s x = record { table = s.table; post = slice_set s.post s.count x; count = s.count + 1 }

abbrev pub has_room : State → Bool
has_room s = nat_lt s.count (length s.post)
