-- Opening: what makes a committee of two rules, a table, a post, a set of foreign processes and own values. Assumes nothing.
--     Books                        the numbers that a committee keeps: the count, the post's length, the foreign processes
--     Opening                      an opening's answer, with the table and the numbers after
--     open_fault m valid ..        its refusals, in their order
--     new_rows owns table n        the table with the first n rows new
--     opening m valid b ..         the opening of a committee that has the numbers b
--     setting m valid b            what a committee of two rules and these numbers is for good
use Rattle.std.specs.Prelude.{ℕ, zero, suc, Bool, not, ◌&&◌, ◌||◌, List, length, Option, Result, ◌==◌, nat_lt, slice_index, slice_set}
use Rattle.sets.specs.Sets.{has, below}
use Rattle.sets.specs.Rules.{Rule}
use Rattle.quorum.specs.Firsts.{fault_if, first, first_below, answered, kept}
use Rattle.mail.specs.declared.message.Message.{Message}
use Rattle.protocol.specs.declared.row.Row.{Row}
use Rattle.protocol.specs.declared.refusal.Refusal.{Refusal}
use Rattle.protocol.specs.declared.refusal.Refusal.TheVariants.{FewValues, ShortTable, PostLength, OwnNotValid}
use Rattle.protocol.specs.Rows.{new_row}
use Rattle.protocol.specs.Settings.{Setting, State}

pub record Books : Type 0 where
  pub count : ℕ
  pub span : ℕ
  pub foreign : ℕ

pub record Opening : Type 0 where
  pub answer : Result (Unit {0}) Refusal
  pub table : List Row
  pub books : Books

abbrev pub own_fault : (ℕ → Bool) → ℕ → List ℕ → ℕ → Option Refusal
own_fault valid foreign owns j = fault_if (not (has foreign j) && not (valid (slice_index owns j))) (OwnNotValid j)

unfoldable pub open_fault : Rule → (ℕ → Bool) → List Row → List Message → ℕ → List ℕ → Option Refusal
open_fault m valid table post foreign owns =
    first (fault_if (nat_lt (length owns) m.size) FewValues)
    (first (fault_if (nat_lt (length table) m.size) ShortTable)
    (first (fault_if (length post == 0 || nat_lt 65535 (length post)) PostLength)
    (first_below (own_fault valid foreign owns) m.size)))

unfoldable pub new_rows : List ℕ → List Row → ℕ → List Row
new_rows owns table zero = table
new_rows owns table (suc j) = slice_set (new_rows owns table j) j (new_row (slice_index owns j))

abbrev pub opening : Rule → (ℕ → Bool) → Books → List Row → List Message → ℕ → List ℕ → Opening
opening m valid b table post foreign owns = record {
  answer = answered (open_fault m valid table post foreign owns) tt;
  table = kept (open_fault m valid table post foreign owns) table (new_rows owns table m.size);
  books = kept (open_fault m valid table post foreign owns) b (record { count = 0; span = length post; foreign = below m.size foreign });
}

abbrev pub setting : Rule → (ℕ → Bool) → Books → Setting
setting m valid b = record { rule = m; valid = valid; span = b.span; foreign = b.foreign }

-- the state of a committee with these numbers
abbrev pub standing : Books → List Row → List Message → State
standing b table post = record { table = table; post = post; count = b.count }
