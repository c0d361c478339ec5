-- A committee of the code, in the words of the protocol. Assumes nothing.
--     no_books              the numbers of a committee that is not opened
--     whole b g             all numbers of a committee: b, with the foreign processes g
--     counts w              those of them that are no processes
--     counted b s           the numbers b after calls that lead to the state s
--     over m valid b g      what a committee with these rules and numbers is for good
--     setting M V c         what the committee c is for good, where M is what quorum rules mean and V which values are valid
--     lent b table post     its state, with what it is lent
--     SameSetting c d       d is for good what c is: its rules, its post's length and its foreign processes are those of c
use Rattle.std.specs.Prelude.{◌≡◌, ℕ, Bool, List}
use Rattle.sets.specs.Rules.{Rule}
use Rattle.mail.specs.declared.message.Message.{Message}
use Rattle.protocol.specs.declared.row.Row.{Row}
use Rattle.protocol.specs.Settings.{Setting, State}
use Rattle.protocol.specs.Openings as openings
use Rattle.committee.specs.declared.books.Books.{Books}
use Rattle.committee.specs.declared.committee.Committee.{Committee}

abbrev pub no_books : Books
no_books = record { count = 0; span = 0 }

abbrev pub whole : Books → ℕ → openings.Books
whole b g = record { count = b.count; span = b.span; foreign = g }

abbrev pub counts : openings.Books → Books
counts w = record { count = w.count; span = w.span }

abbrev pub counted : Books → State → Books
counted b s = record { count = s.count; span = b.span }

abbrev pub over : Rule → (ℕ → Bool) → Books → ℕ → Setting
over m valid b g = openings.setting m valid (whole b g)

abbrev pub setting : {Q V : Type 0} → (Q → Rule) → (V → ℕ → Bool) → Committee Q V → Setting
setting M V c = over (M c.rule) (V c.validity) c.books c.foreign.bits

abbrev pub lent : Books → List Row → List Message → State
lent b table post = record { table = table; post = post; count = b.count }

pub record SameSetting {Q V : Type 0} (c d : Committee Q V) : Type 0 where
  pub rule : d.rule ≡ c.rule
  pub validity : d.validity ≡ c.validity
  pub span : d.books.span ≡ c.books.span
  pub foreign : d.foreign ≡ c.foreign
