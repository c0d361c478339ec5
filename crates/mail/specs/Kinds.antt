-- The kinds of messages, by their numbers. Assumes nothing.
--     kind_number k      the number of the kind k
--     IsKindOf n r       r is the kind with the number n; an error, which keeps n, where n is no kind's number
use Rattle.std.specs.Prelude.{◌≡◌, ℕ, false, ◌&&◌, Ok, Err, Result, nat_le}
use Rattle.mail.specs.declared.kind.Kind.{Kind}
use Rattle.mail.specs.declared.kind.Kind.TheVariants.{Wish, NewLeader, Propose, Prepared, Committed}
use Rattle.mail.specs.declared.kind.UnknownKind.{UnknownKind}
use Rattle.mail.specs.Messages.{kind_wish, kind_report, kind_propose, kind_prepared, kind_committed}

abbrev pub kind_number : Kind → ℕ
kind_number Wish = kind_wish
kind_number NewLeader = kind_report
kind_number Propose = kind_propose
kind_number Prepared = kind_prepared
kind_number Committed = kind_committed

abbrev pub IsKindOf : ℕ → Result Kind UnknownKind → Type 0
IsKindOf n (Ok k) = n ≡ kind_number k
IsKindOf n (Err e) = ((nat_le kind_wish n && nat_le n kind_committed) ≡ false) × (e.0 ≡ n)
