-- Messages, and what the places of a post hold. Assumes nothing.
--     kind_wish .. kind_committed     the kinds' numbers
--     silence              the message that is zero throughout
--     proper n x           the message x has a sender below n and a kind from 1 to 5
--     posted n post c k    what place k of a post with c messages reads as, among n processes; places count from 1
--     place_at places j    the place of process j in a list of places
--     held k               the place k is not 0
--     cited places         the processes with a place that is not 0
--     is_vote kind j v a x      x is j's message of this kind, with view v and value a
--     is_report j v x           x is j's report of view v
--     has_value a x             x has the value a
--     has_lock w a x            x has the locked view w and the value a
use Rattle.std.specs.Prelude.{ℕ, zero, suc, Bool, cond, not, ◌&&◌, List, [], replicate, ◌==◌, nat_le, nat_lt, slice_index, slice_index_or}
use Rattle.quorum.specs.Tallies.{tallied}
use Rattle.mail.specs.declared.message.Message.{Message}

abbrev pub kind_wish : ℕ
kind_wish = 1

abbrev pub kind_report : ℕ
kind_report = 2

abbrev pub kind_propose : ℕ
kind_propose = 3

abbrev pub kind_prepared : ℕ
kind_prepared = 4

abbrev pub kind_committed : ℕ
kind_committed = 5

-- what a read past the end of a list of messages gives
abbrev pub blank : Message
blank = record { sender = 0; kind = 0; view = 0; value = 0; locked = 0; citations = [] }

abbrev pub silence : Message
silence = record { sender = 0; kind = 0; view = 0; value = 0; locked = 0; citations = replicate 32 0 }

abbrev pub proper : ℕ → Message → Bool
proper n x = nat_lt x.sender n && (nat_le kind_wish x.kind && nat_le x.kind kind_committed)

unfoldable pub posted : ℕ → List Message → ℕ → ℕ → Message
posted n post c zero = silence
posted n post c (suc k) = cond (nat_lt k c && proper n (slice_index_or post k blank)) (slice_index_or post k blank) silence

abbrev pub place_at : List ℕ → ℕ → ℕ
place_at places j = slice_index places j

abbrev pub held : ℕ → Bool
held k = not (k == 0)

abbrev pub cited : List ℕ → ℕ
cited places = tallied held places

abbrev pub is_vote : ℕ → ℕ → ℕ → ℕ → Message → Bool
is_vote kind j v a x = x.kind == kind && (x.sender == j && (x.view == v && x.value == a))

abbrev pub is_report : ℕ → ℕ → Message → Bool
is_report j v x = x.kind == kind_report && (x.sender == j && x.view == v)

abbrev pub has_value : ℕ → Message → Bool
has_value a x = x.value == a

abbrev pub has_lock : ℕ → ℕ → Message → Bool
has_lock w a x = x.locked == w && x.value == a
