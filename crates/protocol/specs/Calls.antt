-- What each call on one process does: its refusals in their order, and then its answer and the state after. Assumes nothing.
--     lent_fault S s            the table is too short, or the post has another length than at opening
--     run_fault S i             there is no such process, or it is foreign
--     foreign_fault S j         there is no such process, or it is run
--     full_fault s              the post is full
--     expire S s i              process i wishes the view after its own, or the hopeful view if that is higher
--     addressed j p             the message of a posting by process j
--     post S s j p              the foreign process j posts
--     taking_fault S M i r k    why process i with row r does not take the message at k
--     taken M r k               its row when it does
--     deliver S s i k           process i is given the message at place k
--     made S s i r p            the state after the move p
--     move S s i                process i makes the first possible move
--     decision S s i            the decision of process i, or its absence
use Rattle.std.specs.Prelude.{ℕ, ◌+◌, max, cond, not, ◌&&◌, length, is_some, Some, None, Err, Option, ◌==◌, nat_lt}
use Rattle.std.specs.Option.{option_map}
use Rattle.sets.specs.Sets.{has}
use Rattle.quorum.specs.Firsts.{fault_if, first}
use Rattle.quorum.specs.Wishes.{hopeful}
use Rattle.mail.specs.declared.message.Message.{Message}
use Rattle.mail.specs.Messages.{place_at, held, kind_wish, kind_report, kind_propose, kind_prepared}
use Rattle.mail.specs.Leaders.{leads}
use Rattle.mail.specs.Judging.{report_fault, proposal_fault}
use Rattle.mail.specs.Posting.{well_formed}
use Rattle.protocol.specs.declared.row.Row.{Row}
use Rattle.protocol.specs.declared.row.Decision.{Decision}
use Rattle.protocol.specs.declared.moves.Move.{Move}
use Rattle.protocol.specs.declared.moves.Plan.{Plan}
use Rattle.protocol.specs.declared.call.Posting.{Posting}
use Rattle.protocol.specs.declared.refusal.Refusal.{Refusal}
use Rattle.protocol.specs.declared.refusal.Refusal.TheVariants.{ShortTable, PostLength, NoProcess, Foreign, Run, PostFull, NoMessage, NotWellFormed, Late, Early, Held, NoMove, LastView, NotLeader, InReport, InProposal}
use Rattle.protocol.specs.Rows.{hears, with_ballot, holds_report, holds_proposal, holds_prepared, holds_committed}
use Rattle.protocol.specs.Settings.{Setting, State, Outcome, outcome, row, mail, put, send, has_room}
use Rattle.protocol.specs.Plans.{wish, plan, planned, sends, move_of}

abbrev pub lent_fault : Setting → State → Option Refusal
lent_fault S s = first (fault_if (nat_lt (length s.table) S.rule.size) ShortTable) (fault_if (not (length s.post == S.span)) PostLength)

abbrev pub run_fault : Setting → ℕ → Option Refusal
run_fault S i = first (fault_if (not (nat_lt i S.rule.size)) NoProcess) (fault_if (has S.foreign i) Foreign)

abbrev pub foreign_fault : Setting → ℕ → Option Refusal
foreign_fault S j = first (fault_if (not (nat_lt j S.rule.size)) NoProcess) (fault_if (not (has S.foreign j)) Run)

abbrev pub full_fault : State → Option Refusal
full_fault s = fault_if (not (has_room s)) PostFull

unfoldable pub expire : Setting → State → ℕ → Outcome ℕ
expire S s i =
    outcome s
    (first (lent_fault S s) (first (run_fault S i) (first (fault_if (not (nat_lt (row s i).ballot.view 4294967295)) LastView) (full_fault s))))
    (s.count + 1)
    (send s (wish i (max ((row s i).ballot.view + 1) (hopeful S.rule (row s i).wishes))))

abbrev pub addressed : ℕ → Posting → Message
addressed j p = record { sender = j; kind = p.kind; view = p.view; value = p.value; locked = p.locked; citations = p.citations }

unfoldable pub post : Setting → State → ℕ → Posting → Outcome ℕ
post S s j p =
    outcome s
    (first (lent_fault S s) (first (foreign_fault S j) (first (fault_if (not (well_formed S.rule.size s.count (addressed j p))) NotWellFormed) (full_fault s))))
    (s.count + 1)
    (send s (addressed j p))

-- the message is of the row's view
abbrev pub timely : Row → Message → ℕ → Option Refusal
timely r x k = first (fault_if (nat_lt x.view r.ballot.view) (Late k)) (fault_if (nat_lt r.ballot.view x.view) (Early k))

-- the entry is not held
abbrev pub vacant : ℕ → ℕ → Option Refusal
vacant p k = fault_if (held p) (Held k)

-- one of five things, by the kind
abbrev pub by_kind : {A : Type 0} → ℕ → A → A → A → A → A → A
by_kind c one two three four five =
    cond (c == kind_wish) one (cond (c == kind_report) two (cond (c == kind_propose) three (cond (c == kind_prepared) four five)))

unfoldable pub taking_fault : Setting → (ℕ → Message) → ℕ → Row → ℕ → Option Refusal
taking_fault S M i r k =
    by_kind (M k).kind
    (fault_if (not (nat_lt (place_at r.wishes (M k).sender) (M k).view)) (Held k))
    (first (timely r (M k) k) (first (fault_if (not (leads S.rule.size r.ballot.view i)) (NotLeader k)) (first (vacant (place_at r.ballot.reports (M k).sender) k) (option_map InReport (report_fault S.rule M (M k) k)))))
    (first (timely r (M k) k) (first (vacant r.ballot.proposal k) (option_map InProposal (proposal_fault S.rule S.valid M (M k) k))))
    (first (timely r (M k) k) (vacant (place_at r.ballot.prepared (M k).sender) k))
    (first (timely r (M k) k) (vacant (place_at r.ballot.committed (M k).sender) k))

abbrev pub taken : (ℕ → Message) → Row → ℕ → Row
taken M r k =
    by_kind (M k).kind
    (hears r (M k).sender (M k).view)
    (with_ballot r (holds_report r.ballot (M k).sender k))
    (with_ballot r (holds_proposal r.ballot k))
    (with_ballot r (holds_prepared r.ballot (M k).sender k))
    (with_ballot r (holds_committed r.ballot (M k).sender k))

unfoldable pub deliver : Setting → State → ℕ → ℕ → Outcome (Unit {0})
deliver S s i k =
    outcome s
    (first (lent_fault S s) (first (run_fault S i) (first (fault_if ((mail S s k).kind == 0) NoMessage) (taking_fault S (mail S s) i (row s i) k))))
    tt
    (put s i (taken (mail S s) (row s i) k))

abbrev pub sent : State → Option Message → State
sent s None = s
sent s (Some x) = send s x

abbrev pub made : Setting → State → ℕ → Row → Plan → State
made S s i r p = sent (put s i (planned S.rule.size (mail S s) r p)) (sends i r p)

-- the place of what is sent, or 0
abbrev pub place_sent : State → Option Message → ℕ
place_sent s None = 0
place_sent s (Some x) = s.count + 1

abbrev pub moving : Setting → State → ℕ → Row → Option Plan → Outcome (Move × ℕ)
moving S s i r None = record { answer = Err NoMove; state = s }
moving S s i r (Some p) = outcome s (fault_if (is_some (sends i r p) && not (has_room s)) PostFull) (move_of p, place_sent s (sends i r p)) (made S s i r p)

-- o, unless there is a refusal before it
abbrev pub after : {A : Type 0} → State → Option Refusal → Outcome A → Outcome A
after s None o = o
after s (Some e) o = record { answer = Err e; state = s }

unfoldable pub move : Setting → State → ℕ → Outcome (Move × ℕ)
move S s i = after s (first (lent_fault S s) (run_fault S i)) (moving S s i (row s i) (plan S.rule (mail S s) i (row s i)))

abbrev pub decision : Setting → State → ℕ → Outcome (Option Decision)
decision S s i = outcome s (first (lent_fault S s) (run_fault S i)) (row s i).decision s
