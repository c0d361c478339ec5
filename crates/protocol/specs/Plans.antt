-- Moves: which one a process makes, what it does to its row, and what it sends. Assumes nothing.
-- m is the quorum rule's meaning, M what each place reads as, i the process and r its row.
--     wish i w, report i w l, offer i v a ps, vote kind i v a     the messages
--     backs M a k              the held place k has a message of value a
--     backers M box a          the senders of held messages of value a
--     backing M box a n        their places, of the processes below n; 0 elsewhere
--     choice n M ps a          the value to propose: that of the highest locked view of the reports at ps, of the lowest sender
--                              among equals, or a where that view is 0
--     plan m M i r             the first of the six moves that is possible, or none
--     planned n M r p          the row after the move p
--     sends i r p              the message that it sends, or none
--     move_of p                which move it is
use Rattle.std.specs.Prelude.{ℕ, zero, suc, Bool, true, cond, not, ◌&&◌, List, Some, None, Option, ◌==◌, nat_lt, slice_set}
use Rattle.std.specs.Option.{unwrap_or}
use Rattle.sets.specs.Rules.{Rule}
use Rattle.quorum.specs.Firsts.{fault_if, first_below}
use Rattle.quorum.specs.Tallies.{tallied}
use Rattle.quorum.specs.Wishes.{hopeful, settled}
use Rattle.mail.specs.declared.message.Message.{Message}
use Rattle.mail.specs.Messages.{place_at, held, has_value, cited, kind_wish, kind_report, kind_propose, kind_prepared, kind_committed}
use Rattle.mail.specs.Leaders.{leads}
use Rattle.mail.specs.Judging.{top_lock}
use Rattle.protocol.specs.declared.row.Row.{Row}
use Rattle.protocol.specs.declared.row.Ballot.{Ballot}
use Rattle.protocol.specs.declared.row.Lock as lock
use Rattle.protocol.specs.declared.row.Decision.{Decision}
use Rattle.protocol.specs.declared.row.Phase.{Phase}
use Rattle.protocol.specs.declared.row.Phase.TheVariants.{Fresh, Voted, Locked}
use Rattle.protocol.specs.declared.moves.Move.{Move}
use Rattle.protocol.specs.declared.moves.Move.TheVariants as moves
use Rattle.protocol.specs.declared.moves.Plan.{Plan}
use Rattle.protocol.specs.declared.moves.Plan.TheVariants.{Relay, TakeUp, Propose, Vote, Lock, Decide}
use Rattle.protocol.specs.Rows.{no_places, new_ballot, with_ballot}

abbrev pub wish : ℕ → ℕ → Message
wish i w = record { sender = i; kind = kind_wish; view = w; value = 0; locked = 0; citations = no_places }

abbrev pub report : ℕ → ℕ → lock.Lock → Message
report i w l = record {
  sender = i;
  kind = kind_report;
  view = w;
  value = cond (l.view == 0) 0 l.value;
  locked = l.view;
  citations = cond (l.view == 0) no_places l.certificate;
}

abbrev pub offer : ℕ → ℕ → ℕ → List ℕ → Message
offer i v a ps = record { sender = i; kind = kind_propose; view = v; value = a; locked = 0; citations = ps }

abbrev pub vote : ℕ → ℕ → ℕ → ℕ → Message
vote kind i v a = record { sender = i; kind = kind; view = v; value = a; locked = 0; citations = no_places }

abbrev pub backs : (ℕ → Message) → ℕ → ℕ → Bool
backs M a k = held k && has_value a (M k)

abbrev pub backers : (ℕ → Message) → List ℕ → ℕ → ℕ
backers M box a = tallied (backs M a) box

unfoldable pub backing : (ℕ → Message) → List ℕ → ℕ → ℕ → List ℕ
backing M box a zero = no_places
backing M box a (suc j) = slice_set (backing M box a j) j (cond (backs M a (place_at box j)) (place_at box j) 0)

unfoldable pub choice : ℕ → (ℕ → Message) → List ℕ → ℕ → ℕ
choice n M ps a =
    cond (top_lock M ps n == 0) a
    (unwrap_or (first_below (λ j. fault_if ((M (place_at ps j)).locked == top_lock M ps n) (M (place_at ps j)).value) n) a)

-- moves 4 to 6, by the phase and what is held
abbrev pub vote_plan : Rule → (ℕ → Message) → Ballot → Phase → Option Decision → Option Plan
vote_plan m M b Fresh d = fault_if (held b.proposal) (Vote (M b.proposal).value)
vote_plan m M b Voted d = fault_if (m.quorum (backers M b.prepared b.voted)) Lock
vote_plan m M b Locked (Some d) = None
vote_plan m M b Locked None = fault_if (m.quorum (backers M b.committed b.voted)) Decide

unfoldable pub plan : Rule → (ℕ → Message) → ℕ → Row → Option Plan
plan m M i r =
    cond (nat_lt r.relayed (hopeful m r.wishes)) (Some (Relay (hopeful m r.wishes)))
    (cond (settled m r.wishes == hopeful m r.wishes && nat_lt r.ballot.view (settled m r.wishes)) (Some (TakeUp (settled m r.wishes)))
    (cond (leads m.size r.ballot.view i && (not r.ballot.proposed && m.quorum (cited r.ballot.reports))) (Some (Propose (choice m.size M r.ballot.reports r.own)))
    (vote_plan m M r.ballot r.ballot.phase r.decision)))

abbrev relays : Row → ℕ → Row
relays r w = record { own = r.own; wishes = r.wishes; relayed = w; ballot = r.ballot; lock = r.lock; decision = r.decision }

abbrev proposes : Ballot → Ballot
proposes b = record {
  view = b.view;
  phase = b.phase;
  voted = b.voted;
  proposed = true;
  proposal = b.proposal;
  reports = b.reports;
  prepared = b.prepared;
  committed = b.committed;
}

abbrev votes : Ballot → ℕ → Ballot
votes b a = record {
  view = b.view;
  phase = Voted;
  voted = a;
  proposed = b.proposed;
  proposal = b.proposal;
  reports = b.reports;
  prepared = b.prepared;
  committed = b.committed;
}

abbrev locks : Ballot → Ballot
locks b = record {
  view = b.view;
  phase = Locked;
  voted = b.voted;
  proposed = b.proposed;
  proposal = b.proposal;
  reports = b.reports;
  prepared = b.prepared;
  committed = b.committed;
}

abbrev pub planned : ℕ → (ℕ → Message) → Row → Plan → Row
planned n M r (Relay w) = relays r w
planned n M r (TakeUp w) = with_ballot r (new_ballot w)
planned n M r (Propose a) = with_ballot r (proposes r.ballot)
planned n M r (Vote a) = with_ballot r (votes r.ballot a)
planned n M r Lock = record {
  own = r.own;
  wishes = r.wishes;
  relayed = r.relayed;
  ballot = locks r.ballot;
  lock = record { view = r.ballot.view; value = r.ballot.voted; certificate = backing M r.ballot.prepared r.ballot.voted n };
  decision = r.decision;
}
planned n M r Decide = record {
  own = r.own;
  wishes = r.wishes;
  relayed = r.relayed;
  ballot = r.ballot;
  lock = r.lock;
  decision = Some (record { view = r.ballot.view; value = r.ballot.voted });
}

abbrev pub sends : ℕ → Row → Plan → Option Message
sends i r (Relay w) = Some (wish i w)
sends i r (TakeUp w) = Some (report i w r.lock)
sends i r (Propose a) = Some (offer i r.ballot.view a r.ballot.reports)
sends i r (Vote a) = Some (vote kind_prepared i r.ballot.view a)
sends i r Lock = Some (vote kind_committed i r.ballot.view r.ballot.voted)
sends i r Decide = None

abbrev pub move_of : Plan → Move
move_of (Relay w) = moves.Relay
move_of (TakeUp w) = moves.TakeUp
move_of (Propose a) = moves.Propose
move_of (Vote a) = moves.Vote
move_of Lock = moves.Lock
move_of Decide = moves.Decide
