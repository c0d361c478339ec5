-- The protocol as a relation: which changes its rules allow. Assumes nothing.
-- S is the committee, M what each place reads as, i a run process and r its row.
--     Hopeful m xs w, Settled m xs w    w is the hopeful view of the wishes xs, the settled view
--     Takes S M i r k r'                process i may take the message at place k, and has the row r' then
--     Chosen m M ps own a               a is the value that a leader proposes, which holds the reports at ps
--     Can m M i r p                     the move p is possible
--     Room s                            there is a place left
--     WellFormed n c x                  x may be posted among n processes after c messages
--     Step S s i t                      one step of process i leads from s to t
--     Change S s t                      one step of a run process, an expiry's wish or a foreign message leads from s to t
--     Opened S s                        s is as an accepted opening leaves it
--     Reached S s                       changes lead from an opened committee to s
use Rattle.std.specs.Prelude.{◌≡◌, ℕ, ◌+◌, ◌<◌, ◌≤◌, max, true, false, ◌≢◌, List, length, Some, None}
use Rattle.sets.specs.Sets.{has}
use Rattle.sets.specs.Rules.{Rule, Blocking}
use Rattle.quorum.specs.Wishes.{Highest, wishing}
use Rattle.mail.specs.declared.message.Message.{Message}
use Rattle.mail.specs.Messages.{place_at, cited, kind_wish, kind_report, kind_propose, kind_prepared, kind_committed}
use Rattle.mail.specs.Leaders.{leader_of}
use Rattle.mail.specs.Trust.{Report, Proposal}
use Rattle.protocol.specs.declared.row.Row.{Row}
use Rattle.protocol.specs.declared.row.Phase.TheVariants.{Fresh, Voted, Locked}
use Rattle.protocol.specs.declared.moves.Plan.{Plan}
use Rattle.protocol.specs.declared.moves.Plan.TheVariants.{Relay, TakeUp, Propose, Vote, Lock, Decide}
use Rattle.protocol.specs.Rows.{new_row, hears, with_ballot, holds_report, holds_proposal, holds_prepared, holds_committed}
use Rattle.protocol.specs.Settings.{Setting, State, Runs, row, mail, put, send}
use Rattle.protocol.specs.Plans.{wish, backers, sends}
use Rattle.protocol.specs.Calls.{made}

abbrev pub Hopeful : Rule → List ℕ → ℕ → Type 0
Hopeful m xs = Highest (λ w. Blocking m (wishing xs w))

abbrev pub Settled : Rule → List ℕ → ℕ → Type 0
Settled m xs = Highest (λ w. m.quorum (wishing xs w) ≡ true)

pub data Takes (S : Setting) (M : ℕ → Message) (i : ℕ) (r : Row) (k : ℕ) : Row → Type 0 where
  heard : (M k).kind ≡ kind_wish → place_at r.wishes (M k).sender < (M k).view → Takes S M i r k (hears r (M k).sender (M k).view)
  reported : leader_of S.rule.size r.ballot.view ≡ Some i → place_at r.ballot.reports (M k).sender ≡ 0 →
      Report S.rule M (M k).sender r.ballot.view (M k) → Takes S M i r k (with_ballot r (holds_report r.ballot (M k).sender k))
  offered : (M k).kind ≡ kind_propose → (M k).view ≡ r.ballot.view → r.ballot.proposal ≡ 0 →
      Proposal S.rule M S.valid (M k) → Takes S M i r k (with_ballot r (holds_proposal r.ballot k))
  prepared : (M k).kind ≡ kind_prepared → (M k).view ≡ r.ballot.view → place_at r.ballot.prepared (M k).sender ≡ 0 →
      Takes S M i r k (with_ballot r (holds_prepared r.ballot (M k).sender k))
  committed : (M k).kind ≡ kind_committed → (M k).view ≡ r.ballot.view → place_at r.ballot.committed (M k).sender ≡ 0 →
      Takes S M i r k (with_ballot r (holds_committed r.ballot (M k).sender k))

pub data Chosen (n : ℕ) (M : ℕ → Message) (ps : List ℕ) (own a : ℕ) : Type 0 where
  -- no report is locked
  free : ((j : ℕ) → j < n → (M (place_at ps j)).locked ≡ 0) → a ≡ own → Chosen n M ps own a
  -- the highest locked view, of the lowest sender
  bound : (j : ℕ) → j < n → (M (place_at ps j)).locked ≢ 0 → ((l : ℕ) → l < n → (M (place_at ps l)).locked ≤ (M (place_at ps j)).locked) →
      ((l : ℕ) → l < j → (M (place_at ps l)).locked ≢ (M (place_at ps j)).locked) → a ≡ (M (place_at ps j)).value → Chosen n M ps own a

pub data Can (m : Rule) (M : ℕ → Message) (i : ℕ) (r : Row) : Plan → Type 0 where
  relay : (w : ℕ) → Hopeful m r.wishes w → r.relayed < w → Can m M i r (Relay w)
  take_up : (w : ℕ) → Hopeful m r.wishes w → Settled m r.wishes w → r.ballot.view < w → Can m M i r (TakeUp w)
  propose : (a : ℕ) → leader_of m.size r.ballot.view ≡ Some i → r.ballot.proposed ≡ false → m.quorum (cited r.ballot.reports) ≡ true →
      Chosen m.size M r.ballot.reports r.own a → Can m M i r (Propose a)
  vote : r.ballot.phase ≡ Fresh → r.ballot.proposal ≢ 0 → Can m M i r (Vote (M r.ballot.proposal).value)
  lock : r.ballot.phase ≡ Voted → m.quorum (backers M r.ballot.prepared r.ballot.voted) ≡ true → Can m M i r Lock
  decide : r.ballot.phase ≡ Locked → r.decision ≡ None → m.quorum (backers M r.ballot.committed r.ballot.voted) ≡ true → Can m M i r Decide

abbrev pub Room : State → Type 0
Room s = s.count < length s.post

-- a message is sent only where there is room
abbrev pub Fits : State → ℕ → Row → Plan → Type 0
Fits s i r p = sends i r p ≢ None → Room s

-- the fields that the message's kind does not use are 0, and each citation is of a process and of a message posted before
pub record WellFormed (n c : ℕ) (x : Message) : Type 0 where
  pub kinds : (kind_wish ≤ x.kind) × (x.kind ≤ kind_committed)
  pub viewed : x.view ≢ 0
  pub wish_value : x.kind ≡ kind_wish → x.value ≡ 0
  pub unlocked : x.kind ≢ kind_report → x.locked ≡ 0
  pub free_value : x.kind ≡ kind_report → x.locked ≡ 0 → x.value ≡ 0
  pub uncited : (x.kind ≢ kind_propose) → ((x.kind ≡ kind_report → x.locked ≡ 0)) → (j : ℕ) → j < 32 → place_at x.citations j ≡ 0
  pub cites : (j : ℕ) → j < 32 → place_at x.citations j ≢ 0 → (j < n) × (place_at x.citations j ≤ c)

pub data Step (S : Setting) (s : State) (i : ℕ) : State → Type 0 where
  takes : {r : Row} (k : ℕ) → Takes S (mail S s) i (row s i) k r → Step S s i (put s i r)
  makes : (p : Plan) → Can S.rule (mail S s) i (row s i) p → Fits s i (row s i) p → Step S s i (made S s i (row s i) p)

pub data Change (S : Setting) (s : State) : State → Type 0 where
  stepped : {t : State} (i : ℕ) → Runs S i → Step S s i t → Change S s t
  expired : (i : ℕ) → Runs S i → (w : ℕ) → Hopeful S.rule (row s i).wishes w → (row s i).ballot.view < 4294967295 → Room s →
      Change S s (send s (wish i (max ((row s i).ballot.view + 1) w)))
  posted : (x : Message) → x.sender < S.rule.size → has S.foreign x.sender ≡ true → WellFormed S.rule.size s.count x → Room s → Change S s (send s x)

pub record Opened (S : Setting) (s : State) : Type 0 where
  pub rows : S.rule.size ≤ length s.table
  pub span : length s.post ≡ S.span
  pub fresh : (j : ℕ) → j < S.rule.size → (own : ℕ) × (row s j ≡ new_row own) × (has S.foreign j ≡ false → S.valid own ≡ true)
  pub none : s.count ≡ 0

pub data Reached (S : Setting) : State → Type 0 where
  start : {s : State} → Opened S s → Reached S s
  after : {s t : State} → Reached S s → Change S s t → Reached S t
