-- What holds of each run process and its mail at all times. m is the quorum rule's meaning, M what each place reads as, j the process.
-- The records are over the parts of a row, so that what a change leaves alone needs no proof.
--     Fair S                the rule is lawful, and the foreign processes are a tolerated set
--     Each m M ps P         each process below the size with a held place has there a message that passes
--     Held kind v j x       x is j's message of this kind and view
--     Votes, Locks, Holds, Decides, Local, Sound        what safety rests on
--     Wishing, Reporting, Proposing, Doing, Alive, Vivid      what progress rests on besides
use Rattle.std.proofs.Common.{◌≡◌, ℕ, ◌<◌, ◌≤◌, Bool, true, ◌≢◌, List, length, Some, Option}
use Rattle.sets.specs.Rules.{Lawful}
use Rattle.quorum.specs.Wishes.{wishing}
use Rattle.mail.specs.declared.message.Message.{Message}
use Rattle.mail.specs.Messages.{place_at, kind_wish, kind_report, kind_propose, kind_prepared, kind_committed}
use Rattle.mail.specs.Trust.{Vote, Certificate, Report, Proposal}
use Rattle.protocol.specs.declared.row.Row.{Row}
use Rattle.protocol.specs.declared.row.Lock as lock
use Rattle.protocol.specs.declared.row.Decision.{Decision}
use Rattle.protocol.specs.declared.row.Phase.{Phase}
use Rattle.protocol.specs.declared.row.Phase.TheVariants.{Fresh, Locked}
use Rattle.protocol.specs.Settings.{Setting, State, Runs, row, mail}
use Rattle.agreement.specs.Promise.{Of, Sent, QuorumSent}

pub record Fair (S : Setting) : Type 0 where
  pub laws : Lawful S.rule
  pub few : S.rule.tolerated S.foreign ≡ true

abbrev pub Each : ℕ → (ℕ → Message) → List ℕ → (ℕ → Message → Type 0) → Type 0
Each n M ps P = (j : ℕ) → j < n → place_at ps j ≢ 0 → P j (M (place_at ps j))

abbrev pub Held : ℕ → ℕ → ℕ → Message → Type 0
Held kind v j x = Of kind j x × (x.view ≡ v)

module _ (S : Setting) (M : ℕ → Message) where
  -- the votes of process j, whose ballot has this view, phase and voted value
  pub record Votes (j view : ℕ) (phase : Phase) (voted : ℕ) : Type 0 where
    pub low : (k : ℕ) → Of kind_prepared j (M k) → (M k).view ≤ view
    pub now : (k : ℕ) → Of kind_prepared j (M k) → (M k).view ≡ view → (phase ≢ Fresh) × ((M k).value ≡ voted)
    pub once : (k l : ℕ) → Of kind_prepared j (M k) → Of kind_prepared j (M l) → (M k).view ≡ (M l).view → (M k).value ≡ (M l).value
    pub safe : (k : ℕ) → Of kind_prepared j (M k) → (p : ℕ) × ((M p).kind ≡ kind_propose) × Proposal S.rule M S.valid (M p) × ((M p).view ≡ (M k).view) × ((M p).value ≡ (M k).value)

  -- its COMMITTED messages and reports, with this view and locked view in the row
  pub record Locks (j view locked : ℕ) : Type 0 where
    pub low : locked ≤ view
    pub seen : (k : ℕ) → Of kind_report j (M k) → (M k).view ≤ view
    pub under : (k : ℕ) → Of kind_committed j (M k) → (M k).view ≤ locked
    pub proof : (k : ℕ) → Of kind_committed j (M k) → (C : List ℕ) × Certificate S.rule M C (M k).view (M k).value
    pub told : (k l : ℕ) → Of kind_report j (M k) → Of kind_committed j (M l) → (M l).view < (M k).view → (M l).view ≤ (M k).locked

  -- what it holds in a view
  pub record Holds (view proposal : ℕ) (prepared committed : List ℕ) : Type 0 where
    pub offer : proposal ≢ 0 → ((M proposal).kind ≡ kind_propose) × Proposal S.rule M S.valid (M proposal) × ((M proposal).view ≡ view)
    pub votes : Each S.rule.size M prepared (Held kind_prepared view)
    pub locks : Each S.rule.size M committed (Held kind_committed view)

  abbrev pub Decides : Option Decision → Type 0
  Decides o = (d : Decision) → o ≡ Some d → QuorumSent S.rule M kind_committed d.view d.value

  pub record Local (j : ℕ) (r : Row) : Type 0 where
    pub votes : Votes j r.ballot.view r.ballot.phase r.ballot.voted
    pub locks : Locks j r.ballot.view r.lock.view
    pub holds : Holds r.ballot.view r.ballot.proposal r.ballot.prepared r.ballot.committed
    pub decides : Decides r.decision

  -- what it has wished and heard, and the view that it took up
  pub record Wishing (j relayed view : ℕ) (wishes : List ℕ) : Type 0 where
    pub relay : relayed ≢ 0 → Sent M kind_wish j relayed
    pub heard : (i : ℕ) → i < S.rule.size → place_at wishes i ≢ 0 → Sent M kind_wish i (place_at wishes i)
    pub entered : view ≢ 0 → S.rule.quorum (wishing wishes view) ≡ true
    pub told : view ≢ 0 → Sent M kind_report j view

  -- its lock, its reports, and those that it holds
  pub record Reporting (j view : ℕ) (l : lock.Lock) (reports : List ℕ) (own : ℕ) : Type 0 where
    pub cert : l.view ≢ 0 → Certificate S.rule M l.certificate l.view l.value
    pub valid : (k : ℕ) → Of kind_report j (M k) → Report S.rule M j (M k).view (M k)
    pub box : Each S.rule.size M reports (λ i. Report S.rule M i view)
    pub mine : S.valid own ≡ true

  pub record Proposing (j view : ℕ) (proposed : Bool) : Type 0 where
    pub low : (k : ℕ) → Of kind_propose j (M k) → (M k).view ≤ view
    pub now : (k : ℕ) → Of kind_propose j (M k) → (M k).view ≡ view → proposed ≡ true
    pub once : (k l : ℕ) → Of kind_propose j (M k) → Of kind_propose j (M l) → (M k).view ≡ (M l).view → (M k).value ≡ (M l).value
    pub safe : (k : ℕ) → Of kind_propose j (M k) → Proposal S.rule M S.valid (M k)
    pub did : proposed ≡ true → Sent M kind_propose j view

  pub record Doing (j view : ℕ) (phase : Phase) (value : ℕ) : Type 0 where
    pub voted : phase ≢ Fresh → (k : ℕ) × Vote kind_prepared j view value (M k)
    pub locked : phase ≡ Locked → (k : ℕ) × Vote kind_committed j view value (M k)

  pub record Alive (j : ℕ) (r : Row) : Type 0 where
    pub wishing : Wishing j r.relayed r.ballot.view r.wishes
    pub reporting : Reporting j r.ballot.view r.lock r.ballot.reports r.own
    pub proposing : Proposing j r.ballot.view r.ballot.proposed
    pub doing : Doing j r.ballot.view r.ballot.phase r.ballot.voted

pub record Sound (S : Setting) (s : State) : Type 0 where
  pub rows : S.rule.size ≤ length s.table
  pub each : (j : ℕ) → Runs S j → Local S (mail S s) j (row s j)

pub record Vivid (S : Setting) (s : State) : Type 0 where
  pub sound : Sound S s
  pub each : (j : ℕ) → Runs S j → Alive S (mail S s) j (row s j)
