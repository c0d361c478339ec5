-- What whoever opens a committee is promised. Assumes nothing.
--     Of kind j x              x is a message of this kind from process j
--     Sent M kind j v          process j has sent a message of this kind and of view v
--     QuorumSent m M kind v a  a quorum has sent a message of this kind, with view v and value a
--     Safe S s                 decisions agree and are valid; certificates agree
--     Working S v s            v's leader is run, a run process has taken up v, and no run process has wished for more
--     is_quiet c               the call is no expiry
--     sweeps_in cs             how many sweeps are in a list of calls
--     meets_full c a           the call c with the answer a had a move that met a full post
--     Roomy S s cs             no call of the list has
--     Progresses S s           a committee that works in a view decides within six sweeps, whatever else is called but expiries
--     Promise S s              both, after every list of calls
--     Promised m valid         for every accepted opening over these rules, with a tolerated set of foreign processes
use Rattle.std.specs.Prelude.{◌≡◌, ℕ, ◌+◌, ◌<◌, ◌≤◌, Bool, true, false, not, ◌≢◌, List, [], ◌∷◌, Some, None, Ok, Err, Result, ◌==◌}
use Rattle.sets.specs.Sets.{has}
use Rattle.sets.specs.Rules.{Rule}
use Rattle.mail.specs.declared.message.Message.{Message}
use Rattle.mail.specs.Messages.{kind_wish, kind_report, kind_committed}
use Rattle.mail.specs.Leaders.{leader_of}
use Rattle.mail.specs.Trust.{Vote, Certificate}
use Rattle.protocol.specs.declared.row.Row.{Row}
use Rattle.protocol.specs.declared.row.Decision.{Decision}
use Rattle.protocol.specs.declared.call.Call.{Call}
use Rattle.protocol.specs.declared.call.Call.TheVariants.{Expire, Post, Deliver, MakeMove, Sweep}
use Rattle.protocol.specs.declared.call.Answer.{Answer}
use Rattle.protocol.specs.declared.call.Answer.TheVariants.{Sent as SentAt, Delivered, Moved, Swept}
use Rattle.protocol.specs.declared.refusal.Refusal.{Refusal}
use Rattle.protocol.specs.Settings.{Setting, State, Runs, row, mail}
use Rattle.protocol.specs.Sweeps.{is_full}
use Rattle.protocol.specs.Openings.{Books, opening, setting, standing}
use Rattle.protocol.specs.Runs.{carry_out, run}

pub record Of (kind j : ℕ) (x : Message) : Type 0 where
  pub kind_is : x.kind ≡ kind
  pub sender_is : x.sender ≡ j

abbrev pub Sent : (ℕ → Message) → ℕ → ℕ → ℕ → Type 0
Sent M kind j v = (k : ℕ) × Of kind j (M k) × ((M k).view ≡ v)

pub record QuorumSent (m : Rule) (M : ℕ → Message) (kind v a : ℕ) : Type 0 where
  pub members : ℕ
  pub quorum : m.quorum members ≡ true
  pub each : (j : ℕ) → j < m.size → has members j ≡ true → (k : ℕ) × Vote kind j v a (M k)

pub record Safe (S : Setting) (s : State) : Type 0 where
  -- all decisions of run processes name one value, and it is valid
  pub agreed : (i j : ℕ) (d e : Decision) → Runs S i → Runs S j → (row s i).decision ≡ Some d → (row s j).decision ≡ Some e → d.value ≡ e.value
  pub valid : (i : ℕ) (d : Decision) → Runs S i → (row s i).decision ≡ Some d → S.valid d.value ≡ true
  -- any two certificates of one view name one value
  pub one : (C D : List ℕ) (v a b : ℕ) → Certificate S.rule (mail S s) C v a → Certificate S.rule (mail S s) D v b → a ≡ b
  -- if a quorum has sent COMMITTED for a value, every certificate of a later view names it
  pub later : (v a w b : ℕ) (D : List ℕ) → QuorumSent S.rule (mail S s) kind_committed v a → v < w → Certificate S.rule (mail S s) D w b → b ≡ a

pub record Working (S : Setting) (v : ℕ) (s : State) : Type 0 where
  pub leader : ℕ
  pub runs : Runs S leader
  pub leads : leader_of S.rule.size v ≡ Some leader
  pub first : ℕ
  pub one : Runs S first
  pub taken : Sent (mail S s) kind_report first v
  pub calm : (j : ℕ) → Runs S j → (k : ℕ) → Of kind_wish j (mail S s k) → (mail S s k).view ≤ v

abbrev pub is_quiet : Call → Bool
is_quiet (Expire i) = false
is_quiet (Post j p) = true
is_quiet (Deliver i k) = true
is_quiet (MakeMove i) = true
is_quiet Sweep = true

abbrev pub Quiet : List Call → Type 0
Quiet [] = Unit {0}
Quiet (c ∷ cs) = (is_quiet c ≡ true) × Quiet cs

abbrev sweeps_by : Call → ℕ
sweeps_by (Expire i) = 0
sweeps_by (Post j p) = 0
sweeps_by (Deliver i k) = 0
sweeps_by (MakeMove i) = 0
sweeps_by Sweep = 1

abbrev pub sweeps_in : List Call → ℕ
sweeps_in [] = 0
sweeps_in (c ∷ cs) = sweeps_by c + sweeps_in cs

-- a move that was refused for want of room, and a sweep that stopped a process for it
abbrev refused_full : Result Answer Refusal → Bool
refused_full (Ok a) = false
refused_full (Err e) = is_full e

abbrev stops : Answer → Bool
stops (SentAt k) = false
stops Delivered = false
stops (Moved p k) = false
stops (Swept x) = not (x.stopped == 0)

abbrev stopped_full : Result Answer Refusal → Bool
stopped_full (Ok a) = stops a
stopped_full (Err e) = false

abbrev pub meets_full : Call → Result Answer Refusal → Bool
meets_full (Expire i) a = false
meets_full (Post j p) a = false
meets_full (Deliver i k) a = false
meets_full (MakeMove i) a = refused_full a
meets_full Sweep a = stopped_full a

abbrev pub Roomy : Setting → State → List Call → Type 0
Roomy S s [] = Unit {0}
Roomy S s (c ∷ cs) = (meets_full c (carry_out S s c).answer ≡ false) × Roomy S (carry_out S s c).state cs

abbrev pub Progresses : Setting → State → Type 0
Progresses S s =
    (v : ℕ) → Working S v s → (cs : List Call) → Quiet cs → 6 ≤ sweeps_in cs → Roomy S s cs →
    (i : ℕ) → Runs S i → (row (run S s cs) i).decision ≢ None

pub record Promise (S : Setting) (s : State) : Type 0 where
  pub safe : (cs : List Call) → Safe S (run S s cs)
  pub progresses : (cs : List Call) → Progresses S (run S s cs)

abbrev pub Promised : Rule → (ℕ → Bool) → Type 0
Promised m valid =
    (b : Books) (table : List Row) (post : List Message) (foreign : ℕ) (owns : List ℕ) →
    (opening m valid b table post foreign owns).answer ≡ Ok tt →
    m.tolerated (opening m valid b table post foreign owns).books.foreign ≡ true →
    Promise (setting m valid (opening m valid b table post foreign owns).books)
    (standing (opening m valid b table post foreign owns).books (opening m valid b table post foreign owns).table post)
