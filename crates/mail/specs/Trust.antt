-- What mail proves: certificates, valid reports, safe proposals. Assumes nothing.
-- m is the quorum rule's meaning, valid the valid values, and M what each place reads as.
--     Vote kind j v a x              x is process j's message of this kind, with view v and value a
--     Certificate m M places v a     the places are a certificate for view v and value a
--     ValidLock m M x                x's locked view is below its view, and certified where it is not 0
--     Report m M j v x               x is a valid report of process j and view v
--     Carried m M places a           a cited report with the highest locked view has the value a
--     Proposal m valid M x           x is a safe proposal
--     Exactly P Q                    P holds exactly when Q does
--     Judging m valid M              the judging finds no fault exactly in certificates, in valid reports and in safe proposals
use Rattle.std.specs.Prelude.{◌≡◌, ℕ, ◌<◌, ◌≤◌, Bool, true, ◌≢◌, List, Some, None}
use Rattle.sets.specs.Rules.{Rule}
use Rattle.mail.specs.declared.message.Message.{Message}
use Rattle.mail.specs.Messages.{place_at, cited, kind_report, kind_prepared}
use Rattle.mail.specs.Leaders.{leader_of}
use Rattle.mail.specs.Judging.{certificate_fault, report_fault, proposal_fault}

pub record Vote (kind j v a : ℕ) (x : Message) : Type 0 where
  pub kind_is : x.kind ≡ kind
  pub sender_is : x.sender ≡ j
  pub view_is : x.view ≡ v
  pub value_is : x.value ≡ a

module _ (m : Rule) (M : ℕ → Message) where
  pub record Certificate (places : List ℕ) (v a : ℕ) : Type 0 where
    pub quorum : m.quorum (cited places) ≡ true
    pub each : (j : ℕ) → j < m.size → place_at places j ≢ 0 → Vote kind_prepared j v a (M (place_at places j))

  pub record ValidLock (x : Message) : Type 0 where
    pub below : x.locked < x.view
    pub proof : x.locked ≢ 0 → Certificate x.citations x.locked x.value

  pub record Report (j v : ℕ) (x : Message) : Type 0 where
    pub kind_is : x.kind ≡ kind_report
    pub sender_is : x.sender ≡ j
    pub view_is : x.view ≡ v
    pub lock : ValidLock x

  pub record Carried (places : List ℕ) (a : ℕ) : Type 0 where
    pub from : ℕ
    pub within : from < m.size
    pub there : place_at places from ≢ 0
    pub most : (j : ℕ) → j < m.size → place_at places j ≢ 0 → (M (place_at places j)).locked ≤ (M (place_at places from)).locked
    pub value_is : (M (place_at places from)).value ≡ a

  pub record Proposal (valid : ℕ → Bool) (x : Message) : Type 0 where
    pub leads : leader_of m.size x.view ≡ Some x.sender
    pub valued : valid x.value ≡ true
    pub quorum : m.quorum (cited x.citations) ≡ true
    pub each : (j : ℕ) → j < m.size → place_at x.citations j ≢ 0 → Report j x.view (M (place_at x.citations j))
    pub highest : (j : ℕ) → j < m.size → place_at x.citations j ≢ 0 → (M (place_at x.citations j)).locked ≢ 0 → Carried x.citations x.value

abbrev pub Exactly : Type 0 → Type 0 → Type 0
Exactly P Q = (P → Q) × (Q → P)

pub record Judging (m : Rule) (valid : ℕ → Bool) (M : ℕ → Message) : Type 0 where
  pub certificates : (places : List ℕ) (v a k : ℕ) → Exactly (certificate_fault m M places v a k ≡ None) (Certificate m M places v a)
  pub reports : (x : Message) (k : ℕ) → Exactly (report_fault m M x k ≡ None) (ValidLock m M x)
  pub proposals : (x : Message) (k : ℕ) → Exactly (proposal_fault m valid M x k ≡ None) (Proposal m M valid x)
