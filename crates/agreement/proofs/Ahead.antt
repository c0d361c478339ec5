-- Rows only go forward: what a step of a process leaves in place. Assumes nothing.
--     rank p                 how far a phase is
--     Fuller l l'            what is held in l is held in l'
--     Within b b'            the ballot b goes forward to b' within a view
--     Sized n r              the boxes of r have a slot for each of n processes
--     Ahead r r'             the row r goes forward to r'
--     set_cases              an entry of a list after a change
--     Effect S s i t         what a step of process i from s to t does: a row ahead, and the mail with perhaps one message more
--     effect                 each step does that
use Rattle.std.proofs.Common.{◌≡◌, ℕ, ◌≤◌, true, ◌≢◌, ◌⊎◌, List, length, get_or, set, None, refl, ap, inl, inr, arith}
use Rattle.std.proofs.lemmas.List.{get_or-set_same, get_or-set_other, length-set, set_past}
use Rattle.std.proofs.lemmas.Bool.{cases_eq, cases_lt}
use Rattle.mail.specs.declared.message.Message.{Message}
use Rattle.mail.specs.Messages.{place_at}
use Rattle.protocol.specs.declared.row.Row.{Row}
use Rattle.protocol.specs.declared.row.Ballot.{Ballot}
use Rattle.protocol.specs.declared.row.Phase.{Phase}
use Rattle.protocol.specs.declared.row.Phase.TheVariants.{Fresh, Voted, Locked}
use Rattle.protocol.specs.declared.moves.Plan.{Plan}
use Rattle.protocol.specs.Rows.{with_ballot, holds_report, holds_prepared, holds_committed}
use Rattle.protocol.specs.Settings.{Setting, State, row, mail, put}
use Rattle.protocol.specs.Plans.{planned, sends}
use Rattle.protocol.specs.Protocol.{Takes, Can, Step}
use Rattle.protocol.specs.Protocol.Takes.{heard, reported, offered, prepared, committed}
use Rattle.protocol.specs.Protocol.Can.{relay, take_up, propose, vote, lock, decide}
use Rattle.protocol.specs.Protocol.Step.{takes, makes}
use Rattle.agreement.proofs.Places.{posted_some, sent_table, sent_span, sent_grows}

abbrev pub rank : Phase → ℕ
rank Fresh = 0
rank Voted = 1
rank Locked = 2

abbrev pub Fuller : List ℕ → List ℕ → Type 0
Fuller l l' = (j : ℕ) → place_at l j ≢ 0 → place_at l' j ≢ 0

pub record Within (b b' : Ballot) : Type 0 where
  pub reports : Fuller b.reports b'.reports
  pub prepared : Fuller b.prepared b'.prepared
  pub committed : Fuller b.committed b'.committed
  pub proposal : b.proposal ≢ 0 → b'.proposal ≢ 0
  pub proposed : b.proposed ≡ true → b'.proposed ≡ true
  pub phase : rank b.phase ≤ rank b'.phase

pub record Sized (n : ℕ) (r : Row) : Type 0 where
  pub wishes : n ≤ length r.wishes
  pub reports : n ≤ length r.ballot.reports
  pub prepared : n ≤ length r.ballot.prepared
  pub committed : n ≤ length r.ballot.committed

pub record Ahead (r r' : Row) : Type 0 where
  pub view : r.ballot.view ≤ r'.ballot.view
  pub relayed : r.relayed ≤ r'.relayed
  pub wishes : (j : ℕ) → place_at r.wishes j ≤ place_at r'.wishes j
  pub decision : r.decision ≢ None → r'.decision ≢ None
  pub within : r.ballot.view ≡ r'.ballot.view → Within r.ballot r'.ballot

pub within_refl : (b : Ballot) → Within b b
within_refl b = record { reports = λ j x. x; prepared = λ j x. x; committed = λ j x. x; proposal = λ x. x; proposed = λ x. x; phase = omega arith }

pub ahead_refl : (r : Row) → Ahead r r
ahead_refl r = record { view = omega arith; relayed = omega arith; wishes = λ j. omega arith; decision = λ x. x; within = λ e. within_refl r.ballot }

pub ahead_trans : {r r' r'' : Row} → Ahead r r' → Ahead r' r'' → Ahead r r''
ahead_trans {r} {r'} {r''} a b = record {
  view = omega (arith, a.view, b.view);
  relayed = omega (arith, a.relayed, b.relayed);
  wishes = λ j. omega (arith, a.wishes j, b.wishes j);
  decision = λ x. b.decision (a.decision x);
  within = λ e.
      let p = a.within (omega (arith, a.view, b.view)) in
      let q = b.within (omega (arith, a.view, b.view)) in
      record {
        reports = λ j x. q.reports j (p.reports j x);
        prepared = λ j x. q.prepared j (p.prepared j x);
        committed = λ j x. q.committed j (p.committed j x);
        proposal = λ x. q.proposal (p.proposal x);
        proposed = λ x. q.proposed (p.proposed x);
        phase = omega (arith, p.phase, q.phase);
      };
}

pub set_cases : {X : Type 0} (l : List X) (j : ℕ) (k : X) (x : ℕ) (d : X) → (get_or (set l j k) x d ≡ get_or l x d) ⊎ ((x ≡ j) × (get_or (set l j k) x d ≡ k))
set_cases l j k x d = elim (cases_eq x j) [
  | inl e ↦ elim (cases_lt j (length l)) [
    | inl h ↦ inr (e, rw e (get_or-set_same l j k d h))
    | inr h ↦ inl (ap (λ y. get_or y x d) (set_past l j k h))
  ]
  | inr ne ↦ inl (get_or-set_other l j x k d ne)
]

pub record Effect (S : Setting) (s : State) (i : ℕ) (t : State) : Type 0 where
  pub next : Row
  pub ahead : Ahead (row s i) next
  pub table : t.table ≡ set s.table i next
  pub span : length t.post ≡ length s.post
  pub sized : S.rule.size ≤ 32 → Sized S.rule.size (row s i) → Sized S.rule.size next
  pub grows : (k : ℕ) → (mail S s k).kind ≢ 0 → mail S t k ≡ mail S s k

fuller_set : (l : List ℕ) (j k : ℕ) → k ≢ 0 → Fuller l (set l j k)
fuller_set l j k nz x h = elim (set_cases l j k x 0) [ inl e ↦ rw e h | inr e ↦ rw e.1 nz ]

-- what becomes of a row
record Forward (n : ℕ) (r r' : Row) : Type 0 where
  ahead : Ahead r r'
  sized : n ≤ 32 → Sized n r → Sized n r'

in_view : (r : Row) (b : Ballot) → b.view ≡ r.ballot.view → Within r.ballot b → Ahead r (with_ballot r b)
in_view r b e w = record { view = omega arith; relayed = omega arith; wishes = λ j. omega arith; decision = λ x. x; within = λ e. w }

same_boxes : (n : ℕ) (r r' : Row) → r.ballot.view ≡ r'.ballot.view → r.wishes ≡ r'.wishes → r.ballot.reports ≡ r'.ballot.reports →
    r.ballot.prepared ≡ r'.ballot.prepared → r.ballot.committed ≡ r'.ballot.committed → r.relayed ≤ r'.relayed → (r.decision ≢ None → r'.decision ≢ None) →
    (r.ballot.proposal ≢ 0 → r'.ballot.proposal ≢ 0) → (r.ballot.proposed ≡ true → r'.ballot.proposed ≡ true) → rank r.ballot.phase ≤ rank r'.ballot.phase → Forward n r r'
same_boxes n r r' v w f g h u d p q k = record {
  ahead = record {
    view = omega arith;
    relayed = u;
    wishes = λ j. rw w (omega arith);
    decision = d;
    within = λ e. record { reports = λ j x. rw f at x; prepared = λ j x. rw g at x; committed = λ j x. rw h at x; proposal = p; proposed = q; phase = k };
  };
  sized = λ few z. record { wishes = rw w at z.wishes; reports = rw f at z.reports; prepared = rw g at z.prepared; committed = rw h at z.committed };
}

module _ (S : Setting) (M : ℕ → Message) (i : ℕ) (r : Row) where
  all : Within r.ballot r.ballot
  all = within_refl r.ballot

  taken_forward : (k : ℕ) → ((M k).kind ≢ 0 → k ≢ 0) → (r' : Row) → Takes S M i r k r' → Forward S.rule.size r r'
  taken_forward k some r' (heard is up) = record {
    ahead = record {
      view = omega arith;
      relayed = omega arith;
      wishes = λ j. elim (set_cases r.wishes (M k).sender (M k).view j 0) [ inl e ↦ rw e (omega arith) | inr e ↦ rw (e.1, e.0) (omega arith) ];
      decision = λ x. x;
      within = λ e. all;
    };
    sized = λ b z. record { wishes = rw (length-set r.wishes (M k).sender (M k).view) z.wishes; reports = z.reports; prepared = z.prepared; committed = z.committed };
  }
  taken_forward k some r' (reported lead un rep) = record {
    ahead = in_view r (holds_report r.ballot (M k).sender k) refl (record {
      reports = fuller_set r.ballot.reports (M k).sender k (some (λ z. omega (arith, rep.kind_is, z)));
      prepared = all.prepared;
      committed = all.committed;
      proposal = all.proposal;
      proposed = all.proposed;
      phase = all.phase;
    });
    sized = λ b z. record { wishes = z.wishes; reports = rw (length-set r.ballot.reports (M k).sender k) z.reports; prepared = z.prepared; committed = z.committed };
  }
  taken_forward k some r' (offered is at un safe) =
      same_boxes S.rule.size r _ refl refl refl refl refl (omega arith) (λ x. x) (λ x. some (λ z. omega (arith, is, z))) (λ x. x) (omega arith)
  taken_forward k some r' (prepared is at un) = record {
    ahead = in_view r (holds_prepared r.ballot (M k).sender k) refl (record {
      prepared = fuller_set r.ballot.prepared (M k).sender k (some (λ z. omega (arith, is, z)));
      reports = all.reports;
      committed = all.committed;
      proposal = all.proposal;
      proposed = all.proposed;
      phase = all.phase;
    });
    sized = λ b z. record { wishes = z.wishes; reports = z.reports; prepared = rw (length-set r.ballot.prepared (M k).sender k) z.prepared; committed = z.committed };
  }
  taken_forward k some r' (committed is at un) = record {
    ahead = in_view r (holds_committed r.ballot (M k).sender k) refl (record {
      committed = fuller_set r.ballot.committed (M k).sender k (some (λ z. omega (arith, is, z)));
      reports = all.reports;
      prepared = all.prepared;
      proposal = all.proposal;
      proposed = all.proposed;
      phase = all.phase;
    });
    sized = λ b z. record { wishes = z.wishes; reports = z.reports; prepared = z.prepared; committed = rw (length-set r.ballot.committed (M k).sender k) z.committed };
  }

  planned_forward : (p : Plan) → Can S.rule M i r p → Forward S.rule.size r (planned S.rule.size M r p)
  planned_forward p (relay w hope up) = same_boxes S.rule.size r _ refl refl refl refl refl (omega arith) (λ x. x) (λ x. x) (λ x. x) (omega arith)
  planned_forward p (take_up w hope settled up) = record {
    ahead = record { view = omega arith; relayed = omega arith; wishes = λ j. omega arith; decision = λ x. x; within = λ e. absurd (omega arith) };
    sized = λ few z. record { wishes = z.wishes; reports = few; prepared = few; committed = few };
  }
  planned_forward p (propose a lead un q ch) = same_boxes S.rule.size r _ refl refl refl refl refl (omega arith) (λ x. x) (λ x. x) (λ x. refl) (omega arith)
  planned_forward p (vote fresh held) = same_boxes S.rule.size r _ refl refl refl refl refl (omega arith) (λ x. x) (λ x. x) (λ x. x) (rw fresh (omega arith))
  planned_forward p (lock phase q) = same_boxes S.rule.size r _ refl refl refl refl refl (omega arith) (λ x. x) (λ x. x) (λ x. x) (rw phase (omega arith))
  planned_forward p (decide phase un q) =
      same_boxes S.rule.size r _ refl refl refl refl refl (omega arith) (λ x e. let z : ◌≡◌ {A = ℕ} 0 1 = cc in omega arith) (λ x. x) (λ x. x) (omega arith)

pub effect : (S : Setting) (s : State) (i : ℕ) (t : State) → Step S s i t → Effect S s i t
effect S s i t (takes {r} k h) =
    let f = taken_forward S (mail S s) i (row s i) k (posted_some S.rule.size s.post s.count k) r h in
    record { next = r; ahead = f.ahead; table = refl; span = refl; sized = f.sized; grows = λ j nz. refl }
effect S s i t (makes p can fits) =
    let f = planned_forward S (mail S s) i (row s i) p can in
    let r = planned S.rule.size (mail S s) (row s i) p in
    record {
      next = r;
      ahead = f.ahead;
      table = sent_table S (put s i r) (sends i (row s i) p);
      span = sent_span S (put s i r) (sends i (row s i) p);
      sized = f.sized;
      grows = sent_grows S (put s i r) (sends i (row s i) p) fits;
    }
