-- A message posted leaves alone what progress rests on, but for a report and a proposal of the process itself. Assumes nothing.
--     wishing, box, reporting, proposing, doing, alive     what held before, if x is none of that
--     taking_up             a new view, with a report at place k
--     putting               a proposal at place k
--     each_none, each_set   of the places that are held: none, and one more
use Rattle.std.proofs.Common.{◌≡◌, ℕ, ◌<◌, Bool, true, false, List, set, sym, refl, ◌∙◌, inl, inr, arith}
use Rattle.std.proofs.lemmas.List.{get_or-replicate, get_or_past}
use Rattle.std.proofs.lemmas.Bool.{cases_lt, both_ways}
use Rattle.quorum.specs.Wishes as wishes
use Rattle.mail.specs.declared.message.Message.{Message}
use Rattle.mail.specs.Messages.{place_at, kind_report, kind_propose}
use Rattle.mail.specs.Trust.{Report, Proposal}
use Rattle.protocol.specs.declared.row.Row.{Row}
use Rattle.protocol.specs.declared.row.Lock.{Lock}
use Rattle.protocol.specs.declared.row.Phase.{Phase}
use Rattle.protocol.specs.Rows.{no_places}
use Rattle.protocol.specs.Settings.{Setting}
use Rattle.agreement.specs.Promise.{Of}
use Rattle.agreement.proofs.Invariant.{Each, Wishing, Reporting, Proposing, Doing, Alive}
use Rattle.agreement.proofs.Kept as kept
use Rattle.agreement.proofs.Kept.{Adds}
use Rattle.agreement.proofs.Ahead.{set_cases}

pub zeros : (i : ℕ) → place_at no_places i ≡ 0
zeros i = elim (cases_lt i 32) [ inl l ↦ get_or-replicate 32 i 0 0 l | inr g ↦ get_or_past no_places i 0 g ]

pub each_none : (n : ℕ) (M : ℕ → Message) (P : ℕ → Message → Type 0) → Each n M no_places P
each_none n M P i h nz = absurd (nz (zeros i))

pub each_set : (n : ℕ) (M : ℕ → Message) (l : List ℕ) (P : ℕ → Message → Type 0) (j k : ℕ) → Each n M l P → P j (M k) → Each n M (set l j k) P
each_set n M l P j k all this i h nz = elim (set_cases l j k i 0) [
  | inl e ↦ rw e (all i h (rw e at nz))
  | inr e ↦ rw (e.1, e.0) this
]

module _ {x : Message} {M M' : ℕ → Message} (S : Setting) (add : Adds x M M') where
  pub wishing : {j r v : ℕ} {w : List ℕ} → Wishing S M j r v w → Wishing S M' j r v w
  wishing h = record { relay = λ z. kept.sent S add (h.relay z); heard = λ i l z. kept.sent S add (h.heard i l z); entered = h.entered; told = λ z. kept.sent S add (h.told z) }

  pub box : {v : ℕ} (l : List ℕ) → Each S.rule.size M l (λ i. Report S.rule M i v) → Each S.rule.size M' l (λ i. Report S.rule M' i v)
  box l h i w nz = let r = h i w nz in rw (kept.stays S add (place_at l i) (λ z. omega (arith, r.kind_is, z))) (kept.report S add r)

  pub reporting : {j v o : ℕ} {l : Lock} {b : List ℕ} → (Of kind_report j x → ⊥) → Reporting S M j v l b o → Reporting S M' j v l b o
  reporting {j} {b = b} un h = record {
    cert = λ z. kept.certificate S add (h.cert z);
    valid = λ k o. let e = kept.back S add 2 j k un o in rw e (kept.report S add (h.valid k (rw e at o)));
    box = box b h.box;
    mine = h.mine;
  }

  pub proposing : {j v : ℕ} {p : Bool} → (Of kind_propose j x → ⊥) → Proposing S M j v p → Proposing S M' j v p
  proposing {j} un h = record {
    low = λ k o. let e = kept.back S add 3 j k un o in rw e (h.low k (rw e at o));
    now = λ k o s. let e = kept.back S add 3 j k un o in h.now k (rw e at o) (rw e at s);
    once = λ k l o u s. let e = kept.back S add 3 j k un o in let f = kept.back S add 3 j l un u in rw (e, f) (h.once k l (rw e at o) (rw f at u) (rw (e, f) at s));
    safe = λ k o. let e = kept.back S add 3 j k un o in rw e (kept.proposal S add (h.safe k (rw e at o)));
    did = λ t. kept.sent S add (h.did t);
  }

  pub doing : {j v a : ℕ} {p : Phase} → Doing S M j v p a → Doing S M' j v p a
  doing {j} h = record {
    voted = λ p. let w = h.voted p in (w.0, rw (kept.stays S add w.0 (λ z. omega (arith, w.1.kind_is, z))) w.1);
    locked = λ p. let w = h.locked p in (w.0, rw (kept.stays S add w.0 (λ z. omega (arith, w.1.kind_is, z))) w.1);
  }

  pub alive : (j : ℕ) (r : Row) → (Of kind_report j x → ⊥) → (Of kind_propose j x → ⊥) → Alive S M j r → Alive S M' j r
  alive j r two three h = record { wishing = wishing h.wishing; reporting = reporting two h.reporting; proposing = proposing three h.proposing; doing = doing h.doing }

  -- a new view
  pub taking_up : {j r v o w : ℕ} {l : Lock} {b ws : List ℕ} {p : Bool} → v < w → (k : ℕ) → M' k ≡ x → Of kind_report j x → x.view ≡ w →
      Report S.rule M' j x.view x → S.rule.quorum (wishes.wishing ws w) ≡ true →
      Wishing S M j r v ws → Reporting S M j v l b o → Proposing S M j v p →
      Wishing S M' j r w ws × Reporting S M' j w l no_places o × Proposing S M' j w false
  taking_up {j} {v = v} {w = w} {p = p} up k at o vw rep q hw hr hp = (
    record { relay = λ z. kept.sent S add (hw.relay z); heard = λ i l z. kept.sent S add (hw.heard i l z); entered = λ z. q; told = λ z. (k, rw at o, rw at vw) },
    record {
      cert = λ z. kept.certificate S add (hr.cert z);
      valid = λ n u. elim (add n) [ inl e ↦ rw e (kept.report S add (hr.valid n (rw e at u))) | inr e ↦ rw e.1 rep ];
      box = each_none S.rule.size M' (λ i. Report S.rule M' i w);
      mine = hr.mine;
    },
    record {
      low = λ n u. let e = kept.back S add 3 j n three u in rw e (omega (arith, hp.low n (rw e at u)));
      now = λ n u s. let e = kept.back S add 3 j n three u in absurd (high n (rw e at u) (rw e at s));
      once = kp.once;
      safe = kp.safe;
      did = λ f. absurd (both_ways true (sym f) refl);
    },
  )
    where
      three : Of kind_propose j x → ⊥
      three u = omega (arith, u.kind_is, o.kind_is)

      kp : Proposing S M' j v p
      kp = proposing three hp

      high : (n : ℕ) → Of kind_propose j (M n) → (M n).view ≡ w → ⊥
      high n u s = omega (arith, hp.low n u)

  -- a proposal
  pub putting : {j v : ℕ} → (k : ℕ) → M' k ≡ x → Of kind_propose j x → x.view ≡ v → Proposal S.rule M' S.valid x → Proposing S M j v false → Proposing S M' j v true
  putting {j} {v} k at o vw p h = record {
    low = λ n u. elim (add n) [ inl e ↦ rw e (h.low n (rw e at u)) | inr e ↦ rw e.1 (omega arith) ];
    now = λ n u s. refl;
    once = λ a b u y s. elim (add a) [
      | inl e ↦ elim (add b) [
        | inl f ↦ rw (e, f) (h.once a b (rw e at u) (rw f at y) (rw (e, f) at s))
        | inr f ↦ absurd (never a (rw e at u) (rw (e, f.1) at s ∙ vw))
      ]
      | inr e ↦ elim (add b) [
        | inl f ↦ absurd (never b (rw f at y) (sym (rw (e.1, f) at s) ∙ vw))
        | inr f ↦ rw (e.1, f.1)
      ]
    ];
    safe = λ n u. elim (add n) [ inl e ↦ rw e (kept.proposal S add (h.safe n (rw e at u))) | inr e ↦ rw e.1 p ];
    did = λ t. (k, rw at o, rw at vw);
  }
    where
      never : (n : ℕ) → Of kind_propose j (M n) → (M n).view ≡ v → ⊥
      never n u s = both_ways false refl (h.now n u s)
