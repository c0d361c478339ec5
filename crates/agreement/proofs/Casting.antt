-- What voting, locking and taking up a view do to the invariant of the process. Assumes nothing.
--     entering, past_vote     a new view, and the phase after a vote
--     voting                  a PREPARED is sent
--     locking                 a COMMITTED is sent
--     reporting               a report is sent
--     same                    a message of none of these kinds, or of another process
use Rattle.std.proofs.Common.{◌≡◌, ℕ, ◌<◌, ◌≢◌, List, sym, refl, ap, inl, inr, arith}
use Rattle.mail.specs.declared.message.Message.{Message}
use Rattle.mail.specs.Messages.{kind_report, kind_propose, kind_prepared, kind_committed}
use Rattle.mail.specs.Trust.{Certificate, Proposal}
use Rattle.protocol.specs.declared.row.Row.{Row}
use Rattle.protocol.specs.declared.row.Phase.{Phase}
use Rattle.protocol.specs.declared.row.Phase.TheVariants.{Fresh, Voted, Locked}
use Rattle.protocol.specs.Settings.{Setting}
use Rattle.protocol.specs.Plans.{vote}
use Rattle.agreement.specs.Promise.{Of}
use Rattle.agreement.proofs.Invariant.{Votes, Locks, Local}
use Rattle.agreement.proofs.Kept as kept
use Rattle.agreement.proofs.Kept.{Adds}

voted≢fresh : Voted ≢ Fresh
voted≢fresh e = let z : ◌≡◌ {A = ℕ} 0 1 = cc in omega arith

locked≢fresh : Locked ≢ Fresh
locked≢fresh e = let z : ◌≡◌ {A = ℕ} 0 1 = cc in omega arith

pub entering : {S : Setting} {M : ℕ → Message} {i v w a b : ℕ} {p : Phase} → v < w → Votes S M i v p a → Votes S M i w Fresh b
entering {M = M} {i = i} {v = v} {w = w} up h = record {
  low = λ k o. omega (arith, h.low k o);
  now = λ k o s. absurd (above k o s);
  once = h.once;
  safe = h.safe;
}
  where
    above : (k : ℕ) → Of kind_prepared i (M k) → (M k).view ≡ w → ⊥
    above k o s = omega (arith, h.low k o)

pub past_vote : {S : Setting} {M : ℕ → Message} {i v a : ℕ} {p : Phase} → Votes S M i v p a → Votes S M i v Locked a
past_vote h = record { low = h.low; now = λ k o s. (locked≢fresh, (h.now k o s).1); once = h.once; safe = h.safe }

module _ (S : Setting) {M M' : ℕ → Message} (i : ℕ) where
  pub voting : {v a b : ℕ} → Adds (vote kind_prepared i v a) M M' → (p : ℕ) → (M p).kind ≡ kind_propose → Proposal S.rule M S.valid (M p) → (M p).view ≡ v → (M p).value ≡ a →
      Votes S M i v Fresh b → Votes S M' i v Voted a
  voting {v} {a} add p kind offer at same h = record {
    low = λ k o. elim (add k) [ inl e ↦ rw e (h.low k (rw e at o)) | inr e ↦ rw e.1 (omega arith) ];
    now = λ k o s. elim (add k) [ inl e ↦ absurd (fresh k (rw e at o) (rw e at s)) | inr e ↦ (voted≢fresh, ap (λ (x : Message). x.value) e.1) ];
    once = λ k l o u s. elim (add k) [
      | inl e ↦ elim (add l) [
        | inl f ↦ rw (e, f) (h.once k l (rw e at o) (rw f at u) (rw (e, f) at s))
        | inr f ↦ absurd (fresh k (rw e at o) (rw (e, f.1) at s))
      ]
      | inr e ↦ elim (add l) [
        | inl f ↦ absurd (fresh l (rw f at u) (sym (rw (e.1, f) at s)))
        | inr f ↦ rw (e.1, f.1)
      ]
    ];
    safe = λ k o. elim (add k) [
      | inl e ↦
          let w = h.safe k (rw e at o) in
          let f = kept.stays S add w.0 (λ z. omega (arith, w.1, z)) in
          (w.0, rw f w.1, rw f (kept.proposal S add w.2), rw (e, f) w.3, rw (e, f) w.4)
      | inr e ↦
          let f = kept.stays S add p (λ z. omega (arith, kind, z)) in
          (p, rw f kind, rw f (kept.proposal S add offer), rw (e.1, f) at, rw (e.1, f) same)
    ];
  }
    where
      fresh : (k : ℕ) → Of kind_prepared i (M k) → (M k).view ≡ v → ⊥
      fresh k o s = (h.now k o s).0 refl

  pub locking : {v a l : ℕ} {C : List ℕ} → Adds (vote kind_committed i v a) M M' → Certificate S.rule M C v a → Locks S M i v l → Locks S M' i v v
  locking {v} {a} {C = C} add c h = record {
    low = omega arith;
    seen = λ k o. let e = kept.back S add 2 i k two o in rw e (h.seen k (rw e at o));
    under = λ k o. elim (add k) [ inl e ↦ rw e (omega (arith, h.under k (rw e at o), h.low)) | inr e ↦ rw e.1 (omega arith) ];
    proof = λ k o. elim (add k) [
      | inl e ↦ let w = h.proof k (rw e at o) in rw e (w.0, kept.certificate S add w.1)
      | inr e ↦ rw e.1 (C, kept.certificate S add c)
    ];
    told = λ k n o u s.
        let e = kept.back S add 2 i k two o in
        elim (add n) [
          | inl f ↦ rw (e, f) (h.told k n (rw e at o) (rw f at u) (rw (e, f) at s))
          | inr f ↦ absurd (under k (rw e at o) (rw (e, f.1) at s))
        ];
  }
    where
      two : Of kind_report i (vote kind_committed i v a) → ⊥
      two o = omega (arith, o.kind_is)

      under : (k : ℕ) → Of kind_report i (M k) → v < (M k).view → ⊥
      under k o s = omega (arith, h.seen k o)

  pub reporting : {v w l : ℕ} {x : Message} → Adds x M M' → x.kind ≡ kind_report → x.view ≡ w → x.locked ≡ l → v < w → Locks S M i v l → Locks S M' i w l
  reporting {v} {w} {l} {x} add is at with' up h = record {
    low = omega (arith, h.low);
    seen = λ k o. elim (add k) [ inl e ↦ rw e (omega (arith, h.seen k (rw e at o))) | inr e ↦ rw e.1 (omega arith) ];
    under = λ k o. let e = kept.back S add 5 i k five o in rw e (h.under k (rw e at o));
    proof = λ k o. let e = kept.back S add 5 i k five o in let y = h.proof k (rw e at o) in rw e (y.0, kept.certificate S add y.1);
    told = λ k n o u s.
        let f = kept.back S add 5 i n five u in
        elim (add k) [
          | inl e ↦ rw (e, f) (h.told k n (rw e at o) (rw f at u) (rw (e, f) at s))
          | inr e ↦ rw (e.1, f) (omega (arith, h.under n (rw f at u)))
        ];
  }
    where
      five : Of kind_committed i x → ⊥
      five o = omega (arith, o.kind_is)

pub same : {x : Message} {M M' : ℕ → Message} (S : Setting) → Adds x M M' → (j : ℕ) (r : Row) → (Of kind_report j x → ⊥) → (Of kind_prepared j x → ⊥) → (Of kind_committed j x → ⊥) → Local S M j r → Local S M' j r
same S add j r two four five h = record {
  votes = kept.votes S add four h.votes;
  locks = kept.locks S add two five h.locks;
  holds = kept.holds S add h.holds;
  decides = kept.decides S add h.decides;
}
