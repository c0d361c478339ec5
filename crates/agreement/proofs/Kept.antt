-- A message posted leaves alone what was judged before. Assumes nothing.
--     Adds x M M'                   M' has the mail M, and at a place without a message perhaps x
--     posts                         one message more in a post
--     posted_there                  it stands at its place
--     stays, back, of_stays         a message that was there is there, and one that is not x was there
--     certificate, lock, report, proposal, quorum_sent       what was judged so before
--     decides, holds, votes, locks          what a process holds and has sent, if x is none of that
use Rattle.std.proofs.Common.{◌≡◌, ℕ, zero, suc, ◌+◌, ◌<◌, Bool, true, false, cond, ltb, ◌≢◌, ◌⊎◌, List, length, set, Option, sym, refl, ap, ◌∙◌, subst, inl, inr, arith}
use Rattle.std.proofs.lemmas.List.{get_or-set_same, get_or-set_other}
use Rattle.std.proofs.lemmas.Bool.{cases_eq, cases_lt, lt-ltb, le-ltb}
use Rattle.mail.specs.declared.message.Message.{Message}
use Rattle.mail.specs.Messages.{blank, silence, proper, posted, place_at, kind_report, kind_prepared, kind_committed}
use Rattle.mail.specs.Trust.{Vote, Certificate, ValidLock, Report, Proposal}
use Rattle.protocol.specs.declared.row.Decision.{Decision}
use Rattle.protocol.specs.declared.row.Phase.{Phase}
use Rattle.protocol.specs.Settings.{Setting}
use Rattle.agreement.specs.Promise.{Of, Sent, QuorumSent}
use Rattle.agreement.proofs.Invariant.{Votes, Locks, Holds, Decides}

abbrev pub Adds : Message → (ℕ → Message) → (ℕ → Message) → Type 0
Adds x M M' = (k : ℕ) → (M' k ≡ M k) ⊎ ((M k ≡ silence) × (M' k ≡ x))

same_ltb : (k c : ℕ) → k ≢ c → ltb k (c + 1) ≡ ltb k c
same_ltb k c h = elim (cases_lt k c) [
  | inl l ↦ lt-ltb k (c + 1) (omega arith) ∙ sym (lt-ltb k c l)
  | inr g ↦ le-ltb k (c + 1) (omega arith) ∙ sym (le-ltb k c g)
]

one_more : (x : Message) (b : Bool) → (cond b x silence ≡ silence) ⊎ ((silence ≡ silence) × (cond b x silence ≡ x))
one_more x true = inr (refl, refl)
one_more x false = inl refl

pub posts : (n : ℕ) (post : List Message) (c : ℕ) (x : Message) → c < length post → Adds x (posted n post c) (posted n (set post c x) (c + 1))
unfolding posted
posts n post c x room zero = inl refl
posts n post c x room (suc k) = elim (cases_eq k c) [
  | inl e ↦ rw (e, le-ltb c c (omega arith), lt-ltb c (c + 1) (omega arith), get_or-set_same post c x blank room) (one_more x (proper n x))
  | inr ne ↦ inl (rw (get_or-set_other post c k x blank ne, same_ltb k c ne))
]

pub posted_there : (n : ℕ) (post : List Message) (c : ℕ) (x : Message) → c < length post → proper n x ≡ true → posted n (set post c x) (c + 1) (suc c) ≡ x
unfolding posted
posted_there n post c x room p = rw (get_or-set_same post c x blank room, lt-ltb c (c + 1) (omega arith), p)

module _ {x : Message} {M M' : ℕ → Message} (S : Setting) (add : Adds x M M') where
  pub stays : (k : ℕ) → (M k).kind ≢ 0 → M' k ≡ M k
  stays k h = elim (add k) [ inl e ↦ e | inr e ↦ absurd (h (ap (λ (y : Message). y.kind) e.0)) ]

  pub back : (c j k : ℕ) → (Of c j x → ⊥) → Of c j (M' k) → M' k ≡ M k
  back c j k h o = elim (add k) [ inl e ↦ e | inr e ↦ absurd (h (subst (Of c j) e.1 o)) ]

  pub of_stays : (c j k : ℕ) → Of (suc c) j (M k) → M' k ≡ M k
  of_stays c j k o = stays k (λ z. omega (arith, o.kind_is, z))

  vote_of : {c j v a : ℕ} {y : Message} → Vote c j v a y → Of c j y
  vote_of w = record { kind_is = w.kind_is; sender_is = w.sender_is }

  pub sent : {c j v : ℕ} → Sent M (suc c) j v → Sent M' (suc c) j v
  sent {c} {j} w = let e = of_stays c j w.0 w.1 in (w.0, rw e w.1, rw e w.2)

  pub certificate : {C : List ℕ} {v a : ℕ} → Certificate S.rule M C v a → Certificate S.rule M' C v a
  certificate c = record { quorum = c.quorum; each = λ j h nz. let w = c.each j h nz in rw (of_stays 3 j _ (vote_of w)) w }

  pub lock : {y : Message} → ValidLock S.rule M y → ValidLock S.rule M' y
  lock l = record { below = l.below; proof = λ ne. certificate (l.proof ne) }

  pub report : {j v : ℕ} {y : Message} → Report S.rule M j v y → Report S.rule M' j v y
  report r = record { kind_is = r.kind_is; sender_is = r.sender_is; view_is = r.view_is; lock = lock r.lock }

  pub proposal : {y : Message} → Proposal S.rule M S.valid y → Proposal S.rule M' S.valid y
  proposal {y} p = record {
    leads = p.leads;
    valued = p.valued;
    quorum = p.quorum;
    each = λ j h nz. rw (there j h nz) (report (p.each j h nz));
    highest = λ j h nz ne.
        let t = p.highest j h nz (rw (there j h nz) at ne) in
        record {
          from = t.from;
          within = t.within;
          there = t.there;
          most = λ i hi ni. rw (there i hi ni, there t.from t.within t.there) (t.most i hi ni);
          value_is = rw (there t.from t.within t.there) t.value_is;
        };
  }
    where
      there : (j : ℕ) → j < S.rule.size → place_at y.citations j ≢ 0 → M' (place_at y.citations j) ≡ M (place_at y.citations j)
      there j h nz = let r = p.each j h nz in stays _ (λ z. omega (arith, r.kind_is, z))

  pub quorum_sent : {c v a : ℕ} → QuorumSent S.rule M (suc c) v a → QuorumSent S.rule M' (suc c) v a
  quorum_sent {c} q = record {
    members = q.members;
    quorum = q.quorum;
    each = λ j h i. let w = q.each j h i in (w.0, rw (of_stays c j _ (vote_of w.1)) w.1);
  }

  pub decides : {o : Option Decision} → Decides S M o → Decides S M' o
  decides h d e = quorum_sent (h d e)

  pub holds : {v p : ℕ} {ps cs : List ℕ} → Holds S M v p ps cs → Holds S M' v p ps cs
  holds {p = p} h = record {
    offer = λ nz. let w = h.offer nz in rw (stays p (λ z. omega (arith, w.0, z))) (w.0, proposal w.1, w.2);
    votes = λ j l nz. let w = h.votes j l nz in rw (of_stays 3 j _ w.0) w;
    locks = λ j l nz. let w = h.locks j l nz in rw (of_stays 4 j _ w.0) w;
  }

  pub votes : {j v a : ℕ} {p : Phase} → (Of kind_prepared j x → ⊥) → Votes S M j v p a → Votes S M' j v p a
  votes {j} un h = record {
    low = λ k o. let e = back 4 j k un o in rw e (h.low k (rw e at o));
    now = λ k o s. let e = back 4 j k un o in rw e (h.now k (rw e at o) (rw e at s));
    once = λ k l o u s. let e = back 4 j k un o in let f = back 4 j l un u in rw (e, f) (h.once k l (rw e at o) (rw f at u) (rw (e, f) at s));
    safe = λ k o.
        let e = back 4 j k un o in
        let w = h.safe k (rw e at o) in
        let f = stays w.0 (λ z. omega (arith, w.1, z)) in
        (w.0, rw f w.1, rw f (proposal w.2), rw (e, f) w.3, rw (e, f) w.4);
  }

  pub locks : {j v l : ℕ} → (Of kind_report j x → ⊥) → (Of kind_committed j x → ⊥) → Locks S M j v l → Locks S M' j v l
  locks {j} un um h = record {
    low = h.low;
    seen = λ k o. let e = back 2 j k un o in rw e (h.seen k (rw e at o));
    under = λ k o. let e = back 5 j k um o in rw e (h.under k (rw e at o));
    proof = λ k o. let e = back 5 j k um o in let w = h.proof k (rw e at o) in rw e (w.0, certificate w.1);
    told = λ k i o u s. let e = back 2 j k un o in let f = back 5 j i um u in rw (e, f) (h.told k i (rw e at o) (rw f at u) (rw (e, f) at s));
  }
