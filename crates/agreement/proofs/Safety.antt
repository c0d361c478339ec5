-- Each change keeps the invariant that safety rests on; so every reached state is safe.
--     sound_opened, sound_change     the invariant holds at the start, and is kept
--     safe                           what it gives
--     reached_safe                   of every reached state
use Rattle.std.proofs.Common.{◌≡◌, ℕ, zero, suc, true, ◌≢◌, List, get_or, set, Some, None, sym, refl, ap, ◌∙◌, subst, inl, inr, arith}
use Rattle.std.proofs.lemmas.List.{get_or-set_same, get_or-set_other, length-set}
use Rattle.std.proofs.lemmas.Bool.{cases_eq, both_ways, le-ltb}
use Rattle.sets.specs.Sets.{has}
use Rattle.mail.specs.declared.message.Message.{Message}
use Rattle.mail.specs.Messages.{posted, silence, kind_report, kind_prepared, kind_committed}
use Rattle.protocol.specs.declared.row.Row.{Row}
use Rattle.protocol.specs.declared.row.Decision.{Decision}
use Rattle.protocol.specs.declared.moves.Plan.{Plan}
use Rattle.protocol.specs.Rows.{blank_row, new_row}
use Rattle.protocol.specs.Settings.{Setting, State, Runs, row, mail, put, send}
use Rattle.protocol.specs.Plans.{wish, report, offer, vote}
use Rattle.protocol.specs.Calls.{made}
use Rattle.protocol.specs.Protocol.{Room, Takes, Can, Fits, Step, Change, Opened, Reached}
use Rattle.protocol.specs.Protocol.Takes.{heard, reported, offered, prepared, committed}
use Rattle.protocol.specs.Protocol.Can.{relay, take_up, propose, vote as cast, lock, decide}
use Rattle.protocol.specs.Protocol.Step.{takes, makes}
use Rattle.protocol.specs.Protocol.Change.{stepped, expired, posted as foreign}
use Rattle.protocol.specs.Protocol.Reached.{start, after}
use Rattle.agreement.specs.Promise.{Of, QuorumSent, Safe}
use Rattle.agreement.proofs.Invariant.{Fair, Held, Local, Sound}
use Rattle.agreement.proofs.Kept as kept
use Rattle.agreement.proofs.Kept.{Adds}
use Rattle.agreement.proofs.Casting as casting
use Rattle.agreement.proofs.Reports.{each_set, each_none}
use Rattle.agreement.proofs.Shared as shared
use Rattle.agreement.proofs.Backing.{backing_certificate, backing_quorum}

pub safe : (S : Setting) → Fair S → (s : State) → Sound S s → Safe S s
safe S fair s ok = record {
  agreed = λ i j d e hi hj di ej. shared.same_quorums S fair (mail S s) (row s) ok.each d.view d.value e.view e.value ((ok.each i hi).decides d di) ((ok.each j hj).decides e ej);
  valid = λ i d hi di. shared.valid_quorum S fair (mail S s) (row s) ok.each d.view d.value ((ok.each i hi).decides d di);
  one = shared.one_value S fair (mail S s) (row s) ok.each;
  later = shared.later_value S fair (mail S s) (row s) ok.each;
}

-- row i changed, and perhaps a message of i posted
module _ (S : Setting) (s : State) (ok : Sound S s) (i : ℕ) (run : Runs S i) (r : Row) where
  changed : (M : ℕ → Message) → Local S M i r → ((j : ℕ) → Runs S j → j ≢ i → Local S M j (row s j)) → (j : ℕ) → Runs S j → Local S M j (get_or (set s.table i r) j blank_row)
  changed M this others j h = elim (cases_eq j i) [
    | inl e ↦ rw (e, get_or-set_same s.table i r blank_row (omega (arith, run.within, ok.rows))) this
    | inr ne ↦ rw (get_or-set_other s.table i j r blank_row ne) (others j h ne)
  ]

  put_sound : Local S (mail S s) i r → Sound S (put s i r)
  put_sound this = record { rows = rw (length-set s.table i r) ok.rows; each = changed (mail S s) this (λ j h ne. ok.each j h) }

  put_send_sound : (x : Message) → x.sender ≡ i → Room s → (Adds x (mail S s) (mail S (send s x)) → Local S (mail S (send s x)) i r) → Sound S (send (put s i r) x)
  put_send_sound x mine room this = record {
    rows = rw (length-set s.table i r) ok.rows;
    each = changed (mail S (send s x)) (this add) (λ j h ne. casting.same S add j (row s j) (other 2 j ne) (other 4 j ne) (other 5 j ne) (ok.each j h));
  }
    where
      add : Adds x (mail S s) (mail S (send s x))
      add = kept.posts S.rule.size s.post s.count x room

      other : (c j : ℕ) → j ≢ i → Of c j x → ⊥
      other c j ne o = ne (sym o.sender_is ∙ mine)

-- a message posted that counts for no run process
send_sound : (S : Setting) (s : State) → Sound S s → (x : Message) → Room s → ((j : ℕ) → Runs S j → (Of kind_report j x → ⊥) × (Of kind_prepared j x → ⊥) × (Of kind_committed j x → ⊥)) → Sound S (send s x)
send_sound S s ok x room none = record {
  rows = ok.rows;
  each = λ j h. let y = none j h in casting.same S (kept.posts S.rule.size s.post s.count x room) j (row s j) y.0 y.1 y.2 (ok.each j h);
}

pub nothing : (n : ℕ) (post : List Message) (k : ℕ) → posted n post 0 k ≡ silence
unfolding posted
nothing n post zero = refl
nothing n post (suc k) = rw (le-ltb k 0 (omega arith))

fresh : (S : Setting) (M : ℕ → Message) → ((k : ℕ) → M k ≡ silence) → (j own : ℕ) → Local S M j (new_row own)
fresh S M none j own = record {
  votes = record { low = λ k o. absurd (void 3 k o); now = λ k o s. absurd (void 3 k o); once = λ k l o u s. absurd (void 3 k o); safe = λ k o. absurd (void 3 k o) };
  locks = record { low = omega arith; seen = λ k o. absurd (void 1 k o); under = λ k o. absurd (void 4 k o); proof = λ k o. absurd (void 4 k o); told = λ k l o u s. absurd (void 1 k o) };
  holds = record { offer = λ nz. absurd (nz refl); votes = each_none S.rule.size M (Held kind_prepared 0); locks = each_none S.rule.size M (Held kind_committed 0) };
  decides = λ d e. absurd (let z : ◌≡◌ {A = ℕ} 0 1 = cc in omega arith);
}
  where
    void : (c k : ℕ) → Of (suc c) j (M k) → ⊥
    void c k o = omega (arith, o.kind_is, ap (λ (x : Message). x.kind) (none k))

pub sound_opened : (S : Setting) (s : State) → Opened S s → Sound S s
sound_opened S s o = record {
  rows = o.rows;
  each = λ j h. let f = o.fresh j h.within in rw f.1 (fresh S (mail S s) (λ k. rw o.none (nothing S.rule.size s.post k)) j f.0);
}

not_of : (c j : ℕ) (x : Message) → x.kind ≢ c → Of c j x → ⊥
not_of c j x ne o = ne o.kind_is

module _ (S : Setting) (fair : Fair S) (s : State) (ok : Sound S s) (i : ℕ) (run : Runs S i) (h : Local S (mail S s) i (row s i)) where
  abbrev r : Row
  r = row s i

  taken_sound : (k : ℕ) (r' : Row) → Takes S (mail S s) i r k r' → Sound S (put s i r')
  taken_sound k r' (heard is up) = put_sound S s ok i run _ (record { votes = h.votes; locks = h.locks; holds = h.holds; decides = h.decides })
  taken_sound k r' (reported l z rep) = put_sound S s ok i run _ (record { votes = h.votes; locks = h.locks; holds = h.holds; decides = h.decides })
  taken_sound k r' (offered is at z p) = put_sound S s ok i run _ (record {
    votes = h.votes;
    locks = h.locks;
    decides = h.decides;
    holds = record { offer = λ nz. (is, p, at); votes = h.holds.votes; locks = h.holds.locks };
  })
  taken_sound k r' (prepared is at z) = put_sound S s ok i run _ (record {
    votes = h.votes;
    locks = h.locks;
    decides = h.decides;
    holds = record {
      offer = h.holds.offer;
      locks = h.holds.locks;
      votes = each_set S.rule.size (mail S s) r.ballot.prepared (Held kind_prepared r.ballot.view) (mail S s k).sender k h.holds.votes (record { kind_is = is; sender_is = refl }, at);
    };
  })
  taken_sound k r' (committed is at z) = put_sound S s ok i run _ (record {
    votes = h.votes;
    locks = h.locks;
    decides = h.decides;
    holds = record {
      offer = h.holds.offer;
      votes = h.holds.votes;
      locks = each_set S.rule.size (mail S s) r.ballot.committed (Held kind_committed r.ballot.view) (mail S s k).sender k h.holds.locks (record { kind_is = is; sender_is = refl }, at);
    };
  })

  -- a message of i that is neither a report nor a vote
  plain : (x : Message) (r' : Row) → x.sender ≡ i → x.kind ≢ kind_report → x.kind ≢ kind_prepared → x.kind ≢ kind_committed → Room s → Local S (mail S s) i r' → Sound S (send (put s i r') x)
  plain x r' mine two four five room this = put_send_sound S s ok i run r' x mine room (λ add. casting.same S add i r' (not_of kind_report i x two) (not_of kind_prepared i x four) (not_of kind_committed i x five) this)

  some≢none : (x : Message) → Some x ≢ None
  some≢none x e = let z : ◌≡◌ {A = ℕ} 0 1 = cc in omega arith

  made_sound : (p : Plan) → Can S.rule (mail S s) i r p → Fits s i r p → Sound S (made S s i r p)
  made_sound p (relay w hope up) fits =
      plain (wish i w) _ refl (omega arith) (omega arith) (omega arith) (fits (some≢none (wish i w))) (record { votes = h.votes; locks = h.locks; holds = h.holds; decides = h.decides })
  made_sound p (take_up w hope settles up) fits =
      put_send_sound S s ok i run _ (report i w r.lock) refl (fits (some≢none (report i w r.lock))) (λ add. record {
        votes = casting.entering up (kept.votes S add (not_of kind_prepared i (report i w r.lock) (omega arith)) h.votes);
        locks = casting.reporting S i add refl refl refl up h.locks;
        holds = record {
          offer = λ nz. absurd (nz refl);
          votes = each_none S.rule.size (mail S (send s (report i w r.lock))) (Held kind_prepared w);
          locks = each_none S.rule.size (mail S (send s (report i w r.lock))) (Held kind_committed w);
        };
        decides = kept.decides S add h.decides;
      })
  made_sound p (propose a lead un q ch) fits =
      plain (offer i r.ballot.view a r.ballot.reports) _ refl (omega arith) (omega arith) (omega arith) (fits (some≢none (offer i r.ballot.view a r.ballot.reports)))
      (record { votes = h.votes; locks = h.locks; holds = h.holds; decides = h.decides })
  made_sound p (cast is some) fits =
      let a = (mail S s r.ballot.proposal).value in
      let o = h.holds.offer some in
      put_send_sound S s ok i run _ (vote kind_prepared i r.ballot.view a) refl (fits (some≢none (vote kind_prepared i r.ballot.view a))) (λ add. record {
        votes = casting.voting S i add r.ballot.proposal o.0 o.1 o.2 refl (rw is at h.votes);
        locks = kept.locks S add (not_of kind_report i (vote kind_prepared i r.ballot.view a) (omega arith)) (not_of kind_committed i (vote kind_prepared i r.ballot.view a) (omega arith)) h.locks;
        holds = kept.holds S add h.holds;
        decides = kept.decides S add h.decides;
      })
  made_sound p (lock is q) fits =
      put_send_sound S s ok i run _ (vote kind_committed i r.ballot.view r.ballot.voted) refl (fits (some≢none (vote kind_committed i r.ballot.view r.ballot.voted))) (λ add. record {
        votes = casting.past_vote (kept.votes S add (not_of kind_prepared i (vote kind_committed i r.ballot.view r.ballot.voted) (omega arith)) h.votes);
        locks = casting.locking S i add (backing_certificate S fair.laws (mail S s) r.ballot.prepared r.ballot.voted r.ballot.view q h.holds.votes) h.locks;
        holds = kept.holds S add h.holds;
        decides = kept.decides S add h.decides;
      })
  made_sound p (decide is un q) fits = put_sound S s ok i run _ (record {
    votes = h.votes;
    locks = h.locks;
    holds = h.holds;
    decides = λ d e. subst (λ (x : Decision). QuorumSent S.rule (mail S s) kind_committed x.view x.value) (decision_is d e)
        (backing_quorum S fair.laws (mail S s) r.ballot.committed r.ballot.voted r.ballot.view kind_committed q h.holds.locks);
  })
    where
      decision_is : (d : Decision) → Some (record { view = r.ballot.view; value = r.ballot.voted }) ≡ Some d → record { view = r.ballot.view; value = r.ballot.voted } ≡ d
      decision_is d e = cc

  step_sound : (t : State) → Step S s i t → Sound S t
  step_sound t (takes {r = q} k w) = taken_sound k q w
  step_sound t (makes p c fits) = made_sound p c fits

pub sound_change : (S : Setting) → Fair S → (s t : State) → Sound S s → Change S s t → Sound S t
sound_change S fair s t ok (stepped i run st) = step_sound S fair s ok i run (ok.each i run) t st
sound_change S fair s t ok (expired i run w hope more room) =
    send_sound S s ok _ room (λ j u. ((λ o. omega (arith, o.kind_is)), (λ o. omega (arith, o.kind_is)), (λ o. omega (arith, o.kind_is))))
sound_change S fair s t ok (foreign x low is fine room) = send_sound S s ok x room (λ j u. (alien j u 2, alien j u 4, alien j u 5))
  where
    alien : (j : ℕ) → Runs S j → (c : ℕ) → Of c j x → ⊥
    alien j u c o = both_ways (has S.foreign j) u.native (subst (λ (y : ℕ). has S.foreign y ≡ true) o.sender_is is)

pub sound : (S : Setting) → Fair S → {s : State} → Reached S s → Sound S s
sound S fair (start {s} o) = sound_opened S s o
sound S fair (after {s} {t} r c) = sound_change S fair s t (sound S fair r) c

pub reached_safe : (S : Setting) → Fair S → (s : State) → Reached S s → Safe S s
reached_safe S fair s r = safe S fair s (sound S fair r)
