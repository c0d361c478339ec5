-- Each change keeps the invariant that progress rests on. Assumes nothing.
--     Mine n i o     the message o, if it is one, is of process i below n and may stand in a post
--     mine           each move's is
--     mails_sent     what is sent stands at its place
--     newborn        a process before anything
--     vivid          what progress rests on holds of every reached state
use Rattle.std.proofs.Common.{◌≡◌, ℕ, suc, ◌<◌, true, ◌≢◌, List, length, get_or, set, Some, None, Option, sym, refl, ap, ◌∙◌, subst, inl, inr, arith}
use Rattle.std.proofs.lemmas.List.{get_or-set_same, get_or-set_other}
use Rattle.std.proofs.lemmas.Bool.{cases_eq, lt-ltb, both_ways}
use Rattle.sets.specs.Sets.{has}
use Rattle.mail.specs.declared.message.Message.{Message}
use Rattle.mail.specs.Messages.{silence, proper, kind_report, kind_propose}
use Rattle.mail.specs.Trust.{Report}
use Rattle.protocol.specs.declared.row.Row.{Row}
use Rattle.protocol.specs.declared.moves.Plan.{Plan}
use Rattle.protocol.specs.declared.moves.Plan.TheVariants.{Relay, TakeUp, Propose, Vote, Lock, Decide}
use Rattle.protocol.specs.Rows.{new_row, blank_row}
use Rattle.protocol.specs.Settings.{Setting, State, Runs, row, mail, put}
use Rattle.protocol.specs.Plans.{planned, sends}
use Rattle.protocol.specs.Calls.{sent}
use Rattle.protocol.specs.Protocol.{Room, Step, Change, Reached}
use Rattle.protocol.specs.Protocol.Step.{takes, makes}
use Rattle.protocol.specs.Protocol.Change.{stepped, expired, posted as strange}
use Rattle.protocol.specs.Protocol.Reached.{start, after}
use Rattle.agreement.specs.Promise.{Of}
use Rattle.agreement.proofs.Invariant.{Fair, Alive, Vivid}
use Rattle.agreement.proofs.Kept.{posts, posted_there}
use Rattle.agreement.proofs.Safety.{sound_opened, sound_change}
use Rattle.agreement.proofs.Places.{posted_locked, posted_none, sent_table}
use Rattle.agreement.proofs.Reports.{alive, zeros, each_none}
use Rattle.agreement.proofs.Doings.{Mails, alive_taken, alive_made}

abbrev Mine : ℕ → ℕ → Option Message → Type 0
Mine n i None = Unit {0}
Mine n i (Some x) = (x.sender ≡ i) × (proper n x ≡ true)

mine : (n i : ℕ) (r : Row) → i < n → (p : Plan) → Mine n i (sends i r p)
mine n i r h (Relay w) = (refl, rw (lt-ltb i n h))
mine n i r h (TakeUp w) = (refl, rw (lt-ltb i n h))
mine n i r h (Propose a) = (refl, rw (lt-ltb i n h))
mine n i r h (Vote a) = (refl, rw (lt-ltb i n h))
mine n i r h Lock = (refl, rw (lt-ltb i n h))
mine n i r h Decide = tt

mails_sent : (S : Setting) (s : State) (i : ℕ) (o : Option Message) → Mine S.rule.size i o → (o ≢ None → Room s) → Mails o (mail S s) (mail S (sent s o)) (suc s.count)
mails_sent S s i None own fits = refl
mails_sent S s i (Some x) own fits = (posts S.rule.size s.post s.count x room, posted_there S.rule.size s.post s.count x room own.1)
  where
    room : Room s
    room = fits (λ e. let z : ◌≡◌ {A = ℕ} 0 1 = cc in omega arith)

-- of another process
others : (S : Setting) (M M' : ℕ → Message) (i k : ℕ) (o : Option Message) → Mine S.rule.size i o → Mails o M M' k → (j : ℕ) → j ≢ i → (r : Row) → Alive S M j r → Alive S M' j r
others S M M' i k None own same j ne r h = subst (λ (N : ℕ → Message). Alive S N j r) same h
others S M M' i k (Some x) own add j ne r h = alive S add.0 j r (λ u. ne (sym u.sender_is ∙ own.0)) (λ u. ne (sym u.sender_is ∙ own.0)) h

-- row i changed
changed : (S : Setting) (table : List Row) (M : ℕ → Message) (i : ℕ) (r : Row) → i < length table → Alive S M i r → ((j : ℕ) → Runs S j → j ≢ i → Alive S M j (get_or table j blank_row)) →
    (j : ℕ) → Runs S j → Alive S M j (get_or (set table i r) j blank_row)
changed S table M i r l this rest j h = elim (cases_eq j i) [
  | inl e ↦ rw (e, get_or-set_same table i r blank_row l) this
  | inr ne ↦ rw (get_or-set_other table i j r blank_row ne) (rest j h ne)
]

vivid_step : (S : Setting) → Fair S → (s t : State) → Vivid S s → (i : ℕ) → Runs S i → Step S s i t → (j : ℕ) → Runs S j → Alive S (mail S t) j (row t j)
vivid_step S fair s t ok i run (takes {r} k h) j u =
    changed S s.table (mail S s) i r (omega (arith, run.within, ok.sound.rows)) (alive_taken S fair.laws (mail S s) i (row s i) k r h (ok.each i run)) (λ n v ne. ok.each n v) j u
vivid_step S fair s t ok i run (makes p can fits) j u =
    let r = planned S.rule.size (mail S s) (row s i) p in
    let o = sends i (row s i) p in
    let own = mine S.rule.size i (row s i) run.within p in
    let M' = mail S (sent (put s i r) o) in
    let w = mails_sent S (put s i r) i o own fits in
    subst (λ (l : List Row). Alive S M' j (get_or l j blank_row)) (sym (sent_table S (put s i r) o))
    (changed S s.table M' i r (omega (arith, run.within, ok.sound.rows))
    (alive_made S fair (mail S s) M' (row s) ok.sound.each (posted_locked S.rule.size s.post s.count) i (row s i) (ok.sound.each i run) (ok.each i run) (suc s.count) p can w)
    (λ n v ne. others S (mail S s) M' i (suc s.count) o own w n ne (row s n) (ok.each n v)) j u)

vivid_change : (S : Setting) → Fair S → (s t : State) → Vivid S s → Change S s t → (j : ℕ) → Runs S j → Alive S (mail S t) j (row t j)
vivid_change S fair s t ok (stepped i run step) j h = vivid_step S fair s t ok i run step j h
vivid_change S fair s t ok (expired i run w hope more room) j h =
    alive S (posts S.rule.size s.post s.count _ room) j (row s j) (λ o. omega (arith, o.kind_is)) (λ o. omega (arith, o.kind_is)) (ok.each j h)
vivid_change S fair s t ok (strange x within foreign form room) j h =
    alive S (posts S.rule.size s.post s.count x room) j (row s j) (alien kind_report) (alien kind_propose) (ok.each j h)
  where
    alien : (c : ℕ) → Of c j x → ⊥
    alien c o = both_ways (has S.foreign j) h.native (rw o.sender_is at foreign)

newborn : (S : Setting) (M : ℕ → Message) → ((k : ℕ) → M k ≡ silence) → (j own : ℕ) → S.valid own ≡ true → Alive S M j (new_row own)
newborn S M none j own v = record {
  wishing = record { relay = λ nz. absurd (nz refl); heard = λ i h nz. absurd (nz (zeros i)); entered = λ nz. absurd (nz refl); told = λ nz. absurd (nz refl) };
  reporting = record { cert = λ nz. absurd (nz refl); valid = λ k o. absurd (void 1 k o); box = each_none S.rule.size M (λ i. Report S.rule M i 0); mine = v };
  proposing = record {
    low = λ k o. absurd (void 2 k o);
    now = λ k o s. absurd (void 2 k o);
    once = λ k l o u s. absurd (void 2 k o);
    safe = λ k o. absurd (void 2 k o);
    did = λ e. absurd (both_ways true (sym e) refl);
  };
  doing = record { voted = λ ne. absurd (ne refl); locked = λ e. absurd (let z : ◌≡◌ {A = ℕ} 0 1 = cc in omega arith) };
}
  where
    void : (c k : ℕ) → Of (suc c) j (M k) → ⊥
    void c k o = omega (arith, o.kind_is, ap (λ (y : Message). y.kind) (none k))

pub vivid : (S : Setting) → Fair S → {s : State} → Reached S s → Vivid S s
vivid S fair (start {s} o) = record {
  sound = sound_opened S s o;
  each = λ j h.
      let f = o.fresh j h.within in
      subst (λ (r : Row). Alive S (mail S s) j r) (sym f.1) (newborn S (mail S s) (λ k. rw o.none (posted_none S.rule.size s.post k)) j f.0 (f.2 h.native));
}
vivid S fair (after {s} {t} r c) =
    let v = vivid S fair r in
    record { sound = sound_change S fair s t v.sound c; each = vivid_change S fair s t v c }
