-- Agreement, from the invariant: two quorums share a run process. M is what each place reads as.
--     cited_there                  a cited process has a place that is not 0
--     shared                       two quorums share a run process
--     one_value                    two certificates of one view name one value
--     proposed                     behind a certificate stands a safe proposal
--     certified                    behind a quorum of COMMITTED stands a certificate
--     later_value                  every later certificate names the value of a quorum of COMMITTED
--     same_quorums, valid_quorum   all quorums of COMMITTED name one value, and it is valid
use Rattle.std.proofs.Common.{◌≡◌, ℕ, zero, suc, ◌<◌, ◌≤◌, true, ◌||◌, eqb, ◌≢◌, List, Some, None, sym, refl, ap, ◌∙◌, subst, ⊎_elim, arith}
use Rattle.std.proofs.lemmas.Bool.{eqb-false, eq-eqb, not-true, cond-true, or_right, cases_order, cases_lt}
use Rattle.sets.specs.Sets.{has}
use Rattle.mail.specs.declared.message.Message.{Message}
use Rattle.mail.specs.Messages.{place_at, held, cited, kind_propose, kind_committed}
use Rattle.mail.specs.Leaders.{leader_of}
use Rattle.mail.specs.Trust.{Vote, Certificate, Proposal}
use Rattle.protocol.specs.declared.row.Row.{Row}
use Rattle.protocol.specs.Settings.{Setting, Runs}
use Rattle.agreement.specs.Promise.{Of, QuorumSent}
use Rattle.agreement.proofs.Invariant.{Fair, Local}
use Rattle.agreement.proofs.Backing.{place_tallied}

pub cited_there : (ps : List ℕ) (j : ℕ) → j < 32 → has (cited ps) j ≡ true → place_at ps j ≢ 0
cited_there ps j h e = eqb-false (place_at ps j) 0 (not-true (eqb (place_at ps j) 0) (sym (place_tallied held refl ps j h) ∙ e))

vote_of : {c j v a : ℕ} {x : Message} → Vote c j v a x → Of c j x
vote_of w = record { kind_is = w.kind_is; sender_is = w.sender_is }

-- view 0 has no leader
pub led : (n v j : ℕ) → leader_of n v ≡ Some j → v ≢ 0
led n v j e z =
    let f : leader_of n v ≡ None = cond-true (eqb n 0 || eqb v 0) None _ (or_right (eqb n 0) (eqb v 0) (eq-eqb v 0 z)) in
    let y : ◌≡◌ {A = ℕ} 0 1 = cc in omega arith

module _ (S : Setting) (fair : Fair S) (M : ℕ → Message) (rows : ℕ → Row) (ok : (j : ℕ) → Runs S j → Local S M j (rows j)) where
  small : (j : ℕ) → j < S.rule.size → j < 32
  small j h = omega (arith, fair.laws.few)

  -- two quorums share a run process
  pub shared : (p q : ℕ) → S.rule.quorum p ≡ true → S.rule.quorum q ≡ true → (j : ℕ) × Runs S j × (has p j ≡ true) × (has q j ≡ true)
  shared p q hp hq =
      let w = fair.laws.meet p q S.foreign hp hq fair.few in
      (w.0, record { within = w.1; native = w.4 }, w.2, w.3)

  -- two certificates of one view name one value
  pub one_value : (C D : List ℕ) (v a b : ℕ) → Certificate S.rule M C v a → Certificate S.rule M D v b → a ≡ b
  one_value C D v a b c d =
      let w = shared (cited C) (cited D) c.quorum d.quorum in
      let j = w.0 in
      let h = w.1.within in
      let x = c.each j h (cited_there C j (small j h) w.2) in
      let y = d.each j h (cited_there D j (small j h) w.3) in
      let e = (ok j w.1).votes.once _ _ (vote_of x) (vote_of y) (x.view_is ∙ sym y.view_is) in
      sym x.value_is ∙ e ∙ y.value_is

  -- behind a certificate stands a safe proposal
  pub proposed : (C : List ℕ) (v a : ℕ) → Certificate S.rule M C v a → (p : ℕ) × ((M p).kind ≡ kind_propose) × Proposal S.rule M S.valid (M p) × ((M p).view ≡ v) × ((M p).value ≡ a)
  proposed C v a c =
      let w = shared (cited C) (cited C) c.quorum c.quorum in
      let j = w.0 in
      let h = w.1.within in
      let x = c.each j h (cited_there C j (small j h) w.2) in
      let p = (ok j w.1).votes.safe _ (vote_of x) in
      (p.0, p.1, p.2, p.3 ∙ x.view_is, p.4 ∙ x.value_is)

  moved : {C : List ℕ} {v w a b : ℕ} → v ≡ w → a ≡ b → Certificate S.rule M C v a → Certificate S.rule M C w b
  moved {C} {v} {w} {a} {b} e f c = subst (λ (x : ℕ). Certificate S.rule M C w x) f (subst (λ (x : ℕ). Certificate S.rule M C x a) e c)

  -- behind a quorum of COMMITTED stands a certificate
  pub certified : (v a : ℕ) → QuorumSent S.rule M kind_committed v a → (C : List ℕ) × Certificate S.rule M C v a
  certified v a q =
      let w = shared q.members q.members q.quorum q.quorum in
      let j = w.0 in
      let x = q.each j w.1.within w.2 in
      let c = (ok j w.1).locks.proof _ (vote_of x.1) in
      (c.0, moved x.1.view_is x.1.value_is c.1)

  positive : (C : List ℕ) (v a : ℕ) → Certificate S.rule M C v a → v ≢ 0
  positive C v a c z = let p = proposed C v a c in led S.rule.size (M p.0).view (M p.0).sender p.2.leads (p.3 ∙ z)

  -- a safe proposal cites a report locked at least at a committed view
  reported : (v a : ℕ) (q : QuorumSent S.rule M kind_committed v a) (x : Message) (p : Proposal S.rule M S.valid x) → v < x.view →
      (j : ℕ) × (j < S.rule.size) × (place_at x.citations j ≢ 0) × (v ≤ (M (place_at x.citations j)).locked)
  reported v a q x p later =
      let t = shared (cited x.citations) q.members p.quorum q.quorum in
      let h = t.1.within in
      let here = cited_there x.citations t.0 (small t.0 h) t.2 in
      let rep = p.each t.0 h here in
      let sent = q.each t.0 h t.3 in
      let e = sent.1.view_is in
      let told = (ok t.0 t.1).locks.told _ _ (record { kind_is = rep.kind_is; sender_is = rep.sender_is }) (vote_of sent.1) (omega (arith, rep.view_is, e)) in
      (t.0, h, here, omega (arith, told, e))

  -- the value of a safe proposal, where every certificate between is of the committed value
  chosen : (v a w b n : ℕ) (q : QuorumSent S.rule M kind_committed v a) → ((u y : ℕ) (E : List ℕ) → u < n → v < u → Certificate S.rule M E u y → y ≡ a) →
      (x : Message) → Proposal S.rule M S.valid x → x.view ≡ w → x.value ≡ b → w < suc n → v < w → b ≡ a
  chosen v a w b n q ih x p ew eb less later =
      let t = reported v a q x p (omega arith) in
      let c = certified v a q in
      let nz = positive c.0 v a c.1 in
      let top = p.highest t.0 t.1 t.2 (omega (arith, t.3)) in
      let best = p.each top.from top.within top.there in
      let r = M (place_at x.citations top.from) in
      let high : v ≤ r.locked = omega (arith, t.3, top.most t.0 t.1 t.2) in
      let cert = best.lock.proof (omega arith) in
      let same : r.value ≡ a =
      ⊎_elim (λ (l : v < r.locked). ih r.locked r.value r.citations (omega (arith, best.lock.below, best.view_is)) l cert)
      (λ (g : r.locked ≤ v). let e : r.locked ≡ v = omega arith in one_value r.citations c.0 v r.value a (moved e refl cert) c.1)
      (cases_lt v r.locked) in
      sym eb ∙ sym top.value_is ∙ same

  -- by induction on a bound of the later view
  bounded : (v a : ℕ) → QuorumSent S.rule M kind_committed v a → (n w b : ℕ) (D : List ℕ) → w < n → v < w → Certificate S.rule M D w b → b ≡ a
  bounded v a q zero w b D less later d = absurd (omega arith)
  bounded v a q (suc n) w b D less later d =
      let p = proposed D w b d in
      chosen v a w b n q (λ u y E. bounded v a q n u y E) (M p.0) p.2 p.3 p.4 less later

  pub later_value : (v a w b : ℕ) (D : List ℕ) → QuorumSent S.rule M kind_committed v a → v < w → Certificate S.rule M D w b → b ≡ a
  later_value v a w b D q l d = bounded v a q (suc w) w b D (omega arith) l d

  pub same_quorums : (v a w b : ℕ) → QuorumSent S.rule M kind_committed v a → QuorumSent S.rule M kind_committed w b → a ≡ b
  same_quorums v a w b p q =
      let c = certified v a p in
      let d = certified w b q in
      ⊎_elim (λ (e : v ≡ w). one_value c.0 d.0 w a b (moved e refl c.1) d.1)
      (⊎_elim (λ (l : v < w). sym (later_value v a w b d.0 p l d.1)) (λ (g : w < v). later_value w b v a c.0 q g c.1))
      (cases_order v w)

  pub valid_quorum : (v a : ℕ) → QuorumSent S.rule M kind_committed v a → S.valid a ≡ true
  valid_quorum v a q =
      let c = certified v a q in
      let p = proposed c.0 v a c.1 in
      sym (ap S.valid p.4) ∙ p.2.valued
