-- The judging finds no fault exactly in certificates, in valid reports and in safe proposals. Place 0 reads as the zero message.
--     leads_is         who leads, by the test
--     mapped_none      no fault of a lower layer
--     judging          all three
use Rattle.std.proofs.Common.{◌≡◌, ℕ, ◌<◌, Bool, true, false, cond, not, ◌&&◌, eqb, ltb, ◌≢◌, List, Some, None, Option, sym, refl, ap, ◌∙◌, ⊎_elim, arith}
use Rattle.std.specs.Option.{option_map}
use Rattle.std.proofs.lemmas.Bool.{and_parts, and_from, eqb-true, eq-eqb, ne_eqb, ltb-true, lt-ltb, cases_eq, or_cases, or_left, or_right, false≢true}
use Rattle.sets.specs.Rules.{Rule}
use Rattle.quorum.specs.Firsts.{fault_if, first_below}
use Rattle.quorum.proofs.Found.{both_none, none_both, none_below, below_none, holds_then}
use Rattle.mail.specs.declared.message.Message.{Message}
use Rattle.mail.specs.Messages.{place_at, held, cited, silence, is_vote, is_report, kind_report, kind_prepared}
use Rattle.mail.specs.Leaders.{leader_of, leads}
use Rattle.mail.specs.Judging.{vote_fault, certificate_fault, report_fault, citation_fault, top_lock, carries, is_highest, proposal_fault}
use Rattle.mail.specs.Trust.{Vote, Certificate, ValidLock, Report, Carried, Proposal, Exactly, Judging}
use Rattle.mail.proofs.Locks.{top_most, top_at, carries_at, carries_from}

vote_is : (kind j v a : ℕ) (x : Message) → Exactly (is_vote kind j v a x ≡ true) (Vote kind j v a x)
vote_is kind j v a x = (
  (λ h.
      let p = and_parts (eqb x.kind kind) (eqb x.sender j && (eqb x.view v && eqb x.value a)) h in
      let q = and_parts (eqb x.sender j) (eqb x.view v && eqb x.value a) p.1 in
      let r = and_parts (eqb x.view v) (eqb x.value a) q.1 in
      record { kind_is = eqb-true x.kind kind p.0; sender_is = eqb-true x.sender j q.0; view_is = eqb-true x.view v r.0; value_is = eqb-true x.value a r.1 }),
  (λ h. rw (eq-eqb x.kind kind h.kind_is, eq-eqb x.sender j h.sender_is, eq-eqb x.view v h.view_is, eq-eqb x.value a h.value_is)),
)

leads_some : (o : Option ℕ) (j : ℕ) → Exactly (elim o [ None ↦ false | Some i ↦ eqb i j ] ≡ true) (o ≡ Some j)
leads_some None j = ((λ h. absurd (false≢true h)), (λ h. let z : ◌≡◌ {A = ℕ} 0 1 = cc in absurd (omega arith)))
leads_some (Some i) j = ((λ h. ap (λ (n : ℕ). Some n) (eqb-true i j h)), (λ h. eq-eqb i j (cc)))

pub leads_is : (n v j : ℕ) → Exactly (leads n v j ≡ true) (leader_of n v ≡ Some j)
leads_is n v j = leads_some (leader_of n v) j

-- a fault where a place is held, and what it asks of that place
held_then : {F : Type 0} (k : ℕ) (o : Option F) → Exactly (cond (held k) o None ≡ None) (k ≢ 0 → o ≡ None)
held_then k o = (
  (λ h ne. let e = ne_eqb k 0 ne in rw e at h),
  (λ h. ⊎_elim (λ (z : k ≡ 0). rw (eq-eqb k 0 z)) (λ (ne : k ≢ 0). rw (ne_eqb k 0 ne) (h ne)) (cases_eq k 0)),
)

pub mapped_none : {E F : Type 0} (C : E → F) (o : Option E) → Exactly (option_map C o ≡ None) (o ≡ None)
mapped_none C None = ((λ _. refl), (λ _. refl))
mapped_none C (Some e) = ((λ h. let z : ◌≡◌ {A = ℕ} 0 1 = cc in absurd (omega arith)), (λ h. let z : ◌≡◌ {A = ℕ} 0 1 = cc in absurd (omega arith)))

module _ (m : Rule) (M : ℕ → Message) where
  certificates : (places : List ℕ) (v a k : ℕ) → Exactly (certificate_fault m M places v a k ≡ None) (Certificate m M places v a)
  unfolding certificate_fault
  certificates places v a k = (
    (λ h.
        let b = both_none (fault_if (not (m.quorum (cited places))) _) (first_below (vote_fault M places v a k) m.size) h in
        record {
          quorum = (holds_then (m.quorum (cited places)) _).0 b.0;
          each = λ j l ne.
              let f = (held_then (place_at places j) _).0 (none_below (vote_fault M places v a k) m.size b.1 j l) ne in
              (vote_is kind_prepared j v a (M (place_at places j))).0 ((holds_then (is_vote kind_prepared j v a (M (place_at places j))) _).0 f);
        }),
    (λ h. none_both _ _ ((holds_then (m.quorum (cited places)) _).1 h.quorum)
        (below_none (vote_fault M places v a k) m.size
        (λ j l. (held_then (place_at places j) _).1 (λ ne. (holds_then (is_vote kind_prepared j v a (M (place_at places j))) _).1 ((vote_is kind_prepared j v a (M (place_at places j))).1 (h.each j l ne)))))),
  )

  reports : (x : Message) (k : ℕ) → Exactly (report_fault m M x k ≡ None) (ValidLock m M x)
  reports x k = (
    (λ h.
        let b = both_none (fault_if (not (ltb x.locked x.view)) _) _ h in
        record {
          below = ltb-true x.locked x.view ((holds_then (ltb x.locked x.view) _).0 b.0);
          proof = λ ne.
              let f = rw (ne_eqb x.locked 0 ne) at b.1 in
              (certificates x.citations x.locked x.value k).0 ((mapped_none _ (certificate_fault m M x.citations x.locked x.value k)).0 f);
        }),
    (λ h. none_both _ _ ((holds_then (ltb x.locked x.view) _).1 (lt-ltb x.locked x.view h.below))
        (⊎_elim (λ (z : x.locked ≡ 0). rw (eq-eqb x.locked 0 z))
        (λ (ne : x.locked ≢ 0). rw (ne_eqb x.locked 0 ne) ((mapped_none _ (certificate_fault m M x.citations x.locked x.value k)).1 ((certificates x.citations x.locked x.value k).1 (h.proof ne))))
        (cases_eq x.locked 0))),
  )

  report_is : (j v : ℕ) (x : Message) (k : ℕ) → Exactly ((is_report j v x ≡ true) × (report_fault m M x k ≡ None)) (Report m M j v x)
  report_is j v x k = (
    (λ h.
        let p = and_parts (eqb x.kind kind_report) (eqb x.sender j && eqb x.view v) h.0 in
        let q = and_parts (eqb x.sender j) (eqb x.view v) p.1 in
        record { kind_is = eqb-true x.kind kind_report p.0; sender_is = eqb-true x.sender j q.0; view_is = eqb-true x.view v q.1; lock = (reports x k).0 h.1 }),
    (λ h. (rw (eq-eqb x.kind kind_report h.kind_is, eq-eqb x.sender j h.sender_is, eq-eqb x.view v h.view_is), (reports x k).1 h.lock)),
  )

  citation_is : (x : Message) (k j : ℕ) → Exactly (citation_fault m M x k j ≡ None) (place_at x.citations j ≢ 0 → Report m M j x.view (M (place_at x.citations j)))
  citation_is x k j =
      let p = place_at x.citations j in
      let y = M (place_at x.citations j) in (
        (λ h ne.
            let b = both_none (fault_if (not (is_report j x.view y)) _) _ ((held_then p _).0 h ne) in
            (report_is j x.view y p).0 ((holds_then (is_report j x.view y) _).0 b.0, (mapped_none _ (report_fault m M y p)).0 b.1)),
        (λ h. (held_then p _).1 (λ ne.
            let r = (report_is j x.view y p).1 (h ne) in
            none_both _ _ ((holds_then (is_report j x.view y) _).1 r.0) ((mapped_none _ (report_fault m M y p)).1 r.1))),
      )

  module _ (zero_is : M 0 ≡ silence) where
    -- a place of a locked message is not 0
    locked_held : (k : ℕ) → (M k).locked ≢ 0 → k ≢ 0
    locked_held k ne z = ne (ap (λ (i : ℕ). (M i).locked) z ∙ ap (λ (y : Message). y.locked) zero_is)

    highest_is : (x : Message) → Exactly (is_highest m.size M x ≡ true) ((j : ℕ) → j < m.size → place_at x.citations j ≢ 0 → (M (place_at x.citations j)).locked ≢ 0 → Carried m M x.citations x.value)
    highest_is x =
        let ps = x.citations in
        let top = top_lock M ps m.size in (
          (λ h j l ne locked.
              let le = top_most M ps m.size j l in
              let some : top ≢ 0 = (λ z. locked (omega arith)) in
              ⊎_elim (λ (e : eqb top 0 ≡ true). absurd (some (eqb-true top 0 e)))
              (λ (e : carries M ps top x.value m.size ≡ true).
              let r = carries_at M ps top x.value m.size e in
              let y = M (place_at ps r.0) in
              let b = and_parts (eqb y.locked top) (eqb y.value x.value) r.2 in
              let is = eqb-true y.locked top b.0 in
              record {
                from = r.0;
                within = r.1;
                there = locked_held (place_at ps r.0) (λ z. some (sym is ∙ z));
                most = λ i k ni. let u = top_most M ps m.size i k in omega (arith, is);
                value_is = eqb-true y.value x.value b.1;
              })
              (or_cases (eqb top 0) (carries M ps top x.value m.size) h)),
          (λ h.
              ⊎_elim (λ (z : top ≡ 0). or_left (eqb top 0) (carries M ps top x.value m.size) (eq-eqb top 0 z))
              (λ (some : top ≢ 0).
              or_right (eqb top 0) (carries M ps top x.value m.size)
              (⊎_elim (λ (z : top ≡ 0). absurd (some z))
              (λ (r : (j : ℕ) × (j < m.size) × ((M (place_at ps j)).locked ≡ top)).
              let locked : (M (place_at ps r.0)).locked ≢ 0 = (λ z. some (sym r.2 ∙ z)) in
              let t = h r.0 r.1 (locked_held (place_at ps r.0) locked) locked in
              let up = t.most r.0 r.1 (locked_held (place_at ps r.0) locked) in
              let down = top_most M ps m.size t.from t.within in
              let same : (M (place_at ps t.from)).locked ≡ top = omega (arith, r.2) in
              carries_from M ps top x.value m.size t.from t.within (and_from _ _ (eq-eqb _ top same) (eq-eqb _ x.value t.value_is)))
              (top_at M ps m.size)))
              (cases_eq top 0)),
        )

    proposals : (valid : ℕ → Bool) (x : Message) (k : ℕ) → Exactly (proposal_fault m valid M x k ≡ None) (Proposal m M valid x)
    unfolding proposal_fault
    proposals valid x k =
        let led = leads m.size x.view x.sender in
        let few = m.quorum (cited x.citations) in (
          (λ h.
              let a = both_none (fault_if (not led) _) _ h in
              let b = both_none (fault_if (not (valid x.value)) _) _ a.1 in
              let c = both_none (fault_if (not few) _) _ b.1 in
              let d = both_none (first_below (citation_fault m M x k) m.size) _ c.1 in
              record {
                leads = (leads_is m.size x.view x.sender).0 ((holds_then led _).0 a.0);
                valued = (holds_then (valid x.value) _).0 b.0;
                quorum = (holds_then few _).0 c.0;
                each = λ j l ne. (citation_is x k j).0 (none_below (citation_fault m M x k) m.size d.0 j l) ne;
                highest = (highest_is x).0 ((holds_then (is_highest m.size M x) _).0 d.1);
              }),
          (λ h.
              none_both _ _ ((holds_then led _).1 ((leads_is m.size x.view x.sender).1 h.leads))
              (none_both _ _ ((holds_then (valid x.value) _).1 h.valued)
              (none_both _ _ ((holds_then few _).1 h.quorum)
              (none_both _ _ (below_none (citation_fault m M x k) m.size (λ j l. (citation_is x k j).1 (h.each j l)))
              ((holds_then (is_highest m.size M x) _).1 ((highest_is x).1 h.highest)))))),
        )

    pub judging : (valid : ℕ → Bool) → Judging m valid M
    judging valid = record { certificates = certificates; reports = reports; proposals = proposals valid }
