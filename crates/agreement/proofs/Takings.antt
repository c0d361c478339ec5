-- A delivery is granted exactly when the protocol lets the process take the message. Assumes nothing.
--     judged               the judging over what a committee's places read as
--     takes_taken          no fault: the process may take the message
--     taken_takes          it may: no fault, and the row after is that of the definition
--     delivers_is          a delivery is answered exactly when the protocol allows it
--     delivered_is         the state after it
--     deliver_way          a delivery makes a change, or is refused
use Rattle.std.proofs.Common.{◌≡◌, ℕ, zero, suc, ◌≤◌, Bool, true, false, cond, not, ◌&&◌, eqb, ltb, leb, ◌≢◌, List, get_or, None, Ok, Option, sym, refl, ap, ◌∙◌, subst, inl, inr, arith}
use Rattle.std.specs.Option.{option_map}
use Rattle.std.proofs.lemmas.Bool.{and_parts, ltb-true, ltb-false, lt-ltb, le-ltb, leb-true, eqb-true, eqb-false, eq-eqb, ne_eqb, cases_eq}
use Rattle.quorum.specs.Firsts.{fault_if, first}
use Rattle.quorum.proofs.Found.{both_none, none_both, faultless, holds_then}
use Rattle.mail.specs.declared.message.Message.{Message}
use Rattle.mail.specs.Messages.{place_at, blank, silence, proper, posted, kind_wish, kind_committed}
use Rattle.mail.specs.Leaders.{leads}
use Rattle.mail.specs.Judging.{report_fault, proposal_fault}
use Rattle.mail.specs.Trust.{Exactly, Judging}
use Rattle.mail.proofs.Judged.{judging, leads_is, mapped_none}
use Rattle.protocol.specs.declared.row.Row.{Row}
use Rattle.protocol.specs.declared.refusal.Refusal.{Refusal}
use Rattle.protocol.specs.declared.refusal.Refusal.TheVariants.{NoMessage, Held, NotLeader, InReport, InProposal}
use Rattle.protocol.specs.Rows.{hears, with_ballot, holds_report, holds_proposal, holds_prepared, holds_committed}
use Rattle.protocol.specs.Settings.{Setting, State, Runs, row, mail, put}
use Rattle.protocol.specs.Calls.{lent_fault, run_fault, timely, vacant, by_kind, taking_fault, taken, deliver}
use Rattle.protocol.specs.Protocol.{Takes, heard, reported, offered, prepared, committed, takes, stepped}
use Rattle.agreement.specs.Exactness.{Lent}
use Rattle.agreement.proofs.Granted.{Way, four, granted, granted_state, ways, no_fault, lent_is, run_is}

-- a place has no kind above the fifth
few_kinds : (n : ℕ) (post : List Message) (c k : ℕ) → (posted n post c k).kind ≤ kind_committed
unfolding posted
few_kinds n post c zero = omega arith
few_kinds n post c (suc k) = go (ltb k c) (proper n (get_or post k blank)) refl
  where
    go : (a b : Bool) → b ≡ proper n (get_or post k blank) → (cond (a && b) (get_or post k blank) silence).kind ≤ kind_committed
    go true true e =
        let x = get_or post k blank in
        let p = and_parts (ltb x.sender n) (leb kind_wish x.kind && leb x.kind kind_committed) (sym e) in
        leb-true x.kind kind_committed (and_parts (leb kind_wish x.kind) (leb x.kind kind_committed) p.1).1
    go true false e = omega arith
    go false b e = omega arith

pub judged : (S : Setting) (s : State) → Judging S.rule S.valid (mail S s)
unfolding posted
judged S s = judging S.rule (mail S s) refl S.valid

five_kinds : {P : Type 0} (c : ℕ) → c ≢ 0 → c ≤ 5 → (c ≡ 1 → P) → (c ≡ 2 → P) → (c ≡ 3 → P) → (c ≡ 4 → P) → (c ≡ 5 → P) → P
five_kinds c ne le p1 p2 p3 p4 p5 = elim (cases_eq c 1) [
  | inl e ↦ p1 e
  | inr a ↦ elim (cases_eq c 2) [
    | inl e ↦ p2 e
    | inr b ↦ elim (cases_eq c 3) [
      | inl e ↦ p3 e
      | inr d ↦ elim (cases_eq c 4) [
        | inl e ↦ p4 e
        | inr f ↦ p5 (omega arith)
      ]
    ]
  ]
]

kind_at : {A : Type 0} (c n : ℕ) (a b d e f : A) → c ≡ n → by_kind c a b d e f ≡ by_kind n a b d e f
kind_at c n a b d e f h = rw h

timely_is : (r : Row) (x : Message) (k : ℕ) → Exactly (timely r x k ≡ None) (x.view ≡ r.ballot.view)
timely_is r x k =
    let v = r.ballot.view in (
      (λ h.
          let b = both_none (fault_if (ltb x.view v) _) (fault_if (ltb v x.view) _) h in
          let lo = ltb-false x.view v (faultless (ltb x.view v) _ b.0) in
          let hi = ltb-false v x.view (faultless (ltb v x.view) _ b.1) in omega arith),
      (λ h. none_both _ _ (no_fault (ltb x.view v) _ (le-ltb x.view v (omega arith))) (no_fault (ltb v x.view) _ (le-ltb v x.view (omega arith)))),
    )

vacant_is : (p k : ℕ) → Exactly (vacant p k ≡ None) (p ≡ 0)
vacant_is p k = ((λ h. eqb-true p 0 ((holds_then (eqb p 0) _).0 h)), (λ h. (holds_then (eqb p 0) _).1 (eq-eqb p 0 h)))

module _ (S : Setting) (M : ℕ → Message) (i : ℕ) (r : Row) (k : ℕ) (right : Judging S.rule S.valid M) where
  abbrev wish_fault : Option Refusal
  wish_fault = fault_if (not (ltb (place_at r.wishes (M k).sender) (M k).view)) (Held k)

  abbrev reporting_fault : Option Refusal
  reporting_fault = first (timely r (M k) k) (first (fault_if (not (leads S.rule.size r.ballot.view i)) (NotLeader k)) (first (vacant (place_at r.ballot.reports (M k).sender) k) (option_map InReport (report_fault S.rule M (M k) k))))

  abbrev offering_fault : Option Refusal
  offering_fault = first (timely r (M k) k) (first (vacant r.ballot.proposal k) (option_map InProposal (proposal_fault S.rule S.valid M (M k) k)))

  abbrev prepared_fault : Option Refusal
  prepared_fault = first (timely r (M k) k) (vacant (place_at r.ballot.prepared (M k).sender) k)

  abbrev committed_fault : Option Refusal
  committed_fault = first (timely r (M k) k) (vacant (place_at r.ballot.committed (M k).sender) k)

  fault_at : (n : ℕ) → (M k).kind ≡ n → taking_fault S M i r k ≡ by_kind n wish_fault reporting_fault offering_fault prepared_fault committed_fault
  unfolding taking_fault
  fault_at n e = kind_at (M k).kind n _ _ _ _ _ e

  taken_at : (n : ℕ) → (M k).kind ≡ n →
      taken M r k ≡ by_kind n (hears r (M k).sender (M k).view) (with_ballot r (holds_report r.ballot (M k).sender k)) (with_ballot r (holds_proposal r.ballot k))
      (with_ballot r (holds_prepared r.ballot (M k).sender k)) (with_ballot r (holds_committed r.ballot (M k).sender k))
  taken_at n e = kind_at (M k).kind n _ _ _ _ _ e

  takes_taken : (M k).kind ≢ 0 → (M k).kind ≤ kind_committed → taking_fault S M i r k ≡ None → Takes S M i r k (taken M r k)
  takes_taken ne le h =
      let land : (r' : Row) → taken M r k ≡ r' → Takes S M i r k r' → Takes S M i r k (taken M r k) = (λ r' e t. subst (Takes S M i r k) (sym e) t) in
      five_kinds (M k).kind ne le
      (λ e. land _ (taken_at 1 e) (heard e (ltb-true (place_at r.wishes (M k).sender) (M k).view ((holds_then (ltb (place_at r.wishes (M k).sender) (M k).view) _).0 (sym (fault_at 1 e) ∙ h)))))
      (λ e.
      let a = both_none (timely r (M k) k) _ (sym (fault_at 2 e) ∙ h) in
      let b = both_none (fault_if (not (leads S.rule.size r.ballot.view i)) _) _ a.1 in
      let c = both_none (vacant (place_at r.ballot.reports (M k).sender) k) _ b.1 in
      land _ (taken_at 2 e) (reported ((leads_is S.rule.size r.ballot.view i).0 ((holds_then (leads S.rule.size r.ballot.view i) _).0 b.0))
      ((vacant_is (place_at r.ballot.reports (M k).sender) k).0 c.0)
      (record { kind_is = e; sender_is = refl; view_is = (timely_is r (M k) k).0 a.0; lock = (right.reports (M k) k).0 ((mapped_none _ (report_fault S.rule M (M k) k)).0 c.1) })))
      (λ e.
      let a = both_none (timely r (M k) k) _ (sym (fault_at 3 e) ∙ h) in
      let b = both_none (vacant r.ballot.proposal k) _ a.1 in
      land _ (taken_at 3 e) (offered e ((timely_is r (M k) k).0 a.0) ((vacant_is r.ballot.proposal k).0 b.0) ((right.proposals (M k) k).0 ((mapped_none _ (proposal_fault S.rule S.valid M (M k) k)).0 b.1))))
      (λ e.
      let a = both_none (timely r (M k) k) _ (sym (fault_at 4 e) ∙ h) in
      land _ (taken_at 4 e) (prepared e ((timely_is r (M k) k).0 a.0) ((vacant_is (place_at r.ballot.prepared (M k).sender) k).0 a.1)))
      (λ e.
      let a = both_none (timely r (M k) k) _ (sym (fault_at 5 e) ∙ h) in
      land _ (taken_at 5 e) (committed e ((timely_is r (M k) k).0 a.0) ((vacant_is (place_at r.ballot.committed (M k).sender) k).0 a.1)))

  taken_takes : {r' : Row} → Takes S M i r k r' → ((M k).kind ≢ 0) × (taking_fault S M i r k ≡ None) × (taken M r k ≡ r')
  taken_takes (heard e l) = ((λ z. omega arith), fault_at 1 e ∙ (holds_then (ltb (place_at r.wishes (M k).sender) (M k).view) _).1 (lt-ltb (place_at r.wishes (M k).sender) (M k).view l), taken_at 1 e)
  taken_takes (reported l v h) =
      let e = h.kind_is in (
        (λ z. omega arith),
        fault_at 2 e ∙ none_both _ _ ((timely_is r (M k) k).1 h.view_is)
            (none_both _ _ ((holds_then (leads S.rule.size r.ballot.view i) _).1 ((leads_is S.rule.size r.ballot.view i).1 l))
            (none_both _ _ ((vacant_is (place_at r.ballot.reports (M k).sender) k).1 v) ((mapped_none _ (report_fault S.rule M (M k) k)).1 ((right.reports (M k) k).1 h.lock)))),
        taken_at 2 e,
      )
  taken_takes (offered e w v h) = (
    (λ z. omega arith),
    fault_at 3 e ∙ none_both _ _ ((timely_is r (M k) k).1 w) (none_both _ _ ((vacant_is r.ballot.proposal k).1 v) ((mapped_none _ (proposal_fault S.rule S.valid M (M k) k)).1 ((right.proposals (M k) k).1 h))),
    taken_at 3 e,
  )
  taken_takes (prepared e w v) = ((λ z. omega arith), fault_at 4 e ∙ none_both _ _ ((timely_is r (M k) k).1 w) ((vacant_is (place_at r.ballot.prepared (M k).sender) k).1 v), taken_at 4 e)
  taken_takes (committed e w v) = ((λ z. omega arith), fault_at 5 e ∙ none_both _ _ ((timely_is r (M k) k).1 w) ((vacant_is (place_at r.ballot.committed (M k).sender) k).1 v), taken_at 5 e)

module _ (S : Setting) (s : State) (i k : ℕ) where
  abbrev some_fault : Option Refusal
  some_fault = fault_if (eqb (mail S s k).kind 0) NoMessage

  abbrev deliver_fault : Option Refusal
  deliver_fault = first (lent_fault S s) (first (run_fault S i) (first some_fault (taking_fault S (mail S s) i (row s i) k)))

  delivery : Exactly (deliver_fault ≡ None) (Lent S s × Runs S i × ((mail S s k).kind ≢ 0) × (taking_fault S (mail S s) i (row s i) k ≡ None))
  delivery =
      four (lent_fault S s) (run_fault S i) some_fault (taking_fault S (mail S s) i (row s i) k) (lent_is S s) (run_is S i)
      ((λ h. eqb-false (mail S s k).kind 0 (faultless (eqb (mail S s k).kind 0) _ h)), (λ h. no_fault (eqb (mail S s k).kind 0) _ (ne_eqb (mail S s k).kind 0 h)))
      ((λ h. h), (λ h. h))

  delivery_takes : deliver_fault ≡ None → Takes S (mail S s) i (row s i) k (taken (mail S s) (row s i) k)
  delivery_takes h = let b = delivery.0 h in takes_taken S (mail S s) i (row s i) k (judged S s) b.2 (few_kinds S.rule.size s.post s.count k) b.3

  takes_delivery : (r : Row) → Lent S s → Runs S i → Takes S (mail S s) i (row s i) k r → (deliver_fault ≡ None) × (taken (mail S s) (row s i) k ≡ r)
  takes_delivery r l u t = let b = taken_takes S (mail S s) i (row s i) k (judged S s) t in (delivery.1 (l, u, b.0, b.1), b.2)

  pub delivers_is : Exactly ((deliver S s i k).answer ≡ Ok tt) (Lent S s × Runs S i × ((r : Row) × Takes S (mail S s) i (row s i) k r))
  unfolding deliver
  delivers_is =
      let g = granted s deliver_fault tt tt (put s i (taken (mail S s) (row s i) k)) in (
        (λ h. let n = (g.0 h).0 in let b = delivery.0 n in (b.0, b.1, (taken (mail S s) (row s i) k, delivery_takes n))),
        (λ h. g.1 ((takes_delivery h.2.0 h.0 h.1 h.2.1).0, refl)),
      )

  pub delivered_is : (r : Row) → Lent S s → Runs S i → Takes S (mail S s) i (row s i) k r → (deliver S s i k).state ≡ put s i r
  unfolding deliver
  delivered_is r l u t = let b = takes_delivery r l u t in granted_state s deliver_fault tt (put s i (taken (mail S s) (row s i) k)) b.0 ∙ ap (λ (x : Row). put s i x) b.1

  pub deliver_way : Way S s (deliver S s i k)
  unfolding deliver
  deliver_way = ways s S _ _ _ (λ h. stepped i (delivery.0 h).1 (takes k (delivery_takes h)))
