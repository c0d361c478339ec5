-- The first possible move, by the definition, is the first that the protocol allows. The rule is lawful.
--     Right o          the plan o is the lowest possible move, or there is none
--     plan_right       so it is of the definition's plan
--     can_same         moves of one number are equal
--     first_planned    the lowest possible move is the definition's
use Rattle.std.proofs.Common.{◌≡◌, ℕ, ◌<◌, ◌≤◌, Bool, true, false, cond, not, ◌&&◌, eqb, ltb, Some, None, Option, sym, refl, ap, ◌∙◌, subst, inl, inr, arith}
use Rattle.std.proofs.lemmas.Bool.{and_parts, and_from, eqb-true, eqb-false, eq-eqb, ne_eqb, ltb-true, lt-ltb, not-true, not_from_false, cases_lt, both_ways, cond_both}
use Rattle.sets.specs.Rules.{Rule, Lawful}
use Rattle.quorum.specs.Firsts.{fault_if}
use Rattle.quorum.specs.Wishes.{hopeful, settled}
use Rattle.quorum.proofs.Highs.{views_are}
use Rattle.mail.specs.declared.message.Message.{Message}
use Rattle.mail.specs.Messages.{held, cited}
use Rattle.mail.specs.Leaders.{leads}
use Rattle.protocol.specs.declared.row.Row.{Row}
use Rattle.protocol.specs.declared.row.Decision.{Decision}
use Rattle.protocol.specs.declared.row.Phase.{Phase}
use Rattle.protocol.specs.declared.row.Phase.TheVariants.{Fresh, Voted, Locked}
use Rattle.protocol.specs.declared.moves.Plan.{Plan}
use Rattle.protocol.specs.declared.moves.Plan.TheVariants.{Relay, TakeUp, Propose, Vote, Lock, Decide}
use Rattle.protocol.specs.Numbers.{move_number}
use Rattle.protocol.specs.Plans.{backers, choice, vote_plan, plan, move_of}
use Rattle.protocol.specs.Protocol.{Hopeful, Settled, Can, relay, take_up, propose, vote, lock, decide}
use Rattle.mail.proofs.Judged.{leads_is}
use Rattle.agreement.proofs.Choices.{highest_same, chosen_same, choice_chosen}

fault_some : (b : Bool) (p q : Plan) → fault_if b p ≡ Some q → (b ≡ true) × (p ≡ q)
fault_some true p q h = (refl, cc)
fault_some false p q h = let z : ◌≡◌ {A = ℕ} 0 1 = cc in absurd (omega arith)

module _ (m : Rule) (laws : Lawful m) (M : ℕ → Message) (i : ℕ) (r : Row) where
  abbrev number : Plan → ℕ
  number p = move_number (move_of p)

  abbrev hope : ℕ
  hope = hopeful m r.wishes

  abbrev sure : ℕ
  sure = settled m r.wishes

  pub hope_is : Hopeful m r.wishes hope
  hope_is = (views_are m laws).hopeful_is r.wishes

  sure_is : Settled m r.wishes sure
  sure_is = (views_are m laws).settled_is r.wishes

  abbrev may_relay : Bool
  may_relay = ltb r.relayed hope

  abbrev may_take : Bool
  may_take = eqb sure hope && ltb r.ballot.view sure

  abbrev may_propose : Bool
  may_propose = leads m.size r.ballot.view i && (not r.ballot.proposed && m.quorum (cited r.ballot.reports))

  abbrev voting : Option Plan
  voting = vote_plan m M r.ballot r.ballot.phase r.decision

  -- the one possible move of each number
  abbrev only : ℕ → Plan
  only n = cond (eqb n 1) (Relay hope) (cond (eqb n 2) (TakeUp sure) (cond (eqb n 3) (Propose (choice m.size M r.ballot.reports r.own))
      (cond (eqb n 4) (Vote (M r.ballot.proposal).value) (cond (eqb n 5) Lock Decide))))

  can_only : (p : Plan) → Can m M i r p → p ≡ only (number p)
  can_only _ (relay w h l) = ap (λ (x : ℕ). Relay x) (highest_same _ w hope h hope_is)
  can_only _ (take_up w h t l) = ap (λ (x : ℕ). TakeUp x) (highest_same _ w sure t sure_is)
  can_only _ (propose a l n q c) = ap (λ (x : ℕ). Propose x) (chosen_same m.size M r.ballot.reports r.own a _ c (choice_chosen m.size M r.ballot.reports r.own))
  can_only _ (vote p h) = refl
  can_only _ (lock p q) = refl
  can_only _ (decide p d q) = refl

  pub can_same : (p q : Plan) → Can m M i r p → Can m M i r q → number p ≡ number q → p ≡ q
  can_same p q a b e = can_only p a ∙ ap (λ (n : ℕ). only n) e ∙ sym (can_only q b)

  -- a move below n is possible only if its test passes
  low : (n : ℕ) → n ≤ 4 → (1 < n → may_relay ≡ false) → (2 < n → may_take ≡ false) → (3 < n → may_propose ≡ false) → (q : Plan) → Can m M i r q → n ≤ number q
  low n le a b c _ (relay w h l) = elim (cases_lt 1 n) [
    | inl k ↦ absurd (both_ways may_relay (a k) (lt-ltb r.relayed hope (let e = highest_same _ w hope h hope_is in omega arith)))
    | inr g ↦ g
  ]
  low n le a b c _ (take_up w h t l) = elim (cases_lt 2 n) [
    | inl k ↦
        let e = highest_same _ w hope h hope_is in
        let f = highest_same _ w sure t sure_is in
        absurd (both_ways may_take (b k) (and_from _ _ (eq-eqb sure hope (sym f ∙ e)) (lt-ltb r.ballot.view sure (omega arith))))
    | inr g ↦ g
  ]
  low n le a b c _ (propose x l p q d) = elim (cases_lt 3 n) [
    | inl k ↦ absurd (both_ways may_propose (c k) (and_from _ _ ((leads_is m.size r.ballot.view i).1 l) (and_from _ _ (not_from_false r.ballot.proposed p) q)))
    | inr g ↦ g
  ]
  low n le a b c _ (vote p h) = le
  low n le a b c _ (lock p q) = omega arith
  low n le a b c _ (decide p d q) = omega arith

  -- moves 4 to 6
  can_voting : (p : Plan) → Can m M i r p → 4 ≤ number p → voting ≡ Some p
  can_voting _ (relay w h l) g = absurd (omega arith)
  can_voting _ (take_up w h t l) g = absurd (omega arith)
  can_voting _ (propose x l p q d) g = absurd (omega arith)
  can_voting _ (vote p h) g = rw (p, ne_eqb r.ballot.proposal 0 h)
  can_voting _ (lock p q) g = rw (p, q)
  can_voting _ (decide p d q) g = rw (p, d, q)

  voting_can : (ph : Phase) (d : Option Decision) (p : Plan) → r.ballot.phase ≡ ph → r.decision ≡ d → vote_plan m M r.ballot ph d ≡ Some p → Can m M i r p
  voting_can Fresh d p e f h =
      let b = fault_some (held r.ballot.proposal) _ p h in
      subst (Can m M i r) b.1 (vote e (eqb-false r.ballot.proposal 0 (not-true (eqb r.ballot.proposal 0) b.0)))
  voting_can Voted d p e f h =
      let b = fault_some (m.quorum (backers M r.ballot.prepared r.ballot.voted)) _ p h in
      subst (Can m M i r) b.1 (lock e b.0)
  voting_can Locked (Some d) p e f h = let z : ◌≡◌ {A = ℕ} 0 1 = cc in absurd (omega arith)
  voting_can Locked None p e f h =
      let b = fault_some (m.quorum (backers M r.ballot.committed r.ballot.voted)) _ p h in
      subst (Can m M i r) b.1 (decide e f b.0)

  abbrev pub Right : Option Plan → Type 0
  Right None = (p : Plan) → Can m M i r p → ⊥
  Right (Some p) = Can m M i r p × ((q : Plan) → Can m M i r q → number p ≤ number q)

  voting_right : may_relay ≡ false → may_take ≡ false → may_propose ≡ false → (o : Option Plan) → voting ≡ o → Right o
  voting_right a b c None e = λ p can. let s = can_voting p can (low 4 (omega arith) (λ _. a) (λ _. b) (λ _. c) p can) in let z : ◌≡◌ {A = ℕ} 0 1 = cc in omega arith
  voting_right a b c (Some p) e = (
    voting_can r.ballot.phase r.decision p refl refl e,
    (λ q can. let s = can_voting q can (low 4 (omega arith) (λ _. a) (λ _. b) (λ _. c) q can) in let same : p ≡ q = cc in rw same (omega arith)),
  )

  pub plan_right : Right (plan m M i r)
  unfolding plan
  plan_right =
      cond_both may_relay _ _ Right
      (λ t. (relay hope hope_is (ltb-true r.relayed hope t), low 1 (omega arith) (λ l. absurd (omega arith)) (λ l. absurd (omega arith)) (λ l. absurd (omega arith))))
      (λ a. cond_both may_take _ _ Right
      (λ t.
      let b = and_parts (eqb sure hope) (ltb r.ballot.view sure) t in (
        take_up sure (subst (Hopeful m r.wishes) (sym (eqb-true sure hope b.0)) hope_is) sure_is (ltb-true r.ballot.view sure b.1),
        low 2 (omega arith) (λ _. a) (λ l. absurd (omega arith)) (λ l. absurd (omega arith)),
      ))
      (λ b. cond_both may_propose _ _ Right
      (λ t.
      let x = and_parts (leads m.size r.ballot.view i) _ t in
      let y = and_parts (not r.ballot.proposed) (m.quorum (cited r.ballot.reports)) x.1 in (
        propose (choice m.size M r.ballot.reports r.own) ((leads_is m.size r.ballot.view i).0 x.0) (not-true r.ballot.proposed y.0) y.1 (choice_chosen m.size M r.ballot.reports r.own),
        low 3 (omega arith) (λ _. a) (λ _. b) (λ l. absurd (omega arith)),
      ))
      (λ c. voting_right a b c voting refl)))

  pub first_planned : (p : Plan) → Can m M i r p → ((q : Plan) → Can m M i r q → number p ≤ number q) → plan m M i r ≡ Some p
  first_planned p can least = go (plan m M i r) plan_right
    where
      go : (o : Option Plan) → Right o → o ≡ Some p
      go None h = absurd (h p can)
      go (Some q) h = let a = least q h.0 in let b = h.1 p can in ap (λ (x : Plan). Some x) (can_same q p h.0 can (omega arith))
