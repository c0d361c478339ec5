-- What a process has done where it holds all that was sent and no move is possible: one milestone each.
-- e is the state at the end of the turn of process i in a sweep, in a committee at work in view v.
--     chosen         there is a value to propose
--     lead_view      a view with a leader is not 0
--     run_quorum     a set with all run processes is a quorum
--     relays_it      1: it has wished for v
--     enters_it      2: it is in v
--     proposes_it    3: as v's leader, it has proposed
--     votes_it       4: it is past the fresh phase
--     locks_it       5: it is past the voted phase
--     decides_it     6: it has a decision
use Rattle.std.proofs.Common.{◌≡◌, ℕ, zero, suc, ◌-◌, ◌%◌, ◌<◌, ◌≤◌, true, not, ◌||◌, eqb, leb, ◌≢◌, List, length, Some, None, Option, sym, refl, ap, ◌∙◌, subst, inl, inr, arith}
use Rattle.std.proofs.lemmas.Bool.{cases_eq, cases_lt, cases_Bool, le-leb, eq-eqb, ne_eqb, and_from, or_right, not-true, not_from_false, cond-true}
use Rattle.sets.specs.Sets.{has, others}
use Rattle.sets.specs.Rules.{Blocking}
use Rattle.sets.proofs.Members.{has_sift}
use Rattle.sets.proofs.Grounded.{grounded}
use Rattle.quorum.specs.Wishes.{wishing, hopeful}
use Rattle.mail.specs.declared.message.Message.{Message}
use Rattle.mail.specs.Messages.{place_at, held, has_value, cited, kind_wish, kind_propose, kind_prepared}
use Rattle.mail.specs.Leaders.{leader_of}
use Rattle.mail.specs.Trust.{Certificate, Proposal}
use Rattle.protocol.specs.declared.row.Phase.TheVariants.{Fresh, Voted, Locked}
use Rattle.protocol.specs.declared.moves.Plan.{Plan}
use Rattle.protocol.specs.Settings.{Setting, State, Runs, row, mail}
use Rattle.protocol.specs.Plans.{backs, backers}
use Rattle.protocol.specs.Protocol.{Hopeful, Settled, Chosen, Can}
use Rattle.protocol.specs.Protocol.Chosen.{free, bound}
use Rattle.protocol.specs.Protocol.Can.{relay, take_up, propose, vote, lock, decide}
use Rattle.agreement.specs.Promise.{Of, Sent}
use Rattle.agreement.specs.Exactness.{Accepts}
use Rattle.agreement.proofs.Invariant.{Fair, Vivid}
use Rattle.agreement.proofs.Shared.{one_value}
use Rattle.agreement.proofs.Lively.{vivid}
use Rattle.agreement.proofs.Ahead.{Sized}
use Rattle.agreement.proofs.Calm.{tallied_from, sizes, block_low, view_low}
use Rattle.agreement.proofs.Quiet.{Going}

chosen : (n : ℕ) (M : ℕ → Message) (ps : List ℕ) (own : ℕ) → (a : ℕ) × Chosen n M ps own a
chosen zero M ps own = (own, free (λ j h. absurd (omega arith)) refl)
chosen (suc n) M ps own = let c = chosen n M ps own in more c.0 c.1
  where
    more : (a : ℕ) → Chosen n M ps own a → (b : ℕ) × Chosen (suc n) M ps own b
    more a (free none e) = elim (cases_eq (M (place_at ps n)).locked 0) [
      | inl z ↦ (a, free (λ j h. elim (cases_lt j n) [ inl l ↦ none j l | inr g ↦ let q : j ≡ n = omega arith in rw q z ]) e)
      | inr nz ↦ (
        (M (place_at ps n)).value,
        bound n (omega arith) nz
            (λ l h. elim (cases_lt l n) [ inl k ↦ omega (arith, none l k) | inr g ↦ let q : l ≡ n = omega arith in rw q (omega arith) ])
            (λ l h q. nz (sym q ∙ none l h)) refl,
      )
    ]
    more a (bound j h nz most first e) = elim (cases_lt (M (place_at ps j)).locked (M (place_at ps n)).locked) [
      | inl up ↦ (
        (M (place_at ps n)).value,
        bound n (omega arith) (λ z. omega (arith, up, z))
            (λ l k. elim (cases_lt l n) [ inl b ↦ omega (arith, most l b, up) | inr g ↦ let q : l ≡ n = omega arith in rw q (omega arith) ])
            (λ l k q. omega (arith, most l k, up, q)) refl,
      )
      | inr low ↦ (
        a,
        bound j (omega arith) nz
            (λ l k. elim (cases_lt l n) [ inl b ↦ most l b | inr g ↦ let q : l ≡ n = omega arith in rw q low ]) first e,
      )
    ]

pub lead_view : (n v l : ℕ) → leader_of n v ≡ Some l → v ≢ 0
lead_view n v l e z =
    let h : ◌≡◌ {A = Option ℕ} None (Some l) = sym (cond-true (eqb n 0 || eqb v 0) None (Some ((v - 1) % n)) (or_right (eqb n 0) (eqb v 0) (eq-eqb v 0 z))) ∙ e in
    let y : ◌≡◌ {A = ℕ} 0 1 = cc in omega arith

module _ (S : Setting) (fair : Fair S) where
  run_quorum : (p : ℕ) → ((j : ℕ) → Runs S j → has p j ≡ true) → S.rule.quorum p ≡ true
  run_quorum p all = fair.laws.more (others S.rule.size S.foreign) p (fair.laws.rest S.foreign fair.few)
      (λ j h m. all j (record { within = h; native = not-true (has S.foreign j) (sym (has_sift S.rule.size (λ n. not (has S.foreign n)) j h) ∙ m) }))

  module _ (v : ℕ) (e : State) (acc : Accepts S e) (ge : Going S v e) (i : ℕ) (run : Runs S i) (idle : (p : Plan) → Can S.rule (mail S e) i (row e i) p → ⊥) where
    alive : Vivid S e
    alive = vivid S fair ge.reached

    sized : Sized S.rule.size (row e i)
    sized = sizes S fair.laws.few ge.reached i run.within

    small : {j : ℕ} → j < S.rule.size → j < 32
    small h = omega (arith, h, fair.laws.few)

    -- where a quorum is heard to wish for v, v is hoped for
    hope_high : (p : ℕ) → S.rule.quorum p ≡ true → ((j : ℕ) → j < S.rule.size → has p j ≡ true → v ≤ place_at (row e i).wishes j) →
        (S.rule.quorum (wishing (row e i).wishes v) ≡ true) × (v ≤ hopeful S.rule (row e i).wishes)
    hope_high p q all =
        let wq = fair.laws.more p (wishing (row e i).wishes v) q (λ j h m. tallied_from (leb v) (row e i).wishes j (small h) (omega (arith, h, sized.wishes)) (le-leb v (place_at (row e i).wishes j) (all j h m))) in (
          wq,
          elim (cases_lt (hopeful S.rule (row e i).wishes) v) [
            | inl l ↦ absurd ((acc.hopes (row e i).wishes).above v l ((grounded S.rule fair.laws).blocks _ wq))
            | inr g ↦ g
          ],
        )

    pub relays_it : v ≢ 0 → (p : ℕ) → S.rule.quorum p ≡ true → ((j : ℕ) → j < S.rule.size → has p j ≡ true → v ≤ place_at (row e i).wishes j) → Sent (mail S e) kind_wish i v
    relays_it nv p q all =
        let hv = (hope_high p q all).1 in
        let up : hopeful S.rule (row e i).wishes ≤ (row e i).relayed = elim (cases_lt (row e i).relayed (hopeful S.rule (row e i).wishes)) [
          | inl l ↦ absurd (idle _ (relay (hopeful S.rule (row e i).wishes) (acc.hopes (row e i).wishes) l))
          | inr g ↦ g
        ] in
        let sent = (alive.each i run).wishing.relay (omega (arith, hv, up)) in
        let low = ge.calm i run sent.0 sent.1 in
        (sent.0, sent.1, omega (arith, low, sent.2, hv, up))

    pub enters_it : v ≢ 0 → ((j : ℕ) → Runs S j → v ≤ place_at (row e i).wishes j) → (row e i).ballot.view ≡ v
    enters_it nv all =
        let wq : S.rule.quorum (wishing (row e i).wishes v) ≡ true = run_quorum (wishing (row e i).wishes v)
        (λ j h. tallied_from (leb v) (row e i).wishes j (small h.within) (omega (arith, h.within, sized.wishes)) (le-leb v (place_at (row e i).wishes j) (all j h))) in
        let bl = (grounded S.rule fair.laws).blocks (wishing (row e i).wishes v) wq in
        let hope : Hopeful S.rule (row e i).wishes v = record { here = λ l. bl; above = high } in
        let settle : Settled S.rule (row e i).wishes v = record { here = λ l. wq; above = λ w l q. high w l ((grounded S.rule fair.laws).blocks _ q) } in
        let vl = view_low S fair v e alive ge.calm i run in
        elim (cases_lt (row e i).ballot.view v) [ inl l ↦ absurd (idle _ (take_up v hope settle l)) | inr g ↦ omega (arith, g, vl) ]
      where
        high : (w : ℕ) → v < w → Blocking S.rule (wishing (row e i).wishes w) → ⊥
        high w l b = let y = block_low S fair v e alive ge.calm i run w (omega arith) b in omega (arith, y)

    cites : (ps : List ℕ) (j : ℕ) → S.rule.size ≤ length ps → j < S.rule.size → place_at ps j ≢ 0 → has (cited ps) j ≡ true
    cites ps j b h nz = tallied_from held ps j (small h) (omega arith) (not_from_false (eqb (place_at ps j) 0) (ne_eqb (place_at ps j) 0 nz))

    pub proposes_it : leader_of S.rule.size (row e i).ballot.view ≡ Some i → ((j : ℕ) → Runs S j → place_at (row e i).ballot.reports j ≢ 0) → (row e i).ballot.proposed ≡ true
    proposes_it lead all = elim (cases_Bool (row e i).ballot.proposed) [
      | inl t ↦ t
      | inr n ↦
          let c = chosen S.rule.size (mail S e) (row e i).ballot.reports (row e i).own in
          absurd (idle _ (propose c.0 lead n (run_quorum (cited (row e i).ballot.reports) (λ j h. cites (row e i).ballot.reports j sized.reports h.within (all j h))) c.1))
    ]

    pub votes_it : (row e i).ballot.proposal ≢ 0 → (row e i).ballot.phase ≢ Fresh
    votes_it nz fresh = idle _ (vote fresh nz)

    -- where the box of each run process has a message with this value, the backers are a quorum
    all_back : (box : List ℕ) (a : ℕ) → S.rule.size ≤ length box → ((j : ℕ) → Runs S j → (place_at box j ≢ 0) × ((mail S e (place_at box j)).value ≡ a)) → S.rule.quorum (backers (mail S e) box a) ≡ true
    all_back box a b all = run_quorum (backers (mail S e) box a) (λ j h.
        let y = all j h in
        tallied_from (backs (mail S e) a) box j (small h.within) (omega (arith, h.within))
        (and_from (held (place_at box j)) (has_value a (mail S e (place_at box j))) (not_from_false (eqb (place_at box j) 0) (ne_eqb (place_at box j) 0 y.0)) (eq-eqb (mail S e (place_at box j)).value a y.1)))

    -- two votes of run processes in v are for one value, since its leader is run
    module _ (n : ℕ) (rn : Runs S n) (lead : leader_of S.rule.size v ≡ Some n) where
      by_leader : (p : ℕ) → (mail S e p).kind ≡ kind_propose → Proposal S.rule (mail S e) S.valid (mail S e p) → (mail S e p).view ≡ v → Of kind_propose n (mail S e p)
      by_leader p is pr pv =
          let l : Some (mail S e p).sender ≡ Some n = sym pr.leads ∙ ap (leader_of S.rule.size) pv ∙ lead in
          record { kind_is = is; sender_is = cc }

      same_votes : (j k p q : ℕ) → Runs S j → Runs S k → Of kind_prepared j (mail S e p) → Of kind_prepared k (mail S e q) → (mail S e p).view ≡ v → (mail S e q).view ≡ v → (mail S e p).value ≡ (mail S e q).value
      same_votes j k p q rj rk oj ok pv qv =
          let a = (alive.sound.each j rj).votes.safe p oj in
          let b = (alive.sound.each k rk).votes.safe q ok in
          let c = (alive.each n rn).proposing.once a.0 b.0 (by_leader a.0 a.1 a.2 (a.3 ∙ pv)) (by_leader b.0 b.1 b.2 (b.3 ∙ qv)) (a.3 ∙ pv ∙ sym (b.3 ∙ qv)) in
          sym a.4 ∙ c ∙ b.4

      pub locks_it : (row e i).ballot.view ≡ v → ((j : ℕ) → Runs S j → place_at (row e i).ballot.prepared j ≢ 0) → (row e i).ballot.phase ≢ Fresh → (row e i).ballot.phase ≢ Voted
      locks_it ev all nf is =
          let mine = (alive.each i run).doing.voted nf in
          idle _ (lock is (all_back (row e i).ballot.prepared (row e i).ballot.voted sized.prepared (λ j h.
          let nz = all j h in
          let y = (alive.sound.each i run).holds.votes j h.within nz in
          (nz, same_votes j i (place_at (row e i).ballot.prepared j) mine.0 h run y.0 (record { kind_is = mine.1.kind_is; sender_is = mine.1.sender_is }) (y.1 ∙ ev) (mine.1.view_is ∙ ev) ∙ mine.1.value_is))))

    pub decides_it : ((j : ℕ) → Runs S j → place_at (row e i).ballot.committed j ≢ 0) → (row e i).ballot.phase ≡ Locked → (row e i).decision ≢ None
    decides_it all is none =
        let mine = (alive.each i run).doing.locked is in
        let c = (alive.sound.each i run).locks.proof mine.0 (record { kind_is = mine.1.kind_is; sender_is = mine.1.sender_is }) in
        idle _ (decide is none (all_back (row e i).ballot.committed (row e i).ballot.voted sized.committed (λ j h.
        let nz = all j h in
        let y = (alive.sound.each i run).holds.locks j h.within nz in
        let d = (alive.sound.each j h).locks.proof (place_at (row e i).ballot.committed j) y.0 in
        let vv : (mail S e (place_at (row e i).ballot.committed j)).view ≡ (mail S e mine.0).view = y.1 ∙ sym mine.1.view_is in (
          nz,
          one_value S fair (mail S e) (row e) alive.sound.each d.0 c.0 (mail S e mine.0).view (mail S e (place_at (row e i).ballot.committed j)).value (mail S e mine.0).value
              (subst (λ (w : ℕ). Certificate S.rule (mail S e) d.0 w (mail S e (place_at (row e i).ballot.committed j)).value) vv d.1) c.1 ∙ mine.1.value_is,
        ))))
