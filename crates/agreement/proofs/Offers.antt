-- What a process hears, reports and proposes. Assumes nothing.
--     hearing         a wish heard
--     own_report      a report of the lock that a process has is valid
--     safe_offer      what a leader proposes is safe
use Rattle.std.proofs.Common.{◌≡◌, ℕ, ◌<◌, ◌≤◌, true, leb, ◌≢◌, List, set, Some, sym, refl, ap, ◌∙◌, inl, inr, arith}
use Rattle.std.proofs.lemmas.Bool.{leb-true, le-leb, lt-leb, ne_eqb}
use Rattle.sets.specs.Rules.{Lawful}
use Rattle.quorum.specs.Wishes.{wishing}
use Rattle.mail.specs.declared.message.Message.{Message}
use Rattle.mail.specs.Messages.{place_at, cited, kind_wish}
use Rattle.mail.specs.Leaders.{leader_of}
use Rattle.mail.specs.Trust.{Certificate, Report, Carried, Proposal}
use Rattle.protocol.specs.declared.row.Row.{Row}
use Rattle.protocol.specs.declared.row.Lock.{Lock}
use Rattle.protocol.specs.Settings.{Setting, Runs}
use Rattle.protocol.specs.Plans.{report, offer}
use Rattle.protocol.specs.Protocol.{Chosen}
use Rattle.protocol.specs.Protocol.Chosen.{free, bound}
use Rattle.agreement.specs.Promise.{Of}
use Rattle.agreement.proofs.Invariant.{Fair, Each, Local, Wishing}
use Rattle.agreement.proofs.Backing.{place_tallied}
use Rattle.agreement.proofs.Shared.{proposed}
use Rattle.agreement.proofs.Ahead.{set_cases}

-- wishes grow
grown : (S : Setting) → Lawful S.rule → (ws vs : List ℕ) (v : ℕ) → v ≢ 0 → ((j : ℕ) → place_at ws j ≤ place_at vs j) →
    S.rule.quorum (wishing ws v) ≡ true → S.rule.quorum (wishing vs v) ≡ true
grown S laws ws vs v nz up q = laws.more (wishing ws v) (wishing vs v) q (λ j h m.
    let z = lt-leb v 0 (omega (arith, nz)) in
    let l = leb-true v (place_at ws j) (sym (place_tallied (leb v) z ws j (omega (arith, laws.few))) ∙ m) in
    place_tallied (leb v) z vs j (omega (arith, laws.few)) ∙ le-leb v (place_at vs j) (omega (arith, l, up j)))

pub hearing : (S : Setting) → Lawful S.rule → {M : ℕ → Message} {j r v : ℕ} (ws : List ℕ) → Wishing S M j r v ws → (k i : ℕ) → Of kind_wish i (M k) → place_at ws i < (M k).view →
    Wishing S M j r v (set ws i (M k).view)
hearing S laws {M} {v = v} ws h k i o up = record {
  relay = h.relay;
  heard = λ n l nz. elim (set_cases ws i (M k).view n 0) [
    | inl e ↦ rw e (h.heard n l (rw e at nz))
    | inr e ↦ rw (e.1, e.0) (k, o, refl)
  ];
  entered = λ nz. grown S laws ws (set ws i (M k).view) v nz
      (λ n. elim (set_cases ws i (M k).view n 0) [ inl e ↦ rw e (omega arith) | inr e ↦ rw (e.1, e.0) (omega arith) ]) (h.entered nz);
  told = h.told;
}

pub own_report : (S : Setting) (M : ℕ → Message) (i w : ℕ) (l : Lock) → l.view < w → (l.view ≢ 0 → Certificate S.rule M l.certificate l.view l.value) → Report S.rule M i w (report i w l)
own_report S M i w l less c = record { kind_is = refl; sender_is = refl; view_is = refl; lock = record { below = less; proof = λ nz. rw (ne_eqb l.view 0 nz) (c nz) } }

module _ (S : Setting) (fair : Fair S) (M : ℕ → Message) (rows : ℕ → Row) (ok : (j : ℕ) → Runs S j → Local S M j (rows j)) (some : (k : ℕ) → (M k).locked ≢ 0 → k ≢ 0)
    (v own a : ℕ) (ps : List ℕ) (box : Each S.rule.size M ps (λ i. Report S.rule M i v)) where
  carried : Chosen S.rule.size M ps own a → (j : ℕ) → j < S.rule.size → (M (place_at ps j)).locked ≢ 0 → Carried S.rule M ps a
  carried (free none e) j h nl = absurd (nl (none j h))
  carried (bound from within locked most low e) j h nl = record { from = from; within = within; there = some (place_at ps from) locked; most = λ l u nz. most l u; value_is = sym e }

  good : Chosen S.rule.size M ps own a → S.valid own ≡ true → S.valid a ≡ true
  good (free none e) mine = rw e mine
  good (bound from within locked most low e) mine =
      let c = (box from within (some (place_at ps from) locked)).lock.proof locked in
      let p = proposed S fair M rows ok _ _ _ c in
      ap S.valid (e ∙ sym p.4) ∙ p.2.valued

  pub safe_offer : (i : ℕ) → leader_of S.rule.size v ≡ Some i → S.rule.quorum (cited ps) ≡ true → Chosen S.rule.size M ps own a → S.valid own ≡ true →
      Proposal S.rule M S.valid (offer i v a ps)
  safe_offer i lead q ch mine = record { leads = lead; valued = good ch mine; quorum = q; each = box; highest = λ j h nz nl. carried ch j h nl }
