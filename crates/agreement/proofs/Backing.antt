-- The places that a lock move cites are a certificate. Assumes nothing.
--     place_tallied                     the members of a tally, where a place 0 does not pass
--     backing_at                        what is cited of a process
--     backing_certificate               the votes that are held for a value, if a quorum has cast them, are a certificate
--     backing_quorum                    and a quorum has sent them
use Rattle.std.proofs.Common.{◌≡◌, ℕ, zero, suc, ◌<◌, ◌≤◌, Bool, true, false, cond, eqb, ◌≢◌, List, [], ◌∷◌, length, sym, refl, ◌∙◌, inl, inr, arith}
use Rattle.std.proofs.lemmas.List.{get_or-set_same, get_or-set_other, length-set}
use Rattle.std.proofs.lemmas.Bool.{cases_eq, cases_Bool, and_parts, not-true, eqb-true, eqb-false, ne_eqb, cond-true, cond-false}
use Rattle.sets.specs.Sets.{has}
use Rattle.sets.specs.Rules.{Lawful}
use Rattle.sets.proofs.Members.{has_sift}
use Rattle.quorum.specs.Tallies.{passing, tallied}
use Rattle.mail.specs.declared.message.Message.{Message}
use Rattle.mail.specs.Messages.{place_at, held, has_value, cited, kind_prepared}
use Rattle.mail.specs.Trust.{Certificate}
use Rattle.protocol.specs.Settings.{Setting}
use Rattle.protocol.specs.Plans.{backs, backers, backing}
use Rattle.agreement.specs.Promise.{QuorumSent}
use Rattle.agreement.proofs.Invariant.{Each, Held}

passing_place : (p : ℕ → Bool) → p 0 ≡ false → (xs : List ℕ) (j : ℕ) → passing p xs j ≡ p (place_at xs j)
passing_place p z [] j = sym z
passing_place p z (x ∷ xs) zero = refl
passing_place p z (x ∷ xs) (suc j) = passing_place p z xs j

pub place_tallied : (p : ℕ → Bool) → p 0 ≡ false → (xs : List ℕ) (j : ℕ) → j < 32 → has (tallied p xs) j ≡ p (place_at xs j)
place_tallied p z xs j h = has_sift 32 (passing p xs) j h ∙ passing_place p z xs j

module _ (M : ℕ → Message) (box : List ℕ) (a : ℕ) where
  backing_length : (n : ℕ) → length (backing M box a n) ≡ 32
  unfolding backing
  backing_length zero = refl
  backing_length (suc n) = length-set (backing M box a n) n (cond (backs M a (place_at box n)) (place_at box n) 0) ∙ backing_length n

  pub backing_at : (n j : ℕ) → j < n → n ≤ 32 → place_at (backing M box a n) j ≡ cond (backs M a (place_at box j)) (place_at box j) 0
  unfolding backing
  backing_at zero j h few = absurd (omega arith)
  backing_at (suc n) j h few = elim (cases_eq j n) [
    | inl e ↦ rw e (get_or-set_same (backing M box a n) n (cond (backs M a (place_at box n)) (place_at box n) 0) 0 (omega (arith, backing_length n)))
    | inr ne ↦ get_or-set_other (backing M box a n) n j (cond (backs M a (place_at box n)) (place_at box n) 0) 0 ne ∙ backing_at n j (omega arith) (omega arith)
  ]

  backs_parts : (k : ℕ) → backs M a k ≡ true → (k ≢ 0) × ((M k).value ≡ a)
  backs_parts k h =
      let p = and_parts (held k) (has_value a (M k)) h in
      (eqb-false k 0 (not-true (eqb k 0) p.0), eqb-true (M k).value a p.1)

  backed : (n j : ℕ) → j < n → n ≤ 32 → place_at (backing M box a n) j ≢ 0 → (backs M a (place_at box j) ≡ true) × (place_at (backing M box a n) j ≡ place_at box j)
  backed n j h few nz = elim (cases_Bool (backs M a (place_at box j))) [
    | inl e ↦ (e, backing_at n j h few ∙ cond-true (backs M a (place_at box j)) (place_at box j) 0 e)
    | inr e ↦ absurd (nz (backing_at n j h few ∙ cond-false (backs M a (place_at box j)) (place_at box j) 0 e))
  ]

  backer : (j : ℕ) → j < 32 → has (backers M box a) j ≡ true → backs M a (place_at box j) ≡ true
  backer j h b = sym (place_tallied (backs M a) refl box j h) ∙ b

module _ (S : Setting) (laws : Lawful S.rule) where
  pub backing_certificate : (M : ℕ → Message) (box : List ℕ) (a v : ℕ) → S.rule.quorum (backers M box a) ≡ true →
      Each S.rule.size M box (Held kind_prepared v) → Certificate S.rule M (backing M box a S.rule.size) v a
  backing_certificate M box a v q all = record {
    quorum = laws.more (backers M box a) (cited (backing M box a S.rule.size)) q inside;
    each = λ j h nz.
        let p = backed M box a S.rule.size j h laws.few nz in
        let b = backs_parts M box a (place_at box j) p.0 in
        let x = all j h b.0 in
        rw p.1 (record { kind_is = x.0.kind_is; sender_is = x.0.sender_is; view_is = x.1; value_is = b.1 });
  }
    where
      inside : (j : ℕ) → j < S.rule.size → has (backers M box a) j ≡ true → has (cited (backing M box a S.rule.size)) j ≡ true
      inside j h m =
          let t = backer M box a j (omega (arith, laws.few)) m in
          let e : place_at (backing M box a S.rule.size) j ≡ place_at box j =
          backing_at M box a S.rule.size j h laws.few ∙ cond-true (backs M a (place_at box j)) (place_at box j) 0 t in
          place_tallied held refl (backing M box a S.rule.size) j (omega (arith, laws.few))
          ∙ rw (e, ne_eqb (place_at box j) 0 (backs_parts M box a (place_at box j) t).0)

  pub backing_quorum : (M : ℕ → Message) (box : List ℕ) (a v kind : ℕ) → S.rule.quorum (backers M box a) ≡ true →
      Each S.rule.size M box (Held kind v) → QuorumSent S.rule M kind v a
  backing_quorum M box a v kind q all = record {
    members = backers M box a;
    quorum = q;
    each = λ j h m.
        let b = backs_parts M box a (place_at box j) (backer M box a j (omega (arith, laws.few)) m) in
        let x = all j h b.0 in
        (place_at box j, record { kind_is = x.0.kind_is; sender_is = x.0.sender_is; view_is = x.1; value_is = b.1 });
  }
