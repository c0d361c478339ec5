-- The value that a leader proposes. Assumes nothing.
--     highest_same     there is one highest view
--     chosen_same      there is one value to propose
--     choice_chosen    the definition's choice is that value
use Rattle.std.proofs.Common.{◌≡◌, ℕ, zero, suc, ◌<◌, Bool, true, false, eqb, ◌⊎◌, List, Option, unwrap_or, sym, ap, ◌∙◌, inl, inr, arith}
use Rattle.std.proofs.lemmas.Bool.{cases_eq, cases_lt, cases_Bool, eqb-true, eqb-false, eq-eqb, ne_eqb, both_ways}
use Rattle.quorum.specs.Firsts.{fault_if}
use Rattle.quorum.specs.Wishes.{Highest}
use Rattle.quorum.proofs.Found.{first_here, below_none}
use Rattle.mail.specs.declared.message.Message.{Message}
use Rattle.mail.specs.Messages.{place_at}
use Rattle.mail.specs.Judging.{top_lock}
use Rattle.mail.proofs.Locks.{top_most, top_at}
use Rattle.protocol.specs.Plans.{choice}
use Rattle.protocol.specs.Protocol.{Chosen, free, bound}

pub highest_same : (P : ℕ → Type 0) (a b : ℕ) → Highest P a → Highest P b → a ≡ b
highest_same P a b ha hb = elim (cases_lt a b) [
  | inl l ↦ absurd (ha.above b l (hb.here (omega arith)))
  | inr g ↦ elim (cases_lt b a) [
    | inl l ↦ absurd (hb.above a l (ha.here (omega arith)))
    | inr f ↦ omega arith
  ]
]

-- the lowest number below n that passes a test, if any
least : (p : ℕ → Bool) (n : ℕ) → ((j : ℕ) → j < n → p j ≡ false) ⊎ ((j : ℕ) × (j < n) × (p j ≡ true) × ((l : ℕ) → l < j → p l ≡ false))
least p zero = inl (λ j l. absurd (omega arith))
least p (suc n) = elim (least p n) [
  | inl h ↦ elim (cases_Bool (p n)) [
    | inl t ↦ inr (n, omega arith, t, h)
    | inr f ↦ inl (λ j l. elim (cases_lt j n) [ inl k ↦ h j k | inr g ↦ let e : j ≡ n = omega arith in rw e f ])
  ]
  | inr r ↦ inr (r.0, omega (arith, r.1), r.2, r.3)
]

module _ (n : ℕ) (M : ℕ → Message) (ps : List ℕ) (own : ℕ) where
  abbrev lock_at : ℕ → ℕ
  lock_at j = (M (place_at ps j)).locked

  pub chosen_same : (a b : ℕ) → Chosen n M ps own a → Chosen n M ps own b → a ≡ b
  chosen_same a b (free h e) (free g f) = e ∙ sym f
  chosen_same a b (free h e) (bound j l ne up low f) = absurd (ne (h j l))
  chosen_same a b (bound j l ne up low f) (free h e) = absurd (ne (h j l))
  chosen_same a b (bound j l ne up low e) (bound k d nf vp mow f) =
      let p = up k d in
      let q = vp j l in
      let same : lock_at j ≡ lock_at k = omega arith in
      elim (cases_lt j k) [
        | inl x ↦ absurd (mow j x same)
        | inr y ↦ elim (cases_lt k j) [
          | inl x ↦ absurd (low k x (sym same))
          | inr z ↦ let i : j ≡ k = omega arith in e ∙ ap (λ (x : ℕ). (M (place_at ps x)).value) i ∙ sym f
        ]
      ]

  abbrev offers : ℕ → Option ℕ
  offers j = fault_if (eqb (lock_at j) (top_lock M ps n)) (M (place_at ps j)).value

  pub choice_chosen : Chosen n M ps own (choice n M ps own)
  unfolding choice
  choice_chosen =
      let top = top_lock M ps n in
      elim (cases_eq top 0) [
        | inl z ↦ free (λ j l. let u = top_most M ps n j l in omega arith) (rw (eq-eqb top 0 z))
        | inr some ↦ elim (least (λ j. eqb (lock_at j) top) n) [
          | inl h ↦ absurd (elim (top_at M ps n) [
            | inl z ↦ some z
            | inr r ↦ both_ways (eqb (lock_at r.0) top) (h r.0 r.1) (eq-eqb (lock_at r.0) top r.2)
          ])
          | inr r ↦
              let e = eqb-true (lock_at r.0) top r.2 in
              bound r.0 r.1 (λ z. some (sym e ∙ z)) (λ l d. let u = top_most M ps n l d in omega arith)
              (λ l d f. eqb-false (lock_at l) top (r.3 l d) (f ∙ e))
              (rw (ne_eqb top 0 some) (ap (λ (o : Option ℕ). unwrap_or o own) (first_here offers r.0 n _ r.1 (below_none offers r.0 (λ l d. ap (λ (b : Bool). fault_if b (M (place_at ps l)).value) (r.3 l d))) (ap (λ (b : Bool). fault_if b (M (place_at ps r.0)).value) r.2))))
        ]
      ]
