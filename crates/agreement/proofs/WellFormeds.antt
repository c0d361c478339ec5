-- A message is well-formed, by the test, exactly when it is one that may be posted. Assumes nothing.
--     bare_is, citable_is     the first places of a message are 0, or may be cited
--     well_formed_is          the whole test
use Rattle.std.proofs.Common.{◌≡◌, ℕ, zero, suc, ◌<◌, ◌≤◌, Bool, true, false, cond, ◌&&◌, ◌||◌, eqb, ltb, leb, ◌≢◌, ◌⊎◌, List, sym, refl, subst, inl, inr, ⊎_elim, arith}
use Rattle.std.proofs.lemmas.Bool.{and_parts, and_from, or_cases, or_left, or_right, eqb-true, eqb-false, eq-eqb, ne_eqb, ltb-true, lt-ltb, leb-true, le-leb, cases_eq, cases_lt, false≢true}
use Rattle.mail.specs.declared.message.Message.{Message}
use Rattle.mail.specs.Messages.{place_at, kind_wish, kind_report, kind_propose, kind_prepared, kind_committed}
use Rattle.mail.specs.Posting.{bare, citable_at, citable, well_formed}
use Rattle.mail.specs.Trust.{Exactly}
use Rattle.protocol.specs.Protocol.{WellFormed}

module _ (ps : List ℕ) where
  bare_is : (n : ℕ) → Exactly (bare ps n ≡ true) ((j : ℕ) → j < n → place_at ps j ≡ 0)
  unfolding bare
  bare_is zero = ((λ h j l. absurd (omega arith)), (λ h. refl))
  bare_is (suc n) = (
    (λ h j l.
        let b = and_parts (bare ps n) (eqb (place_at ps n) 0) h in
        ⊎_elim (λ (k : j < n). (bare_is n).0 b.0 j k)
        (λ (g : n ≤ j). let e : j ≡ n = omega arith in rw e (eqb-true (place_at ps n) 0 b.1))
        (cases_lt j n)),
    (λ h. and_from _ _ ((bare_is n).1 (λ j l. h j (omega arith))) (eq-eqb (place_at ps n) 0 (h n (omega arith)))),
  )

  module _ (n c : ℕ) where
    citable_at_is : (j k : ℕ) → Exactly (citable_at n c j k ≡ true) (k ≢ 0 → (j < n) × (k ≤ c))
    citable_at_is j k = (
      (λ h ne.
          ⊎_elim (λ (z : eqb k 0 ≡ true). absurd (ne (eqb-true k 0 z)))
          (λ (b : (ltb j n && leb k c) ≡ true). let p = and_parts (ltb j n) (leb k c) b in (ltb-true j n p.0, leb-true k c p.1))
          (or_cases (eqb k 0) (ltb j n && leb k c) h)),
      (λ h.
          ⊎_elim (λ (z : k ≡ 0). or_left (eqb k 0) (ltb j n && leb k c) (eq-eqb k 0 z))
          (λ (ne : k ≢ 0). let p = h ne in or_right (eqb k 0) (ltb j n && leb k c) (and_from _ _ (lt-ltb j n p.0) (le-leb k c p.1)))
          (cases_eq k 0)),
    )

    citable_is : (l : ℕ) → Exactly (citable n c ps l ≡ true) ((j : ℕ) → j < l → place_at ps j ≢ 0 → (j < n) × (place_at ps j ≤ c))
    unfolding citable
    citable_is zero = ((λ h j l. absurd (omega arith)), (λ h. refl))
    citable_is (suc l) = (
      (λ h j k ne.
          let b = and_parts (citable n c ps l) (citable_at n c l (place_at ps l)) h in
          ⊎_elim (λ (d : j < l). (citable_is l).0 b.0 j d ne)
          (λ (g : l ≤ j).
          let e : j ≡ l = omega arith in
          subst (λ (i : ℕ). place_at ps i ≢ 0 → (i < n) × (place_at ps i ≤ c)) (sym e) ((citable_at_is l (place_at ps l)).0 b.1) ne)
          (cases_lt j l)),
      (λ h. and_from _ _ ((citable_is l).1 (λ j d. h j (omega arith))) ((citable_at_is l (place_at ps l)).1 (h l (omega arith)))),
    )

cond_ways : (b x y : Bool) → cond b x y ≡ true → ((b ≡ true) × (x ≡ true)) ⊎ ((b ≡ false) × (y ≡ true))
cond_ways true x y h = inl (refl, h)
cond_ways false x y h = inr (refl, h)

module _ (n c : ℕ) (x : Message) where
  abbrev Cites : Type 0
  Cites = (j : ℕ) → j < 32 → place_at x.citations j ≢ 0 → (j < n) × (place_at x.citations j ≤ c)

  abbrev Bare : Type 0
  Bare = (j : ℕ) → j < 32 → place_at x.citations j ≡ 0

  -- the four forms of a message: a wish or a vote, a report with a lock or without, a proposal
  module _ (viewed : x.view ≢ 0) where
    plain_form : kind_wish ≤ x.kind → x.kind ≤ kind_committed → x.kind ≢ kind_report → x.kind ≢ kind_propose → (x.kind ≡ kind_wish → x.value ≡ 0) → x.locked ≡ 0 → Bare → WellFormed n c x
    plain_form lo hi nr np wv un ba = record {
      kinds = (lo, hi);
      viewed = viewed;
      wish_value = wv;
      unlocked = λ _. un;
      free_value = λ e. absurd (nr e);
      uncited = λ _ _. ba;
      cites = λ j l ne. absurd (ne (ba j l));
    }

    free_form : x.kind ≡ kind_report → x.locked ≡ 0 → x.value ≡ 0 → Bare → WellFormed n c x
    free_form e un va ba = record {
      kinds = (omega arith, omega arith);
      viewed = viewed;
      wish_value = λ _. va;
      unlocked = λ _. un;
      free_value = λ _ _. va;
      uncited = λ _ _. ba;
      cites = λ j l ne. absurd (ne (ba j l));
    }

    locked_form : x.kind ≡ kind_report → x.locked ≢ 0 → Cites → WellFormed n c x
    locked_form e un ci = record {
      kinds = (omega arith, omega arith);
      viewed = viewed;
      wish_value = λ f. absurd (omega arith);
      unlocked = λ ne. absurd (ne e);
      free_value = λ _ z. absurd (un z);
      uncited = λ _ z. absurd (un (z e));
      cites = ci;
    }

    offer_form : x.kind ≡ kind_propose → x.locked ≡ 0 → Cites → WellFormed n c x
    offer_form e un ci = record {
      kinds = (omega arith, omega arith);
      viewed = viewed;
      wish_value = λ f. absurd (omega arith);
      unlocked = λ _. un;
      free_value = λ f. absurd (omega arith);
      uncited = λ ne. absurd (ne e);
      cites = ci;
    }

    zero_bare : (y : ℕ) → (eqb y 0 && bare x.citations 32) ≡ true → (y ≡ 0) × Bare
    zero_bare y h = let b = and_parts (eqb y 0) (bare x.citations 32) h in (eqb-true y 0 b.0, (bare_is x.citations 32).0 b.1)

    sound : cond (eqb x.kind kind_wish) (eqb x.value 0 && (eqb x.locked 0 && bare x.citations 32))
        (cond (eqb x.kind kind_report) (cond (eqb x.locked 0) (eqb x.value 0 && bare x.citations 32) (citable n c x.citations 32))
        (cond (eqb x.kind kind_propose) (eqb x.locked 0 && citable n c x.citations 32)
        (cond (eqb x.kind kind_prepared || eqb x.kind kind_committed) (eqb x.locked 0 && bare x.citations 32) false))) ≡ true → WellFormed n c x
    sound h = elim (cond_ways (eqb x.kind kind_wish) _ _ h) [
      | inl a ↦
          let b = and_parts (eqb x.value 0) _ a.1 in
          let z = zero_bare x.locked b.1 in
          let e = eqb-true x.kind kind_wish a.0 in
          plain_form (omega arith) (omega arith) (λ f. omega arith) (λ f. omega arith) (λ _. eqb-true x.value 0 b.0) z.0 z.1
      | inr a ↦ elim (cond_ways (eqb x.kind kind_report) _ _ a.1) [
        | inl b ↦
            let e = eqb-true x.kind kind_report b.0 in
            elim (cond_ways (eqb x.locked 0) _ _ b.1) [
              | inl d ↦ let z = zero_bare x.value d.1 in free_form e (eqb-true x.locked 0 d.0) z.0 z.1
              | inr d ↦ locked_form e (eqb-false x.locked 0 d.0) ((citable_is x.citations n c 32).0 d.1)
            ]
        | inr b ↦ elim (cond_ways (eqb x.kind kind_propose) _ _ b.1) [
          | inl d ↦
              let z = and_parts (eqb x.locked 0) _ d.1 in
              offer_form (eqb-true x.kind kind_propose d.0) (eqb-true x.locked 0 z.0) ((citable_is x.citations n c 32).0 z.1)
          | inr d ↦ elim (cond_ways (eqb x.kind kind_prepared || eqb x.kind kind_committed) _ _ d.1) [
            | inl f ↦
                let z = zero_bare x.locked f.1 in
                let g : (kind_prepared ≤ x.kind) × (x.kind ≤ kind_committed) = elim (or_cases (eqb x.kind kind_prepared) (eqb x.kind kind_committed) f.0) [
                  | inl q ↦ let e = eqb-true x.kind kind_prepared q in (omega arith, omega arith)
                  | inr q ↦ let e = eqb-true x.kind kind_committed q in (omega arith, omega arith)
                ] in
                let lo = g.0 in
                plain_form (omega arith) g.1 (λ e. omega arith) (λ e. omega arith) (λ e. absurd (omega arith)) z.0 z.1
            | inr f ↦ absurd (false≢true f.1)
          ]
        ]
      ]
    ]

  module _ (w : WellFormed n c x) where
    plain : x.kind ≢ kind_report → x.kind ≢ kind_propose → (eqb x.locked 0 && bare x.citations 32) ≡ true
    plain nr np = and_from _ _ (eq-eqb x.locked 0 (w.unlocked nr)) ((bare_is x.citations 32).1 (w.uncited np (λ e. absurd (nr e))))

    whole : well_formed n c x ≡ true
    whole = rw (ne_eqb x.view 0 w.viewed) (elim (cases_eq x.kind kind_wish) [
      | inl e ↦ rw (eq-eqb x.kind kind_wish e, eq-eqb x.value 0 (w.wish_value e)) (plain (λ f. omega arith) (λ f. omega arith))
      | inr a ↦ rw (ne_eqb x.kind kind_wish a) (elim (cases_eq x.kind kind_report) [
        | inl e ↦ rw (eq-eqb x.kind kind_report e) (elim (cases_eq x.locked 0) [
          | inl z ↦ rw (eq-eqb x.locked 0 z, eq-eqb x.value 0 (w.free_value e z)) ((bare_is x.citations 32).1 (w.uncited (λ f. omega arith) (λ _. z)))
          | inr z ↦ rw (ne_eqb x.locked 0 z) ((citable_is x.citations n c 32).1 w.cites)
        ])
        | inr b ↦ rw (ne_eqb x.kind kind_report b) (elim (cases_eq x.kind kind_propose) [
          | inl e ↦ rw (eq-eqb x.kind kind_propose e, eq-eqb x.locked 0 (w.unlocked b)) ((citable_is x.citations n c 32).1 w.cites)
          | inr d ↦ rw (ne_eqb x.kind kind_propose d) (elim (cases_eq x.kind kind_prepared) [
            | inl e ↦ rw (eq-eqb x.kind kind_prepared e) (plain b d)
            | inr f ↦
                let ks = w.kinds in
                let e : x.kind ≡ kind_committed = omega (arith, ks.0, ks.1) in
                rw (ne_eqb x.kind kind_prepared f, eq-eqb x.kind kind_committed e) (plain b d)
          ])
        ])
      ])
    ])

  pub well_formed_is : Exactly (well_formed n c x ≡ true) (WellFormed n c x)
  well_formed_is = (
    (λ h. elim (cond_ways (eqb x.view 0) false _ h) [
      | inl a ↦ absurd (false≢true a.1)
      | inr a ↦ sound (eqb-false x.view 0 a.0) a.1
    ]),
    whole,
  )
