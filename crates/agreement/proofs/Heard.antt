-- What a process holds at the end of its turn in a sweep: all that was in the mail at the sweep's start.
--     bound, from_below        a place with a message is one of the first, and its sender is a process
--     Dealt S v s i k e        between s and e, process i is given the message at place k
--     knows_wish, knows_report, knows_proposal, knows_prepared, knows_committed
--                              what was sent in s is held in e
use Rattle.std.proofs.Common.{◌≡◌, ℕ, zero, suc, ◌<◌, ◌≤◌, Bool, true, false, cond, ◌&&◌, ltb, ◌≢◌, List, length, get_or, set, Some, sym, refl, ap, ◌∙◌, subst, inl, inr, arith}
use Rattle.std.proofs.lemmas.List.{get_or-set_same}
use Rattle.std.proofs.lemmas.Bool.{cases_eq, cases_lt, ltb-true, and_parts}
use Rattle.mail.specs.declared.message.Message.{Message}
use Rattle.mail.specs.Messages.{blank, silence, proper, posted, place_at, kind_wish, kind_report, kind_propose, kind_prepared, kind_committed}
use Rattle.mail.specs.Leaders.{leader_of}
use Rattle.mail.specs.Trust.{Report}
use Rattle.protocol.specs.declared.row.Row.{Row}
use Rattle.protocol.specs.Rows.{blank_row}
use Rattle.protocol.specs.Settings.{Setting, State, Runs, row, mail}
use Rattle.protocol.specs.Calls.{deliver}
use Rattle.protocol.specs.Sweeps.{given_all}
use Rattle.protocol.specs.Protocol.{Takes}
use Rattle.protocol.specs.Protocol.Takes.{heard, reported, offered, prepared, committed}
use Rattle.agreement.specs.Promise.{Of, Sent}
use Rattle.agreement.specs.Exactness.{Exact}
use Rattle.agreement.proofs.Invariant.{Fair}
use Rattle.agreement.proofs.Lively.{vivid}
use Rattle.agreement.proofs.Ahead.{Within, Sized}
use Rattle.agreement.proofs.Calm.{sizes}
use Rattle.agreement.proofs.Quiet.{Passes, passes_trans, accepts, is_lent, delivers}
use Rattle.agreement.proofs.Turns.{Turned, ended, stays, all_given, from_delivered}

-- what a read place is: a message below the count, or silence
read_cases : (b : Bool) (x : Message) → (cond b x silence).kind ≢ 0 → b ≡ true
read_cases true x nz = refl
read_cases false x nz = absurd (nz refl)

module _ (n : ℕ) (post : List Message) (c : ℕ) where
  pub bound : (k : ℕ) → (posted n post c k).kind ≢ 0 → (p : ℕ) × (k ≡ suc p) × (p < c)
  unfolding posted
  bound zero nz = absurd (nz refl)
  bound (suc p) nz =
      let t = read_cases (ltb p c && proper n (get_or post p blank)) (get_or post p blank) nz in
      (p, refl, ltb-true p c (and_parts (ltb p c) (proper n (get_or post p blank)) t).0)

  from_below : (k : ℕ) → (posted n post c k).kind ≢ 0 → (posted n post c k).sender < n
  unfolding posted
  from_below zero nz = absurd (nz refl)
  from_below (suc p) nz =
      let t = read_cases (ltb p c && proper n (get_or post p blank)) (get_or post p blank) nz in
      let q = (and_parts (ltb p c) (proper n (get_or post p blank)) t).1 in
      rw t (ltb-true (get_or post p blank).sender n (and_parts (ltb (get_or post p blank).sender n) _ q).0)

pub record Dealt (S : Setting) (v : ℕ) (s : State) (i k : ℕ) (e : State) : Type 0 where
  pub at : State
  pub before : Passes S v s at
  pub since : Passes S v (deliver S at i k).state e

module _ (S : Setting) (fair : Fair S) (exact : Exact S.rule S.valid) (v : ℕ) (i : ℕ) (run : Runs S i) where
  module _ (s e : State) (k : ℕ) (nk : k ≢ 0) (d : Dealt S v s i k e) (real : (mail S s k).kind ≢ 0) where
    same : mail S d.at k ≡ mail S s k
    same = d.before.onward.grows k real

    through : Passes S v d.at e
    through = passes_trans (delivers S fair exact v d.at d.before.going i k) d.since

    sized : Sized S.rule.size (row d.at i)
    sized = sizes S fair.laws.few d.before.going.reached i run.within

    low : (mail S d.at k).sender < S.rule.size
    low = from_below S.rule.size d.at.post d.at.count k (rw same real)

    taken_row : {r : Row} → Takes S (mail S d.at) i (row d.at i) k r → row (deliver S d.at i k).state i ≡ r
    taken_row {r} t =
        let l = is_lent S fair exact v d.at d.before.going in
        rw ((accepts S fair exact v d.at d.before.going).delivered i k r l run t) (get_or-set_same d.at.table i r blank_row (omega (arith, run.within, l.table)))

    filled : (l : List ℕ) (j : ℕ) → S.rule.size ≤ length l → j < S.rule.size → place_at (set l j k) j ≢ 0
    filled l j b h = rw (get_or-set_same l j k 0 (omega arith)) nk

    heard_wish : (j : ℕ) → Of kind_wish j (mail S s k) → (mail S s k).view ≤ place_at (row e i).wishes j
    heard_wish j o = subst (λ (n : ℕ). (mail S s k).view ≤ place_at (row e i).wishes n) (ap (λ (x : Message). x.sender) same ∙ o.sender_is) (elim (cases_lt (place_at (row d.at i).wishes (mail S d.at k).sender) (mail S d.at k).view) [
      | inl l ↦
          let y = ap (λ (r : Row). place_at r.wishes (mail S d.at k).sender) (taken_row (heard (ap (λ (x : Message). x.kind) same ∙ o.kind_is) l)) in
          let x = get_or-set_same (row d.at i).wishes (mail S d.at k).sender (mail S d.at k).view 0 (omega (arith, low, sized.wishes)) in
          omega (arith, y, x, (d.since.onward.rows i).wishes (mail S d.at k).sender, ap (λ (x : Message). x.view) same)
      | inr h ↦ omega (arith, h, (through.onward.rows i).wishes (mail S d.at k).sender, ap (λ (x : Message). x.view) same)
    ])

    module _ (iv : (row s i).ballot.view ≡ v) (kv : (mail S s k).view ≡ v) where
      av : (row d.at i).ballot.view ≡ v
      av = stays S fair exact v d.before i run iv

      ev : (row e i).ballot.view ≡ v
      ev = stays S fair exact v through i run av

      within : Within (row d.at i).ballot (row e i).ballot
      within = (through.onward.rows i).within (av ∙ sym ev)

      within_since : Within (row (deliver S d.at i k).state i).ballot (row e i).ballot
      within_since = (d.since.onward.rows i).within (stays S fair exact v (delivers S fair exact v d.at d.before.going i k) i run av ∙ sym ev)

      timely : (mail S d.at k).view ≡ (row d.at i).ballot.view
      timely = ap (λ (x : Message). x.view) same ∙ kv ∙ sym av

      heard_prepared : (j : ℕ) → Of kind_prepared j (mail S s k) → place_at (row e i).ballot.prepared j ≢ 0
      heard_prepared j o = subst (λ (n : ℕ). place_at (row e i).ballot.prepared n ≢ 0) (ap (λ (x : Message). x.sender) same ∙ o.sender_is) (elim (cases_eq (place_at (row d.at i).ballot.prepared (mail S d.at k).sender) 0) [
        | inl z ↦ within_since.prepared (mail S d.at k).sender
            (rw (taken_row (prepared (ap (λ (x : Message). x.kind) same ∙ o.kind_is) timely z)) (filled (row d.at i).ballot.prepared (mail S d.at k).sender sized.prepared low))
        | inr nz ↦ within.prepared (mail S d.at k).sender nz
      ])

      heard_committed : (j : ℕ) → Of kind_committed j (mail S s k) → place_at (row e i).ballot.committed j ≢ 0
      heard_committed j o = subst (λ (n : ℕ). place_at (row e i).ballot.committed n ≢ 0) (ap (λ (x : Message). x.sender) same ∙ o.sender_is) (elim (cases_eq (place_at (row d.at i).ballot.committed (mail S d.at k).sender) 0) [
        | inl z ↦ within_since.committed (mail S d.at k).sender
            (rw (taken_row (committed (ap (λ (x : Message). x.kind) same ∙ o.kind_is) timely z)) (filled (row d.at i).ballot.committed (mail S d.at k).sender sized.committed low))
        | inr nz ↦ within.committed (mail S d.at k).sender nz
      ])

      heard_proposal : (n : ℕ) → Runs S n → Of kind_propose n (mail S s k) → (row e i).ballot.proposal ≢ 0
      heard_proposal n rn o =
          let p = ((vivid S fair d.before.going.reached).each n rn).proposing.safe k (rw same o) in
          elim (cases_eq (row d.at i).ballot.proposal 0) [
            | inl z ↦ within_since.proposal (rw (taken_row (offered (ap (λ (x : Message). x.kind) same ∙ o.kind_is) timely z p)) nk)
            | inr nz ↦ within.proposal nz
          ]

      heard_report : leader_of S.rule.size v ≡ Some i → (j : ℕ) → Runs S j → Of kind_report j (mail S s k) → place_at (row e i).ballot.reports j ≢ 0
      heard_report lead j rj o =
          let q = ((vivid S fair d.before.going.reached).each j rj).reporting.valid k (rw same o) in
          let p = subst (λ (w : ℕ). Report S.rule (mail S d.at) j w (mail S d.at k)) timely q in
          let se = ap (λ (x : Message). x.sender) same ∙ o.sender_is in
          let p' = subst (λ (n : ℕ). Report S.rule (mail S d.at) n (row d.at i).ballot.view (mail S d.at k)) (sym se) p in
          subst (λ (n : ℕ). place_at (row e i).ballot.reports n ≢ 0) se (elim (cases_eq (place_at (row d.at i).ballot.reports (mail S d.at k).sender) 0) [
            | inl z ↦ within_since.reports (mail S d.at k).sender
                (rw (taken_row (reported (subst (λ (w : ℕ). leader_of S.rule.size w ≡ Some i) (sym av) lead) z p')) (filled (row d.at i).ballot.reports (mail S d.at k).sender sized.reports low))
            | inr nz ↦ within.reports (mail S d.at k).sender nz
          ])

  -- the message of a place below the count is given to process i in its turn
  module _ (s t : State) (x : Turned S v s.count s i t) where
    dealt : (p : ℕ) → p < s.count → Dealt S v s i (suc p) (ended S s.count i x.at).state
    dealt p l = record {
      at = (given_all S i x.at p).state;
      before = passes_trans x.before (all_given S fair exact v i x.at x.before.going p);
      since = from_delivered S fair exact v s.count i run x.at x.before.going p l;
    }

    -- what follows for a message in the mail of s from its being dealt
    at_place : (P : Type 0) (c j w : ℕ) → ((k : ℕ) → k ≢ 0 → Dealt S v s i k (ended S s.count i x.at).state → (mail S s k).kind ≢ 0 → Of (suc c) j (mail S s k) → (mail S s k).view ≡ w → P) → Sent (mail S s) (suc c) j w → P
    at_place P c j w f m =
        let nz : (mail S s m.0).kind ≢ 0 = λ z. omega (arith, m.1.kind_is, z) in
        let b = bound S.rule.size s.post s.count m.0 nz in
        f m.0 (λ z. omega (arith, b.1, z)) (subst (λ (k : ℕ). Dealt S v s i k (ended S s.count i x.at).state) (sym b.1) (dealt b.0 b.2)) nz m.1 m.2

    pub knows_wish : (j w : ℕ) → Sent (mail S s) kind_wish j w → w ≤ place_at (row (ended S s.count i x.at).state i).wishes j
    knows_wish j w = at_place (w ≤ place_at (row (ended S s.count i x.at).state i).wishes j) 0 j w (λ k nk d real o kv. let h = heard_wish s _ k nk d real j o in omega (arith, h, kv))

    module _ (iv : (row s i).ballot.view ≡ v) where
      pub knows_report : leader_of S.rule.size v ≡ Some i → (j : ℕ) → Runs S j → Sent (mail S s) kind_report j v → place_at (row (ended S s.count i x.at).state i).ballot.reports j ≢ 0
      knows_report lead j rj = at_place (place_at (row (ended S s.count i x.at).state i).ballot.reports j ≢ 0) 1 j v (λ k nk d real o kv. heard_report s _ k nk d real iv kv lead j rj o)

      pub knows_proposal : (n : ℕ) → Runs S n → Sent (mail S s) kind_propose n v → (row (ended S s.count i x.at).state i).ballot.proposal ≢ 0
      knows_proposal n rn = at_place ((row (ended S s.count i x.at).state i).ballot.proposal ≢ 0) 2 n v (λ k nk d real o kv. heard_proposal s _ k nk d real iv kv n rn o)

      pub knows_prepared : (j : ℕ) → Sent (mail S s) kind_prepared j v → place_at (row (ended S s.count i x.at).state i).ballot.prepared j ≢ 0
      knows_prepared j = at_place (place_at (row (ended S s.count i x.at).state i).ballot.prepared j ≢ 0) 3 j v (λ k nk d real o kv. heard_prepared s _ k nk d real iv kv j o)

      pub knows_committed : (j : ℕ) → Sent (mail S s) kind_committed j v → place_at (row (ended S s.count i x.at).state i).ballot.committed j ≢ 0
      knows_committed j = at_place (place_at (row (ended S s.count i x.at).state i).ballot.committed j ≢ 0) 4 j v (λ k nk d real o kv. heard_committed s _ k nk d real iv kv j o)
