-- Rows go forward, mail grows, and the run processes of a calm committee stay at one view.
--     tallied_gives, tallied_from    the members of a tally pass its test, and who passes it is a member
--     Sizes S s                      the boxes of each row have a slot for each process
--     Onward S s t                   from s to t rows go forward, mail grows, and lengths stay
--     onward_refl, onward_trans, onward_change
--     lent, sizes                    of every reached state
--     Calm S v s                     no run process has sent a WISH above v
--     block_low, hope_low, view_low  so a run process hopes for and takes up no view above v
--     calm_send                      one message more leaves it calm
use Rattle.std.proofs.Common.{◌≡◌, ℕ, zero, suc, ◌<◌, ◌≤◌, Bool, true, leb, ◌≢◌, List, [], ◌∷◌, length, get_or, set, sym, refl, ap, ◌∙◌, inl, inr, arith}
use Rattle.std.proofs.lemmas.List.{length-set}
use Rattle.std.proofs.lemmas.Bool.{cases_eq, cases_lt, cases_Bool, leb-true}
use Rattle.sets.specs.Sets.{has}
use Rattle.sets.specs.Rules.{Blocking}
use Rattle.sets.proofs.Members.{has_sift}
use Rattle.sets.proofs.Grounded.{grounded}
use Rattle.quorum.specs.Tallies.{passing, tallied}
use Rattle.quorum.specs.Wishes.{wishing}
use Rattle.quorum.proofs.Slots.{passing_at}
use Rattle.mail.specs.declared.message.Message.{Message}
use Rattle.mail.specs.Messages.{place_at, kind_wish}
use Rattle.protocol.specs.Rows.{blank_row}
use Rattle.protocol.specs.Settings.{Setting, State, Runs, row, mail, send}
use Rattle.protocol.specs.Protocol.{Hopeful, Room, Change, Reached}
use Rattle.protocol.specs.Protocol.Change.{stepped, expired, posted}
use Rattle.protocol.specs.Protocol.Reached.{start, after}
use Rattle.agreement.specs.Promise.{Of}
use Rattle.agreement.specs.Exactness.{Lent}
use Rattle.agreement.proofs.Invariant.{Fair, Vivid}
use Rattle.agreement.proofs.Kept as kept
use Rattle.agreement.proofs.Ahead.{Ahead, ahead_refl, ahead_trans, set_cases, Sized, Effect, effect}

module _ (p : ℕ → Bool) where
  passing_gives : (xs : List ℕ) (j : ℕ) → passing p xs j ≡ true → p (place_at xs j) ≡ true
  passing_gives [] j h = absurd (let z : ◌≡◌ {A = ℕ} 0 1 = cc in omega arith)
  passing_gives (x ∷ xs) zero h = h
  passing_gives (x ∷ xs) (suc j) h = passing_gives xs j h

  pub tallied_gives : (xs : List ℕ) (j : ℕ) → j < 32 → has (tallied p xs) j ≡ true → p (place_at xs j) ≡ true
  tallied_gives xs j l h = passing_gives xs j (sym (has_sift 32 (passing p xs) j l) ∙ h)

  pub tallied_from : (xs : List ℕ) (j : ℕ) → j < 32 → j < length xs → p (place_at xs j) ≡ true → has (tallied p xs) j ≡ true
  tallied_from xs j l m h = has_sift 32 (passing p xs) j l ∙ passing_at p xs j 0 m ∙ h

abbrev pub Sizes : Setting → State → Type 0
Sizes S s = (j : ℕ) → j < S.rule.size → Sized S.rule.size (row s j)

pub record Onward (S : Setting) (s t : State) : Type 0 where
  pub rows : (j : ℕ) → Ahead (row s j) (row t j)
  pub sizes : Sizes S s → Sizes S t
  pub table : length t.table ≡ length s.table
  pub post : length t.post ≡ length s.post
  pub grows : (k : ℕ) → (mail S s k).kind ≢ 0 → mail S t k ≡ mail S s k

pub onward_refl : (S : Setting) (s : State) → Onward S s s
onward_refl S s = record { rows = λ j. ahead_refl (row s j); sizes = λ z. z; table = refl; post = refl; grows = λ k nz. refl }

pub onward_trans : {S : Setting} {s t u : State} → Onward S s t → Onward S t u → Onward S s u
onward_trans {S} {s} {t} {u} a b = record {
  rows = λ j. ahead_trans (a.rows j) (b.rows j);
  sizes = λ z. b.sizes (a.sizes z);
  table = b.table ∙ a.table;
  post = b.post ∙ a.post;
  grows = λ k nz. let e = a.grows k nz in b.grows k (rw e nz) ∙ e;
}

module _ (S : Setting) (few : S.rule.size ≤ 32) where
  onward_step : (s t : State) (i : ℕ) → Effect S s i t → Onward S s t
  onward_step s t i e = record {
    rows = λ j. rw e.table (ahead j);
    sizes = λ z j l. rw e.table (sized z j l);
    table = ap length e.table ∙ length-set s.table i e.next;
    post = e.span;
    grows = e.grows;
  }
    where
      ahead : (j : ℕ) → Ahead (row s j) (get_or (set s.table i e.next) j blank_row)
      ahead j = elim (set_cases s.table i e.next j blank_row) [ inl x ↦ rw x (ahead_refl (row s j)) | inr x ↦ rw (x.1, x.0) e.ahead ]

      sized : Sizes S s → (j : ℕ) → j < S.rule.size → Sized S.rule.size (get_or (set s.table i e.next) j blank_row)
      sized z j l = elim (set_cases s.table i e.next j blank_row) [ inl x ↦ rw x (z j l) | inr x ↦ rw x.1 (e.sized few (z i (rw x.0 at l))) ]

  onward_send : (s : State) (x : Message) → Room s → Onward S s (send s x)
  onward_send s x room = record {
    rows = λ j. ahead_refl (row s j);
    sizes = λ z. z;
    table = refl;
    post = length-set s.post s.count x;
    grows = kept.stays S (kept.posts S.rule.size s.post s.count x room);
  }

  pub onward_change : {s t : State} → Change S s t → Onward S s t
  onward_change {s} {t} (stepped i run st) = onward_step s t i (effect S s i t st)
  onward_change {s} (expired i run w hope low room) = onward_send s _ room
  onward_change {s} (posted x low foreign formed room) = onward_send s x room

  pub sizes : {s : State} → Reached S s → Sizes S s
  sizes (start o) j h = let f = o.fresh j h in rw f.1 (record { wishes = few; reports = few; prepared = few; committed = few })
  sizes (after r c) j h = (onward_change c).sizes (sizes r) j h

  pub lent : {s : State} → Reached S s → Lent S s
  lent (start o) = record { table = o.rows; post = o.span }
  lent (after r c) = let l = lent r in let w = onward_change c in record { table = omega (arith, l.table, w.table); post = w.post ∙ l.post }

abbrev pub Calm : Setting → ℕ → State → Type 0
Calm S v s = (j : ℕ) → Runs S j → (k : ℕ) → Of kind_wish j (mail S s k) → (mail S s k).view ≤ v

module _ (S : Setting) (fair : Fair S) (v : ℕ) (s : State) (ok : Vivid S s) (calm : Calm S v s) (i : ℕ) (run : Runs S i) where
  wish_low : (w j : ℕ) → Runs S j → w ≢ 0 → has (wishing (row s i).wishes w) j ≡ true → w ≤ v
  wish_low w j h nz m =
      let l = leb-true w (place_at (row s i).wishes j) (tallied_gives (leb w) (row s i).wishes j (omega (arith, h.within, fair.laws.few)) m) in
      let x = (ok.each i run).wishing.heard j h.within (omega (arith, l)) in
      omega (arith, l, x.2, calm j h x.0 x.1)

  pub block_low : (w : ℕ) → w ≢ 0 → Blocking S.rule (wishing (row s i).wishes w) → w ≤ v
  block_low w nz b = elim (cases_lt v w) [
    | inr g ↦ g
    | inl l ↦ absurd (b S.foreign fair.few (λ j h m. elim (cases_Bool (has S.foreign j)) [
      | inl t ↦ t
      | inr f ↦ absurd (let g = wish_low w j (record { within = h; native = f }) nz m in omega (arith, g))
    ]))
  ]

  pub hope_low : (w : ℕ) → Hopeful S.rule (row s i).wishes w → w ≤ v
  hope_low w t = elim (cases_eq w 0) [ inl z ↦ omega arith | inr nz ↦ block_low w nz (t.here (omega arith)) ]

  pub view_low : (row s i).ballot.view ≤ v
  view_low = elim (cases_eq (row s i).ballot.view 0) [
    | inl z ↦ omega arith
    | inr nz ↦ block_low (row s i).ballot.view nz ((grounded S.rule fair.laws).blocks _ ((ok.each i run).wishing.entered nz))
  ]

module _ (S : Setting) (v : ℕ) (s : State) (calm : Calm S v s) where
  pub calm_send : (x : Message) → Room s → ((j : ℕ) → Runs S j → Of kind_wish j x → x.view ≤ v) → Calm S v (send s x)
  calm_send x room low j h k o = elim (kept.posts S.rule.size s.post s.count x room k) [
    | inl e ↦ rw e (calm j h k (rw e at o))
    | inr e ↦ rw e.1 (low j h (rw e.1 at o))
  ]
