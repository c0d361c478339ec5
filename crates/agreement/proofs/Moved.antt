-- A move is made, or refused, exactly when the protocol says so. The rule is lawful.
--     fits_is, full_is         what a move that sends asks of the post
--     move_way                 a move makes a change, or is refused
--     moved_is                 the state after the first possible move
--     moves_is, idle_is, full_move_is      when it is made, when there is none, when the post is full
--     Made S laws s i t, made_by           what an accepted move is
--     not_full                             a refusal that is not for want of room: no move is possible
use Rattle.std.proofs.Common.{◌≡◌, ℕ, ◌≤◌, Bool, true, false, not, ◌&&◌, eqb, ltb, ◌≢◌, length, is_some, Some, None, Ok, Err, Option, refl, subst, inl, inr, arith}
use Rattle.std.proofs.lemmas.Bool.{ltb-true, lt-ltb, cases_lt, le-ltb, both_ways}
use Rattle.sets.specs.Sets.{has}
use Rattle.sets.specs.Rules.{Lawful}
use Rattle.quorum.specs.Firsts.{fault_if, first}
use Rattle.quorum.proofs.Found.{both_none, none_both, holds_then}
use Rattle.mail.specs.declared.message.Message.{Message}
use Rattle.mail.specs.Trust.{Exactly}
use Rattle.protocol.specs.declared.moves.Move.{Move}
use Rattle.protocol.specs.declared.moves.Plan.{Plan}
use Rattle.protocol.specs.declared.refusal.Refusal.{Refusal}
use Rattle.protocol.specs.declared.refusal.Refusal.TheVariants.{ShortTable, PostLength, NoProcess, Foreign, PostFull, NoMove}
use Rattle.protocol.specs.Numbers.{refusal_numbers}
use Rattle.protocol.specs.Settings.{Setting, State, Runs, row, mail, has_room}
use Rattle.protocol.specs.Plans.{plan, sends, move_of}
use Rattle.protocol.specs.Calls.{lent_fault, run_fault, made, place_sent, moving, after, move}
use Rattle.protocol.specs.Sweeps.{is_full}
use Rattle.protocol.specs.Protocol.{Can, Room, makes, stepped}
use Rattle.agreement.specs.Exactness.{Lent, First}
use Rattle.agreement.proofs.Granted.{Way, stays, granted, granted_state, refused_is, ways, lent_is, run_is}
use Rattle.agreement.proofs.Planned.{Right, plan_right, first_planned}

-- the tests before any move have numbers of their own
early : (a b c d : Bool) (e : Refusal) → first (first (fault_if a ShortTable) (fault_if b PostLength)) (first (fault_if c NoProcess) (fault_if d Foreign)) ≡ Some e → (refusal_numbers e).number ≤ 6
early true b c d e h = let f : ShortTable ≡ e = cc in subst (λ (x : Refusal). (refusal_numbers x).number ≤ 6) f (omega arith)
early false true c d e h = let f : PostLength ≡ e = cc in subst (λ (x : Refusal). (refusal_numbers x).number ≤ 6) f (omega arith)
early false false true d e h = let f : NoProcess ≡ e = cc in subst (λ (x : Refusal). (refusal_numbers x).number ≤ 6) f (omega arith)
early false false false true e h = let f : Foreign ≡ e = cc in subst (λ (x : Refusal). (refusal_numbers x).number ≤ 6) f (omega arith)
early false false false false e h = let z : ◌≡◌ {A = ℕ} 0 1 = cc in absurd (omega arith)

only_full : (b : Bool) → fault_if b PostFull ≡ Some NoMove → ⊥
only_full true h = let z : ◌≡◌ {A = ℕ} 0 1 = cc in omega arith
only_full false h = let z : ◌≡◌ {A = ℕ} 0 1 = cc in omega arith

module _ (s : State) where
  abbrev pub sent_fault : Option Message → Option Refusal
  sent_fault o = fault_if (is_some o && not (has_room s)) PostFull

  pub fits_is : (o : Option Message) → Exactly (sent_fault o ≡ None) (o ≢ None → Room s)
  fits_is None = ((λ _ ne. absurd (ne refl)), (λ _. refl))
  fits_is (Some x) = (
    (λ h _. ltb-true s.count (length s.post) ((holds_then (has_room s) _).0 h)),
    (λ h. (holds_then (has_room s) _).1 (lt-ltb s.count (length s.post) (h (λ e. let z : ◌≡◌ {A = ℕ} 0 1 = cc in omega arith)))),
  )

  full_is : (o : Option Message) → Exactly (sent_fault o ≡ Some PostFull) ((o ≢ None) × (Room s → ⊥))
  full_is None = ((λ h. let z : ◌≡◌ {A = ℕ} 0 1 = cc in absurd (omega arith)), (λ h. absurd (h.0 refl)))
  full_is (Some x) = (
    (λ h. (
      (λ e. let z : ◌≡◌ {A = ℕ} 0 1 = cc in omega arith),
      (λ room. let n = (holds_then (has_room s) PostFull).1 (lt-ltb s.count (length s.post) room) in let z : ◌≡◌ {A = ℕ} 0 1 = cc in omega arith),
    )),
    (λ h. elim (cases_lt s.count (length s.post)) [
      | inl room ↦ absurd (h.1 room)
      | inr g ↦ rw (le-ltb s.count (length s.post) g)
    ]),
  )

module _ (S : Setting) (laws : Lawful S.rule) (s : State) (i : ℕ) where
  abbrev planning : Option Plan
  planning = plan S.rule (mail S s) i (row s i)

  abbrev before : Option Refusal
  before = first (lent_fault S s) (run_fault S i)

  abbrev Good : Option Plan → Type 0
  Good = Right S.rule laws (mail S s) i (row s i)

  pub before_is : Exactly (before ≡ None) (Lent S s × Runs S i)
  before_is = (
    (λ h. let b = both_none (lent_fault S s) (run_fault S i) h in ((lent_is S s).0 b.0, (run_is S i).0 b.1)),
    (λ h. none_both _ _ ((lent_is S s).1 h.0) ((run_is S i).1 h.1)),
  )

  before_low : (e : Refusal) → before ≡ Some e → (refusal_numbers e).number ≤ 6
  before_low e h = early (ltb (length s.table) S.rule.size) (not (eqb (length s.post) S.span)) (not (ltb i S.rule.size)) (has S.foreign i) e h

  pub right : Good planning
  right = plan_right S.rule laws (mail S s) i (row s i)

  pub move_way : Way S s (move S s i)
  unfolding move
  move_way = go before planning before_is.0 right
    where
      go : (o : Option Refusal) (q : Option Plan) → (o ≡ None → Lent S s × Runs S i) → Good q → Way S s (after s o (moving S s i (row s i) q))
      go (Some e) q h g = stays e refl refl
      go None None h g = stays NoMove refl refl
      go None (Some p) h g = ways s S _ _ _ (λ n. stepped i (h refl).1 (makes p g.0 ((fits_is s (sends i (row s i) p)).0 n)))

  made_first : (p : Plan) → Lent S s → Runs S i → First S s i p → (sends i (row s i) p ≢ None → Room s) →
      ((move S s i).answer ≡ Ok (move_of p, place_sent s (sends i (row s i) p))) × ((move S s i).state ≡ made S s i (row s i) p)
  unfolding move
  made_first p l u f fit = go before planning (before_is.1 (l, u)) (first_planned S.rule laws (mail S s) i (row s i) p f.can f.lowest)
    where
      go : (o : Option Refusal) (q : Option Plan) → o ≡ None → q ≡ Some p →
          ((after s o (moving S s i (row s i) q)).answer ≡ Ok (move_of p, place_sent s (sends i (row s i) p))) × ((after s o (moving S s i (row s i) q)).state ≡ made S s i (row s i) p)
      go o q a b =
          let n = (fits_is s (sends i (row s i) p)).1 fit in
          rw (a, b) ((granted s (sent_fault s (sends i (row s i) p)) _ _ (made S s i (row s i) p)).1 (n, refl), granted_state s (sent_fault s (sends i (row s i) p)) _ (made S s i (row s i) p) n)

  pub moved_is : (p : Plan) → Lent S s → Runs S i → First S s i p → (sends i (row s i) p ≢ None → Room s) → (move S s i).state ≡ made S s i (row s i) p
  moved_is p l u f fit = (made_first p l u f fit).1

  abbrev Makes : Move × ℕ → Type 0
  Makes x = Lent S s × Runs S i × ((p : Plan) × First S s i p × (sends i (row s i) p ≢ None → Room s) × (x ≡ (move_of p, place_sent s (sends i (row s i) p))))

  pub moves_is : (x : Move × ℕ) → Exactly ((move S s i).answer ≡ Ok x) (Makes x)
  unfolding move
  moves_is x = (go before planning before_is.0 right, (λ h. rw h.2.3 (made_first h.2.0 h.0 h.1 h.2.1 h.2.2).0))
    where
      go : (o : Option Refusal) (q : Option Plan) → (o ≡ None → Lent S s × Runs S i) → Good q → (after s o (moving S s i (row s i) q)).answer ≡ Ok x → Makes x
      go (Some e) q h g k = let z : ◌≡◌ {A = ℕ} 0 1 = cc in absurd (omega arith)
      go None None h g k = let z : ◌≡◌ {A = ℕ} 0 1 = cc in absurd (omega arith)
      go None (Some p) h g k =
          let b = (granted s (sent_fault s (sends i (row s i) p)) _ x (made S s i (row s i) p)).0 k in
          ((h refl).0, (h refl).1, (p, record { can = g.0; lowest = g.1 }, (fits_is s (sends i (row s i) p)).0 b.0, b.1))

  pub idle_is : Exactly ((move S s i).answer ≡ Err NoMove) (Lent S s × Runs S i × ((p : Plan) → Can S.rule (mail S s) i (row s i) p → ⊥))
  unfolding move
  idle_is = (go before planning before_is.0 before_low right, (λ h. back before planning (before_is.1 (h.0, h.1)) right h.2))
    where
      go : (o : Option Refusal) (q : Option Plan) → (o ≡ None → Lent S s × Runs S i) → ((e : Refusal) → o ≡ Some e → (refusal_numbers e).number ≤ 6) → Good q →
          (after s o (moving S s i (row s i) q)).answer ≡ Err NoMove → Lent S s × Runs S i × ((p : Plan) → Can S.rule (mail S s) i (row s i) p → ⊥)
      go (Some e) q h low g a = let f : e ≡ NoMove = cc in let k = low e refl in let k' = subst (λ (x : Refusal). (refusal_numbers x).number ≤ 6) f k in absurd (omega arith)
      go None None h low g a = ((h refl).0, (h refl).1, g)
      go None (Some p) h low g a = absurd (only_full (is_some (sends i (row s i) p) && not (has_room s)) (refused_is s (sent_fault s (sends i (row s i) p)) _ (made S s i (row s i) p) NoMove a))

      back : (o : Option Refusal) (q : Option Plan) → o ≡ None → Good q → ((p : Plan) → Can S.rule (mail S s) i (row s i) p → ⊥) → (after s o (moving S s i (row s i) q)).answer ≡ Err NoMove
      back o None a g h = rw a
      back o (Some p) a g h = absurd (h p g.0)

  pub full_move_is : Exactly ((move S s i).answer ≡ Err PostFull) (Lent S s × Runs S i × ((p : Plan) × First S s i p × (sends i (row s i) p ≢ None) × (Room s → ⊥)))
  unfolding move
  full_move_is = (
    go before planning before_is.0 before_low right,
    (λ h. back before planning h.2.0 (before_is.1 (h.0, h.1)) (first_planned S.rule laws (mail S s) i (row s i) h.2.0 h.2.1.can h.2.1.lowest) (h.2.2, h.2.3)),
  )
    where
      go : (o : Option Refusal) (q : Option Plan) → (o ≡ None → Lent S s × Runs S i) → ((e : Refusal) → o ≡ Some e → (refusal_numbers e).number ≤ 6) → Good q →
          (after s o (moving S s i (row s i) q)).answer ≡ Err PostFull → Lent S s × Runs S i × ((p : Plan) × First S s i p × (sends i (row s i) p ≢ None) × (Room s → ⊥))
      go (Some e) q h low g a = let f : e ≡ PostFull = cc in let k = low e refl in let k' = subst (λ (x : Refusal). (refusal_numbers x).number ≤ 6) f k in absurd (omega arith)
      go None None h low g a = let z : ◌≡◌ {A = ℕ} 0 1 = cc in absurd (omega arith)
      go None (Some p) h low g a =
          let b = (full_is s (sends i (row s i) p)).0 (refused_is s (sent_fault s (sends i (row s i) p)) _ (made S s i (row s i) p) PostFull a) in
          ((h refl).0, (h refl).1, (p, record { can = g.0; lowest = g.1 }, b.0, b.1))

      back : (o : Option Refusal) (q : Option Plan) (p : Plan) → o ≡ None → q ≡ Some p → (sends i (row s i) p ≢ None) × (Room s → ⊥) → (after s o (moving S s i (row s i) q)).answer ≡ Err PostFull
      back o q p a b h = let f = (full_is s (sends i (row s i) p)).1 h in rw (a, b, f)

  -- what an accepted move is
  pub record Made (t : State) : Type 0 where
    pub runs : Runs S i
    pub by : Plan
    pub can : Can S.rule (mail S s) i (row s i) by
    pub fit : sends i (row s i) by ≢ None → Room s
    pub is : t ≡ made S s i (row s i) by

  pub made_by : (a : Move × ℕ) → (move S s i).answer ≡ Ok a → Made (move S s i).state
  unfolding move
  made_by a = go before planning before_is.0 right
    where
      go : (o : Option Refusal) (q : Option Plan) → (o ≡ None → Lent S s × Runs S i) → Good q → (after s o (moving S s i (row s i) q)).answer ≡ Ok a → Made (after s o (moving S s i (row s i) q)).state
      go (Some e) q h g k = let z : ◌≡◌ {A = ℕ} 0 1 = cc in absurd (omega arith)
      go None None h g k = let z : ◌≡◌ {A = ℕ} 0 1 = cc in absurd (omega arith)
      go None (Some p) h g k =
          let f = sent_fault s (sends i (row s i) p) in
          let n = ((granted s f _ a (made S s i (row s i) p)).0 k).0 in
          record { runs = (h refl).1; by = p; can = g.0; fit = (fits_is s (sends i (row s i) p)).0 n; is = granted_state s f _ (made S s i (row s i) p) n }

  -- a refusal of a run process that is not for want of room
  pub not_full : Lent S s → Runs S i → (e : Refusal) → is_full e ≡ false → (move S s i).answer ≡ Err e → (move S s i).answer ≡ Err NoMove
  unfolding move
  not_full l u e un = go before planning (before_is.1 (l, u))
    where
      go : (o : Option Refusal) (q : Option Plan) → o ≡ None → (after s o (moving S s i (row s i) q)).answer ≡ Err e → (after s o (moving S s i (row s i) q)).answer ≡ Err NoMove
      go (Some f) q h k = let z : ◌≡◌ {A = ℕ} 0 1 = cc in absurd (omega arith)
      go None None h k = refl
      go None (Some p) h k = absurd (both_ways (is_full e) un (full_only (is_some (sends i (row s i) p) && not (has_room s)) (refused_is s (sent_fault s (sends i (row s i) p)) _ (made S s i (row s i) p) e k)))
        where
          full_only : (b : Bool) → fault_if b PostFull ≡ Some e → is_full e ≡ true
          full_only true x = let f : PostFull ≡ e = cc in subst (λ (y : Refusal). is_full y ≡ true) f refl
          full_only false x = let z : ◌≡◌ {A = ℕ} 0 1 = cc in absurd (omega arith)
