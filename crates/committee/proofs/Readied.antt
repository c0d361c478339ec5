-- What a move does that is ready, and why one is refused that is not. Assumes nothing.
--     Sendable S s          there is room, and the post is as long as at the opening
--     Readied S s i p x     the move p, with the message x, is made next
--     readied               it is, where `ready` says so
--     within, sendable      the process has a row then, and there is room for the message m
--     unready               the move is refused, where `ready` refuses
--     move_leaves           a refused move leaves the state
use Rattle.std.proofs.Common.{◌≡◌, ℕ, ◌<◌, Bool, true, false, not, ◌&&◌, length, is_some, Some, None, Ok, Err, Option, Result, sym, refl, ap, ◌∙◌, subst, arith}
use Rattle.std.proofs.lemmas.Bool.{ltb-true, false≢true}
use Rattle.quorum.specs.Firsts.{fault_if, first, answered}
use Rattle.quorum.proofs.Found.{both_none}
use Rattle.mail.specs.declared.message.Message.{Message}
use Rattle.protocol.specs.declared.moves.Move.{Move}
use Rattle.protocol.specs.declared.moves.Plan.{Plan}
use Rattle.protocol.specs.declared.refusal.Refusal.{Refusal}
use Rattle.protocol.specs.declared.refusal.Refusal.TheVariants.{NoMove, PostFull}
use Rattle.protocol.specs.Settings.{Setting, State, row, mail, put, has_room}
use Rattle.protocol.specs.Plans.{plan, planned, sends, move_of}
use Rattle.protocol.specs.Calls.{lent_fault, run_fault, sent, place_sent, moving, move}
use Rattle.agreement.proofs.Granted.{lent_is, run_is}
use Rattle.committee.specs.Readiness.{ready_by, ready}

pub record Sendable (S : Setting) (s : State) : Type 0 where
  pub room : s.count < length s.post
  pub span : length s.post ≡ S.span

abbrev Next : Type 0
Next = Result (Plan × Option Message) Refusal

module _ (S : Setting) (s : State) (i : ℕ) where
  pub record Readied (p : Plan) (x : Option Message) : Type 0 where
    pub within : i < length s.table
    pub message : sends i (row s i) p ≡ x
    pub room : is_some x ≡ true → Sendable S s
    pub does : move S s i ≡ record { answer = Ok (move_of p, place_sent s x); state = sent (put s i (planned S.rule.size (mail S s) (row s i) p)) x }

  module _ (fit : first (lent_fault S s) (run_fault S i) ≡ None) where
    move_fit : move S s i ≡ moving S s i (row s i) (plan S.rule (mail S s) i (row s i))
    unfolding move
    move_fit = rw fit

    ready_fit : ready S s i ≡ ready_by s i (plan S.rule (mail S s) i (row s i))
    unfolding ready
    ready_fit = rw fit

    inside : (i < length s.table) × (length s.post ≡ S.span)
    inside =
        let l = (lent_is S s).0 (both_none (lent_fault S s) _ fit).0 in
        let b = ((run_is S i).0 (both_none (lent_fault S s) _ fit).1).within in
        (omega (arith, l.table, b), l.post)

    never : {A : Type 0} (y : A) (e : Refusal) → ◌≡◌ {A = Result A Refusal} (Ok y) (Err e) → ⊥
    never y e h = let z : ◌≡◌ {A = ℕ} 0 1 = cc in omega arith

    module _ (q : Plan) (planned_is : plan S.rule (mail S s) i (row s i) ≡ Some q) where
      abbrev stuck : Bool
      stuck = is_some (sends i (row s i) q) && not (has_room s)

      roomy : stuck ≡ false → is_some (sends i (row s i) q) ≡ true → Sendable S s
      roomy h some =
          let r : not (has_room s) ≡ false = rw some at h in
          record { room = ltb-true _ _ (holds (has_room s) r); span = inside.1 }
        where
          holds : (b : Bool) → not b ≡ false → b ≡ true
          holds true h = refl
          holds false h = absurd (false≢true (sym h))

      makes : stuck ≡ false → Readied q (sends i (row s i) q)
      makes free = record {
        within = inside.0;
        message = refl;
        room = roomy free;
        does = move_fit ∙ rw (planned_is, free);
      }

      readied_by : (b : Bool) → stuck ≡ b → (p : Plan) (x : Option Message) → ◌≡◌ {A = Next} (Ok (p, x)) (answered (fault_if b PostFull) (q, sends i (row s i) q)) → Readied p x
      readied_by true e p x h = absurd (never _ _ h)
      readied_by false e p x h =
          let w : ◌≡◌ {A = Plan × Option Message} (q, sends i (row s i) q) (p, x) = cc in
          let same : q ≡ p = ap (λ (y : Plan × Option Message). y.0) w in
          let that : sends i (row s i) q ≡ x = ap (λ (y : Plan × Option Message). y.1) w in
          let P : Plan → Type 0 = λ y. Readied y x in
          let R : Option Message → Type 0 = λ y. Readied q y in
          subst P same (subst R that (makes e))

      unready_by : (b : Bool) → stuck ≡ b → (e : Refusal) → ◌≡◌ {A = Next} (Err e) (answered (fault_if b PostFull) (q, sends i (row s i) q)) → move S s i ≡ record { answer = Err e; state = s }
      unready_by true h e f = let k : e ≡ PostFull = cc in move_fit ∙ rw (planned_is, h, k)
      unready_by false h e f = absurd (never _ _ (sym f))

    readied_fit : (o : Option Plan) → plan S.rule (mail S s) i (row s i) ≡ o → (p : Plan) (x : Option Message) → ◌≡◌ {A = Next} (Ok (p, x)) (ready_by s i o) → Readied p x
    readied_fit None e p x h = absurd (never _ _ h)
    readied_fit (Some q) e p x h = readied_by q e _ refl p x h

    unready_fit : (o : Option Plan) → plan S.rule (mail S s) i (row s i) ≡ o → (e : Refusal) → Err e ≡ ready_by s i o → move S s i ≡ record { answer = Err e; state = s }
    unready_fit None h e f = let k : e ≡ NoMove = cc in move_fit ∙ rw (h, k)
    unready_fit (Some q) h e f = unready_by q h _ refl e f

  pub readied : (p : Plan) (x : Option Message) → ◌≡◌ {A = Next} (Ok (p, x)) (ready S s i) → Readied p x
  unfolding ready
  readied p x h = go _ refl
    where
      go : (o : Option Refusal) → first (lent_fault S s) (run_fault S i) ≡ o → Readied p x
      go None fit = readied_fit fit _ refl p x (h ∙ ready_fit fit)
      go (Some e) fit = let k : ◌≡◌ {A = Next} (Ok (p, x)) (Err e) = rw fit at h in let z : ◌≡◌ {A = ℕ} 0 1 = cc in absurd (omega arith)

  pub within : (p : Plan) (x : Option Message) → ◌≡◌ {A = Next} (Ok (p, x)) (ready S s i) → i < length s.table
  within p x h = (readied p x h).within

  pub sendable : (p : Plan) (m : Message) → ◌≡◌ {A = Next} (Ok (p, Some m)) (ready S s i) → Sendable S s
  sendable p m h = (readied p (Some m) h).room refl

  pub unready : (e : Refusal) → Err e ≡ ready S s i → move S s i ≡ record { answer = Err e; state = s }
  unfolding ready move
  unready e h = go _ refl
    where
      go : (o : Option Refusal) → first (lent_fault S s) (run_fault S i) ≡ o → move S s i ≡ record { answer = Err e; state = s }
      go None fit = unready_fit fit _ refl e (h ∙ ready_fit fit)
      go (Some d) fit = let k : ◌≡◌ {A = Next} (Err e) (Err d) = rw fit at h in let f : e ≡ d = cc in rw (fit, f)

  pub move_leaves : (e : Refusal) → Err e ≡ (move S s i).answer → (move S s i).state ≡ s
  move_leaves e h = go _ refl
    where
      go : (r : Next) → r ≡ ready S s i → (move S s i).state ≡ s
      go (Err d) k = rw (unready d k)
      go (Ok (p, x)) k =
          let n : ◌≡◌ {A = Result (Move × ℕ) Refusal} (Err e) (Ok (move_of p, place_sent s x)) = rw (readied p x k).does at h in
          let z : ◌≡◌ {A = ℕ} 0 1 = cc in absurd (omega arith)
