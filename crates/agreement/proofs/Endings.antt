-- The moves of a process end. The rule is lawful.
--     todo m r                 how much a process with the row r has left to do, at most 10
--     can_less                 a possible move leaves less to do
--     made_table, made_row     the table after a move, and the row of the process
--     settle_ok, settle_err    a process that settles: a move that is made, and one that is refused
--     move_less                a move that is made leaves less to do
--     ends                     so moves until one is refused end by a refusal
use Rattle.std.proofs.Common.{◌≡◌, ℕ, zero, suc, ◌+◌, ◌*◌, ◌<◌, ◌≤◌, Bool, true, false, cond, not, ltb, length, set, Some, None, Ok, Err, Option, Result, sym, refl, ap, subst, arith}
use Rattle.std.proofs.lemmas.List.{get_or-set_same}
use Rattle.std.proofs.lemmas.Bool.{lt-ltb, le-ltb}
use Rattle.sets.specs.Rules.{Rule, Lawful}
use Rattle.quorum.specs.Wishes.{hopeful, settled}
use Rattle.quorum.proofs.Highs.{views_are}
use Rattle.mail.specs.declared.message.Message.{Message}
use Rattle.protocol.specs.declared.row.Row.{Row}
use Rattle.protocol.specs.declared.row.Decision.{Decision}
use Rattle.protocol.specs.declared.row.Phase.{Phase}
use Rattle.protocol.specs.declared.row.Phase.TheVariants.{Fresh, Voted, Locked}
use Rattle.protocol.specs.declared.moves.Move.{Move}
use Rattle.protocol.specs.declared.moves.Plan.{Plan}
use Rattle.protocol.specs.declared.refusal.Refusal.{Refusal}
use Rattle.protocol.specs.Settings.{Setting, State, Runs, row, mail, put}
use Rattle.protocol.specs.Rows.{blank_row}
use Rattle.protocol.specs.Plans.{planned, sends}
use Rattle.protocol.specs.Calls.{made, moving, after, move}
use Rattle.protocol.specs.Sweeps.{Sweeping, is_full, settle}
use Rattle.protocol.specs.Protocol.{Can, relay, take_up, propose, vote, lock, decide}
use Rattle.agreement.specs.Exactness.{Lent}
use Rattle.agreement.proofs.Places.{sent_table}
use Rattle.agreement.proofs.Granted.{granted, granted_state}
use Rattle.agreement.proofs.Choices.{highest_same}
use Rattle.agreement.proofs.Planned.{Right}
use Rattle.agreement.proofs.Moved.{sent_fault, before_is, right}

bit : Bool → ℕ
bit true = 1
bit false = 0

bit_true : (b : Bool) → b ≡ true → bit b ≡ 1
unfolding bit
bit_true b e = rw e

bit_false : (b : Bool) → b ≡ false → bit b ≡ 0
unfolding bit
bit_false b e = rw e

bit_low : (b : Bool) → bit b ≤ 1
unfolding bit
bit_low true = omega arith
bit_low false = omega arith

abbrev undecided : Option Decision → ℕ
undecided None = 1
undecided (Some d) = 0

abbrev steps_left : Phase → ℕ
steps_left Fresh = 2
steps_left Voted = 1
steps_left Locked = 0

few_left : (p : Phase) → steps_left p ≤ 2
few_left Fresh = omega arith
few_left Voted = omega arith
few_left Locked = omega arith

few_undecided : (o : Option Decision) → undecided o ≤ 1
few_undecided None = omega arith
few_undecided (Some d) = omega arith

todo : Rule → Row → ℕ
todo m r = bit (ltb r.relayed (hopeful m r.wishes)) + 5 * bit (ltb r.ballot.view (settled m r.wishes)) + bit (not r.ballot.proposed) + steps_left r.ballot.phase + undecided r.decision

todo_low : (m : Rule) (r : Row) → todo m r ≤ 10
unfolding todo
todo_low m r = omega (arith, bit_low (ltb r.relayed (hopeful m r.wishes)), bit_low (ltb r.ballot.view (settled m r.wishes)), bit_low (not r.ballot.proposed), few_left r.ballot.phase, few_undecided r.decision)

module _ (m : Rule) (laws : Lawful m) (M : ℕ → Message) (i : ℕ) (r : Row) (n : ℕ) where
  can_less : (p : Plan) → Can m M i r p → todo m (planned n M r p) < todo m r
  unfolding todo
  can_less _ (relay w h l) =
      let hope = hopeful m r.wishes in
      let e = highest_same _ w hope h ((views_are m laws).hopeful_is r.wishes) in
      omega (arith, bit_true (ltb r.relayed hope) (lt-ltb r.relayed hope (omega arith)), bit_false (ltb w hope) (le-ltb w hope (omega arith)))
  can_less _ (take_up w h t l) =
      let sure = settled m r.wishes in
      let e = highest_same _ w sure t ((views_are m laws).settled_is r.wishes) in
      omega (arith, bit_true (ltb r.ballot.view sure) (lt-ltb r.ballot.view sure (omega arith)), bit_false (ltb w sure) (le-ltb w sure (omega arith)), bit_low (not false))
  can_less _ (propose a l p q c) = omega (arith, bit_true (not r.ballot.proposed) (ap not p), bit_false (not true) refl)
  can_less _ (vote p h) = rw p (omega arith)
  can_less _ (lock p q) = rw p (omega arith)
  can_less _ (decide p d q) = rw d (omega arith)

pub made_table : (S : Setting) (s : State) (i : ℕ) (p : Plan) → (made S s i (row s i) p).table ≡ set s.table i (planned S.rule.size (mail S s) (row s i) p)
made_table S s i p = sent_table S (put s i (planned S.rule.size (mail S s) (row s i) p)) (sends i (row s i) p)

-- one move more of a process that settles
module _ (S : Setting) (i : ℕ) where
  abbrev pub moved : Sweeping → Sweeping
  moved w = record { state = (move S w.state i).state; accepted = w.accepted; moves = w.moves + 1; stopped = w.stopped }

  pub settle_ok : (n : ℕ) (w : Sweeping) (a : Move × ℕ) → (move S w.state i).answer ≡ Ok a → settle (suc n) S i w ≡ settle n S i (moved w)
  unfolding settle
  settle_ok n w a h = rw (h, settle)

  abbrev pub halted : Sweeping → Refusal → Sweeping
  halted w e = record { state = w.state; accepted = w.accepted; moves = w.moves; stopped = w.stopped + cond (is_full e) 1 0 }

  pub settle_err : (n : ℕ) (w : Sweeping) (e : Refusal) → (move S w.state i).answer ≡ Err e → settle (suc n) S i w ≡ halted w e
  unfolding settle
  settle_err n w e h = rw (h, settle)

module _ (S : Setting) (laws : Lawful S.rule) (i : ℕ) where
  made_row : (s : State) (p : Plan) → i < length s.table → row (made S s i (row s i) p) i ≡ planned S.rule.size (mail S s) (row s i) p
  made_row s p l =
      let r = planned S.rule.size (mail S s) (row s i) p in
      rw (made_table S s i p) (get_or-set_same s.table i r blank_row l)

  move_less : (s : State) (a : Move × ℕ) → (move S s i).answer ≡ Ok a → todo S.rule (row (move S s i).state i) < todo S.rule (row s i)
  unfolding move
  move_less s a = go _ _ (before_is S laws s i).0 (right S laws s i)
    where
      go : (o : Option Refusal) (q : Option Plan) → (o ≡ None → Lent S s × Runs S i) → Right S.rule laws (mail S s) i (row s i) q → (after s o (moving S s i (row s i) q)).answer ≡ Ok a →
          todo S.rule (row (after s o (moving S s i (row s i) q)).state i) < todo S.rule (row s i)
      go (Some e) q h g k = let z : ◌≡◌ {A = ℕ} 0 1 = cc in absurd (omega arith)
      go None None h g k = let z : ◌≡◌ {A = ℕ} 0 1 = cc in absurd (omega arith)
      go None (Some p) h g k =
          let f = sent_fault s (sends i (row s i) p) in
          let n = ((granted s f _ a (made S s i (row s i) p)).0 k).0 in
          let wide = (h refl).0.table in
          let inside = (h refl).1.within in
          rw (granted_state s f _ (made S s i (row s i) p) n, made_row s p (omega arith)) (can_less S.rule laws (mail S s) i (row s i) S.rule.size p g.0)

  abbrev Halts : Sweeping → Sweeping → Type 0
  Halts w x = (e : Refusal) × ((move S x.state i).answer ≡ Err e) × (x.stopped ≡ w.stopped + cond (is_full e) 1 0)

  settles : (n : ℕ) (w : Sweeping) → todo S.rule (row w.state i) < n → Halts w (settle n S i w)
  settles zero w l = absurd (omega arith)
  settles (suc n) w l = go (move S w.state i).answer refl (λ a e. settles n (moved S i w) (let d = move_less w.state a e in omega arith))
    where
      go : (x : Result (Move × ℕ) Refusal) → (move S w.state i).answer ≡ x → ((a : Move × ℕ) → (move S w.state i).answer ≡ Ok a → Halts w (settle n S i (moved S i w))) → Halts w (settle (suc n) S i w)
      go (Ok a) h ih = subst (Halts w) (sym (settle_ok S i n w a h)) (ih a h)
      go (Err e) h ih = subst (Halts w) (sym (settle_err S i n w e h)) (e, h, refl)

  pub ends : (w : Sweeping) → Halts w (settle 12 S i w)
  ends w = settles 12 w (let l = todo_low S.rule (row w.state i) in omega arith)
