-- A delivery, a move and a post keep a committee at work in its view.
--     Going S v s              s is reached and calm
--     Passes S v s t           from s to t all goes onward, to a state that is reached and calm
--     passes_refl, passes_trans
--     accepts, is_lent         what holds at every such state
--     delivers, moves, posts   each of the three calls passes
use Rattle.std.proofs.Common.{◌≡◌, ℕ, ◌+◌, ◌≢◌, Some, None, Ok, Err, Option, Result, refl, arith}
use Rattle.std.proofs.lemmas.Bool.{both_ways}
use Rattle.sets.specs.Sets.{has}
use Rattle.protocol.specs.declared.row.Row.{Row}
use Rattle.protocol.specs.declared.moves.Move.{Move}
use Rattle.protocol.specs.declared.moves.Plan.{Plan}
use Rattle.protocol.specs.declared.call.Call.{Call}
use Rattle.protocol.specs.declared.call.Call.TheVariants.{Post, Deliver, MakeMove, Sweep}
use Rattle.protocol.specs.declared.call.Posting.{Posting}
use Rattle.protocol.specs.declared.call.Answer.{Answer}
use Rattle.protocol.specs.declared.call.Answer.TheVariants as answer
use Rattle.protocol.specs.declared.refusal.Refusal.{Refusal}
use Rattle.protocol.specs.Settings.{Setting, State, outcome, Runs, row, mail, put, send}
use Rattle.protocol.specs.Plans.{sends}
use Rattle.protocol.specs.Calls.{addressed, post, taken, deliver, made, move}
use Rattle.protocol.specs.Runs.{carry_out}
use Rattle.protocol.specs.Protocol.{Can, Room, Reached}
use Rattle.protocol.specs.Protocol.Reached.{after}
use Rattle.agreement.specs.Exactness.{Lent, Follows, Accepts, Exact}
use Rattle.agreement.proofs.Invariant.{Fair}
use Rattle.agreement.proofs.Lively.{vivid}
use Rattle.agreement.proofs.Calm.{Onward, onward_refl, onward_trans, onward_change, lent, Calm, hope_low, calm_send}
use Rattle.agreement.proofs.Granted.{granted, granted_state}
use Rattle.agreement.proofs.Moved.{made_by}
use Rattle.protocol.specs.Protocol.Can.{relay, take_up, propose, vote, lock, decide}

pub record Going (S : Setting) (v : ℕ) (s : State) : Type 0 where
  pub reached : Reached S s
  pub calm : Calm S v s

pub record Passes (S : Setting) (v : ℕ) (s t : State) : Type 0 where
  pub onward : Onward S s t
  pub going : Going S v t

pub passes_refl : (S : Setting) (v : ℕ) (s : State) → Going S v s → Passes S v s s
passes_refl S v s g = record { onward = onward_refl S s; going = g }

pub passes_trans : {S : Setting} {v : ℕ} {s t u : State} → Passes S v s t → Passes S v t u → Passes S v s u
passes_trans a b = record { onward = onward_trans a.onward b.onward; going = b.going }

module _ (S : Setting) (fair : Fair S) (exact : Exact S.rule S.valid) (v : ℕ) where
  module _ (s : State) (g : Going S v s) where
    follows : Follows S s
    follows = exact.follows S s refl refl

    pub accepts : Accepts S s
    accepts = exact.accepts S s refl refl

    pub is_lent : Lent S s
    is_lent = lent S fair.laws.few g.reached

    -- a call that is no sweep, and keeps the committee calm
    accepted : (c : Call) → (c ≡ Sweep → ⊥) → (a : Answer) → (carry_out S s c).answer ≡ Ok a → Calm S v (carry_out S s c).state → Passes S v s (carry_out S s c).state
    accepted c nc a h calm =
        let ch = follows.single c nc (λ e k. let z : ◌≡◌ {A = ℕ} 0 1 = cc in omega arith) in
        record { onward = onward_change S fair.laws.few ch; going = record { reached = after g.reached ch; calm = calm } }

    refused : (c : Call) (e : Refusal) → (carry_out S s c).answer ≡ Err e → Passes S v s (carry_out S s c).state
    refused c e h = rw (follows.refused c e h) (passes_refl S v s g)

    deliver_calm : (o : Option Refusal) (i : ℕ) (r : Row) → Calm S v (outcome {A = Unit {0}} s o tt (put s i r)).state
    deliver_calm None i r = g.calm
    deliver_calm (Some e) i r = g.calm

    delivered_calm : (i k : ℕ) → Calm S v (deliver S s i k).state
    unfolding deliver
    delivered_calm i k = deliver_calm _ i (taken (mail S s) (row s i) k)

    pub delivers : (i k : ℕ) → Passes S v s (deliver S s i k).state
    delivers i k = go (deliver S s i k).answer refl
      where
        go : (o : Result (Unit {0}) Refusal) → (deliver S s i k).answer ≡ o → Passes S v s (deliver S s i k).state
        go (Err e) h = refused (Deliver i k) e (rw h)
        go (Ok a) h = accepted (Deliver i k) (λ e. let z : ◌≡◌ {A = ℕ} 0 1 = cc in omega arith) answer.Delivered (rw h) (delivered_calm i k)

    made_calm : (i : ℕ) → Runs S i → (p : Plan) → Can S.rule (mail S s) i (row s i) p → (sends i (row s i) p ≢ None → Room s) → Calm S v (made S s i (row s i) p)
    made_calm i run p (relay w hope l) fit =
        calm_send S v s g.calm _ (fit (λ e. let z : ◌≡◌ {A = ℕ} 0 1 = cc in omega arith))
        (λ j h o. hope_low S fair v s (vivid S fair g.reached) g.calm i run w hope)
    made_calm i run p (take_up w hope settles l) fit = calm_send S v s g.calm _ (fit (λ e. let z : ◌≡◌ {A = ℕ} 0 1 = cc in omega arith)) (λ j h o. absurd (omega (arith, o.kind_is)))
    made_calm i run p (propose a lead un q ch) fit = calm_send S v s g.calm _ (fit (λ e. let z : ◌≡◌ {A = ℕ} 0 1 = cc in omega arith)) (λ j h o. absurd (omega (arith, o.kind_is)))
    made_calm i run p (vote is some) fit = calm_send S v s g.calm _ (fit (λ e. let z : ◌≡◌ {A = ℕ} 0 1 = cc in omega arith)) (λ j h o. absurd (omega (arith, o.kind_is)))
    made_calm i run p (lock is q) fit = calm_send S v s g.calm _ (fit (λ e. let z : ◌≡◌ {A = ℕ} 0 1 = cc in omega arith)) (λ j h o. absurd (omega (arith, o.kind_is)))
    made_calm i run p (decide is un q) fit = g.calm

    pub moves : (i : ℕ) → Passes S v s (move S s i).state
    moves i = go (move S s i).answer refl
      where
        go : (o : Result (Move × ℕ) Refusal) → (move S s i).answer ≡ o → Passes S v s (move S s i).state
        go (Err e) h = refused (MakeMove i) e (rw h)
        go (Ok a) h =
            let y = made_by S fair.laws s i a h in
            accepted (MakeMove i) (λ e. let z : ◌≡◌ {A = ℕ} 0 1 = cc in omega arith) (answer.Moved a.0 a.1) (rw h) (rw y.is (made_calm i y.runs y.by y.can y.fit))

    posted_is : (j k : ℕ) (p : Posting) → (post S s j p).answer ≡ Ok k → (post S s j p).state ≡ send s (addressed j p)
    unfolding post
    posted_is j k p h = granted_state s _ (s.count + 1) (send s (addressed j p)) ((granted s _ (s.count + 1) k (send s (addressed j p))).0 h).0

    pub posts : (j : ℕ) (p : Posting) → Passes S v s (post S s j p).state
    posts j p = go (post S s j p).answer refl
      where
        go : (o : Result ℕ Refusal) → (post S s j p).answer ≡ o → Passes S v s (post S s j p).state
        go (Err e) h = refused (Post j p) e (rw h)
        go (Ok k) h =
            let y = (accepts.posts j k p).0 h in
            accepted (Post j p) (λ e. let z : ◌≡◌ {A = ℕ} 0 1 = cc in omega arith) (answer.Sent k) (rw h)
            (rw (posted_is j k p h) (calm_send S v s g.calm (addressed j p) y.4 (λ n run o. absurd (both_ways (has S.foreign n) run.native (rw o.sender_is at y.2)))))
