-- The calls make the changes of the protocol, all of them and no others. The rule is lawful.
--     once                 a call that is no sweep makes a change, or is refused
--     chains, refusals     each call makes a chain of changes; a refused one leaves the state
--     follows, accepts     of one committee
--     exact                of every committee over two rules
--     run_reached          lists of calls lead from reached states to reached ones
use Rattle.std.proofs.Common.{◌≡◌, ℕ, Bool, List, [], ◌∷◌, Ok, Err, Result, sym, refl, subst, arith}
use Rattle.sets.specs.Rules.{Rule, Lawful}
use Rattle.quorum.proofs.Highs.{views_are}
use Rattle.protocol.specs.declared.call.Call.{Call}
use Rattle.protocol.specs.declared.call.Call.TheVariants.{Expire, Post, Deliver, MakeMove, Sweep}
use Rattle.protocol.specs.declared.call.Answer.TheVariants as answer
use Rattle.protocol.specs.declared.call.Swept.{Swept}
use Rattle.protocol.specs.declared.refusal.Refusal.{Refusal}
use Rattle.protocol.specs.Settings.{Setting, State, Outcome, row}
use Rattle.protocol.specs.Sweeps.{sweep}
use Rattle.protocol.specs.Runs.{carry_out, run}
use Rattle.protocol.specs.Protocol.{Change, Reached}
use Rattle.agreement.specs.Exactness.{Changes, Follows, Accepts, Exact}
use Rattle.agreement.proofs.Granted.{Way, stays, goes, expires_is, expire_way, posts_is, post_way}
use Rattle.agreement.proofs.Takings.{delivers_is, delivered_is, deliver_way}
use Rattle.agreement.proofs.Moved.{move_way, moved_is, moves_is, idle_is, full_move_is}
use Rattle.agreement.proofs.Endings.{ends}
use Rattle.agreement.proofs.Chains.{way_chain, sweep_chain, sweep_refused, chain_foreign, chain_reached}

module _ (S : Setting) (laws : Lawful S.rule) (s : State) where
  -- all calls but a sweep
  pub once : (c : Call) → (c ≡ Sweep → ⊥) → Way S s (carry_out S s c)
  once (Expire i) ne = elim (expire_way S s i ((views_are S.rule laws).hopeful_is (row s i).wishes)) [
    | stays e h k ↦ stays e (rw h) k
    | goes x h c ↦ goes (answer.Sent x) (rw h) c
  ]
  once (Post j p) ne = elim (post_way S s j p) [
    | stays e h k ↦ stays e (rw h) k
    | goes x h c ↦ goes (answer.Sent x) (rw h) c
  ]
  once (Deliver i k) ne = elim (deliver_way S s i k) [
    | stays e h k ↦ stays e (rw h) k
    | goes x h c ↦ goes answer.Delivered (rw h) c
  ]
  once (MakeMove i) ne = elim (move_way S laws s i) [
    | stays e h k ↦ stays e (rw h) k
    | goes x h c ↦ goes (answer.Moved x.0 x.1) (rw h) c
  ]
  once Sweep ne = absurd (ne refl)

  way_refused : {A : Type 0} (o : Outcome A) (e : Refusal) → Way S s o → o.answer ≡ Err e → o.state ≡ s
  way_refused o e (stays d h k) a = k
  way_refused o e (goes x h c) a = let z : ◌≡◌ {A = ℕ} 0 1 = cc in absurd (omega arith)

  way_change : {A : Type 0} (o : Outcome A) → ((e : Refusal) → o.answer ≡ Err e → ⊥) → Way S s o → Change S s o.state
  way_change o fine (stays e h k) = absurd (fine e h)
  way_change o fine (goes x h c) = c

  pub chains : (c : Call) → Changes S s (carry_out S s c).state
  chains (Expire i) = way_chain S s _ (once (Expire i) (λ e. let z : ◌≡◌ {A = ℕ} 0 1 = cc in omega arith))
  chains (Post j p) = way_chain S s _ (once (Post j p) (λ e. let z : ◌≡◌ {A = ℕ} 0 1 = cc in omega arith))
  chains (Deliver i k) = way_chain S s _ (once (Deliver i k) (λ e. let z : ◌≡◌ {A = ℕ} 0 1 = cc in omega arith))
  chains (MakeMove i) = way_chain S s _ (once (MakeMove i) (λ e. let z : ◌≡◌ {A = ℕ} 0 1 = cc in omega arith))
  chains Sweep = sweep_chain S laws s

  refusals : (c : Call) (e : Refusal) → (carry_out S s c).answer ≡ Err e → (carry_out S s c).state ≡ s
  refusals (Expire i) e h = way_refused _ e (once (Expire i) (λ f. let z : ◌≡◌ {A = ℕ} 0 1 = cc in omega arith)) h
  refusals (Post j p) e h = way_refused _ e (once (Post j p) (λ f. let z : ◌≡◌ {A = ℕ} 0 1 = cc in omega arith)) h
  refusals (Deliver i k) e h = way_refused _ e (once (Deliver i k) (λ f. let z : ◌≡◌ {A = ℕ} 0 1 = cc in omega arith)) h
  refusals (MakeMove i) e h = way_refused _ e (once (MakeMove i) (λ f. let z : ◌≡◌ {A = ℕ} 0 1 = cc in omega arith)) h
  refusals Sweep e h = sweep_refusals (sweep S s).answer refl h
    where
      sweep_refusals : (x : Result Swept Refusal) → (sweep S s).answer ≡ x → (carry_out S s Sweep).answer ≡ Err e → (sweep S s).state ≡ s
      sweep_refusals (Ok x) f h = let g = rw f at h in let z : ◌≡◌ {A = ℕ} 0 1 = cc in absurd (omega arith)
      sweep_refusals (Err d) f h = sweep_refused S laws s d f

  pub follows : Follows S s
  follows = record {
    refused = refusals;
    chain = chains;
    single = λ c ne fine. way_change _ fine (once c ne);
    foreign = λ c j out. chain_foreign j out (chains c);
  }

  pub accepts : Accepts S s
  accepts = record {
    hopes = (views_are S.rule laws).hopeful_is;
    settles = (views_are S.rule laws).settled_is;
    delivers = delivers_is S s;
    delivered = delivered_is S s;
    moves = λ i x. moves_is S laws s i x;
    moved = λ i p. moved_is S laws s i p;
    idle = idle_is S laws s;
    full = full_move_is S laws s;
    expires = λ i k. expires_is S s i k;
    posts = λ j k p. posts_is S s j p k;
  }

pub exact : (m : Rule) (valid : ℕ → Bool) → Lawful m → Exact m valid
exact m valid laws = record {
  follows = λ S s e f. follows S (subst Lawful (sym e) laws) s;
  accepts = λ S s e f. accepts S (subst Lawful (sym e) laws) s;
  ends = λ S e f. ends S (subst Lawful (sym e) laws);
}

pub run_reached : (S : Setting) → Lawful S.rule → (s : State) (cs : List Call) → Reached S s → Reached S (run S s cs)
run_reached S laws s [] h = h
run_reached S laws s (c ∷ cs) h = run_reached S laws (carry_out S s c).state cs (chain_reached (chains S laws s c) h)
