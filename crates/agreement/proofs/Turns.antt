-- The turns of a sweep.
--     ended S c i w            a sweep after the turn of process i, with c messages posted before
--     all_given, from_delivered, to_end      deliveries and turns pass
--     stays                    a run process that is in v stays there
--     Turned S v c s i t       the turn of process i, somewhere between s and t
--     sweeps, turned           a sweep passes, and each run process has a turn in one that met no full post
use Rattle.std.proofs.Common.{◌≡◌, ℕ, zero, suc, ◌+◌, ◌<◌, ◌≤◌, Bool, true, false, cond, eqb, length, Ok, Err, Result, sym, refl, subst, inl, inr, not-suc-le-zero, arith}
use Rattle.std.proofs.lemmas.Bool.{cases_lt, eq-eqb, le-ltb, eqb-true, not-false}
use Rattle.sets.specs.Sets.{has}
use Rattle.protocol.specs.declared.moves.Move.{Move}
use Rattle.protocol.specs.declared.moves.Plan.{Plan}
use Rattle.protocol.specs.declared.call.Call.TheVariants.{Sweep}
use Rattle.protocol.specs.declared.refusal.Refusal.{Refusal}
use Rattle.protocol.specs.Settings.{Setting, State, Runs, row, mail}
use Rattle.protocol.specs.Calls.{deliver, move}
use Rattle.protocol.specs.Sweeps.{Sweeping, begun, given_all, is_full, settle, turn, turns, swept, sweep}
use Rattle.protocol.specs.Runs.{carry_out}
use Rattle.protocol.specs.Protocol.{Can}
use Rattle.agreement.specs.Promise.{meets_full}
use Rattle.agreement.specs.Exactness.{Lent, Exact}
use Rattle.agreement.proofs.Invariant.{Fair}
use Rattle.agreement.proofs.Lively.{vivid}
use Rattle.agreement.proofs.Calm.{view_low}
use Rattle.agreement.proofs.Moved.{not_full}
use Rattle.agreement.proofs.Quiet.{Going, Passes, passes_refl, passes_trans, accepts, is_lent, delivers, moves}

abbrev pub ended : Setting → ℕ → ℕ → Sweeping → Sweeping
ended S c i w = settle 12 S i (given_all S i w c)

pub record Turned (S : Setting) (v c : ℕ) (s : State) (i : ℕ) (t : State) : Type 0 where
  pub at : Sweeping
  pub before : Passes S v s at.state
  pub since : Passes S v (ended S c i at).state t
  pub idle : (p : Plan) → Can S.rule (mail S (ended S c i at).state) i (row (ended S c i at).state i) p → ⊥

module _ (S : Setting) (fair : Fair S) (exact : Exact S.rule S.valid) (v : ℕ) where
  -- a run process that is in v stays there
  pub stays : {s t : State} → Passes S v s t → (j : ℕ) → Runs S j → (row s j).ballot.view ≡ v → (row t j).ballot.view ≡ v
  stays {s} {t} p j run e =
      let low = view_low S fair v t (vivid S fair p.going.reached) p.going.calm j run in
      omega (arith, low, (p.onward.rows j).view)

  pub all_given : (i : ℕ) (w : Sweeping) → Going S v w.state → (k : ℕ) → Passes S v w.state (given_all S i w k).state
  unfolding given_all
  all_given i w g zero = passes_refl S v w.state g
  all_given i w g (suc k) = let a = all_given i w g k in passes_trans a (delivers S fair exact v (given_all S i w k).state a.going i (suc k))

  given_between : (i : ℕ) (w : Sweeping) → Going S v w.state → (k p : ℕ) → p ≤ k → Passes S v (given_all S i w p).state (given_all S i w k).state
  unfolding given_all
  given_between i w g zero p l = let e : p ≡ 0 = omega arith in rw e (passes_refl S v w.state g)
  given_between i w g (suc k) p l = elim (cases_lt k p) [
    | inl h ↦ let e : p ≡ suc k = omega arith in rw e (passes_refl S v _ (all_given i w g (suc k)).going)
    | inr h ↦ passes_trans (given_between i w g k p h) (delivers S fair exact v (given_all S i w k).state (all_given i w g k).going i (suc k))
  ]

  given_stopped : (i : ℕ) (w : Sweeping) (k : ℕ) → (given_all S i w k).stopped ≡ w.stopped
  unfolding given_all
  given_stopped i w zero = refl
  given_stopped i w (suc k) = given_stopped i w k

  settle_passes : (n i : ℕ) (w : Sweeping) → Going S v w.state → Passes S v w.state (settle n S i w).state
  unfolding settle
  settle_passes zero i w g = passes_refl S v w.state g
  settle_passes (suc n) i w g = go (move S w.state i).answer (λ x. settle_passes n i x)
    where
      go : (o : Result (Move × ℕ) Refusal) → ((x : Sweeping) → Going S v x.state → Passes S v x.state (settle n S i x).state) →
          Passes S v w.state (elim o as (λ _. Sweeping) [
            | Ok a ↦ settle n S i (record { state = (move S w.state i).state; accepted = w.accepted; moves = w.moves + 1; stopped = w.stopped })
            | Err e ↦ record { state = w.state; accepted = w.accepted; moves = w.moves; stopped = w.stopped + cond (is_full e) 1 0 }
          ]).state
      go (Ok a) again = let m = moves S fair exact v w.state g i in passes_trans m (again _ m.going)
      go (Err e) again = passes_refl S v w.state g

  module _ (c i : ℕ) (run : Runs S i) (w : Sweeping) (g : Going S v w.state) where
    given : Passes S v w.state (given_all S i w c).state
    given = all_given i w g c

    pub to_end : Passes S v w.state (ended S c i w).state
    to_end = passes_trans given (settle_passes 12 i (given_all S i w c) given.going)

    pub from_delivered : (p : ℕ) → p < c → Passes S v (deliver S (given_all S i w p).state i (suc p)).state (ended S c i w).state
    unfolding given_all
    from_delivered p l = passes_trans (given_between i w g c (suc p) l) (settle_passes 12 i (given_all S i w c) given.going)

    refusal : (e : Refusal) × ((move S (ended S c i w).state i).answer ≡ Err e) × ((ended S c i w).stopped ≡ (given_all S i w c).stopped + cond (is_full e) 1 0)
    refusal = exact.ends S refl refl i (given_all S i w c)

    end_stopped : (ended S c i w).stopped ≡ 0 → w.stopped ≡ 0
    end_stopped z = omega (arith, z, refusal.2, given_stopped i w c)

    no_full : (b : Bool) (x y : ℕ) → x ≡ 0 → x ≡ y + cond b 1 0 → b ≡ false
    no_full true x y z e = absurd (omega arith)
    no_full false x y z e = refl

    no_moves : (ended S c i w).stopped ≡ 0 → (p : Plan) → Can S.rule (mail S (ended S c i w).state) i (row (ended S c i w).state i) p → ⊥
    no_moves z =
        let l = is_lent S fair exact v (ended S c i w).state to_end.going in
        let a = accepts S fair exact v (ended S c i w).state to_end.going in
        ((a.idle i).0 (not_full S fair.laws (ended S c i w).state i l run refusal.0 (no_full (is_full refusal.0) _ _ z refusal.2) refusal.1)).2

  turn_passes : (c n : ℕ) (w : Sweeping) → Going S v w.state → n < S.rule.size → Passes S v w.state (turn S c w n).state
  turn_passes c n w g l = go (has S.foreign n) refl
    where
      go : (b : Bool) → has S.foreign n ≡ b → Passes S v w.state (cond b w (ended S c n w)).state
      go true e = passes_refl S v w.state g
      go false e = to_end c n (record { within = l; native = e }) w g

  turn_stopped : (c n : ℕ) (w : Sweeping) → Going S v w.state → n < S.rule.size → (turn S c w n).stopped ≡ 0 → w.stopped ≡ 0
  turn_stopped c n w g l = go (has S.foreign n) refl
    where
      go : (b : Bool) → has S.foreign n ≡ b → (cond b w (ended S c n w)).stopped ≡ 0 → w.stopped ≡ 0
      go true e z = z
      go false e z = end_stopped c n (record { within = l; native = e }) w g z

  module _ (c : ℕ) (w : Sweeping) (g : Going S v w.state) where
    turns_passes : (n : ℕ) → n ≤ S.rule.size → Passes S v w.state (turns S c w n).state
    unfolding turns
    turns_passes zero l = passes_refl S v w.state g
    turns_passes (suc n) l = let a = turns_passes n (omega arith) in passes_trans a (turn_passes c n (turns S c w n) a.going (omega arith))

    last : (x : Sweeping) (n : ℕ) → Runs S n → Passes S v w.state x.state → (turn S c x n).stopped ≡ 0 → Turned S v c w.state n (turn S c x n).state
    last x n run a z =
        let y = to_end c n run x a.going in
        rw run.native (record { at = x; before = a; since = passes_refl S v (ended S c n x).state y.going; idle = no_moves c n run x a.going (rw run.native at z) })

    turns_turned : (n : ℕ) → n ≤ S.rule.size → (turns S c w n).stopped ≡ 0 → (i : ℕ) → i < n → Runs S i → Turned S v c w.state i (turns S c w n).state
    unfolding turns
    turns_turned zero l z i h run = absurd (not-suc-le-zero h)
    turns_turned (suc n) l z i h run =
        let a = turns_passes n (omega arith) in
        elim (cases_lt i n) [
          | inl k ↦
              let x = turns_turned n (omega arith) (turn_stopped c n (turns S c w n) a.going (omega arith) z) i k run in
              record { at = x.at; before = x.before; idle = x.idle; since = passes_trans x.since (turn_passes c n (turns S c w n) a.going (omega arith)) }
          | inr k ↦ let e : n ≡ i = omega arith in subst (λ (j : ℕ). Turned S v c w.state j (turns S c w (suc n)).state) e (last (turns S c w n) n (subst (Runs S) (sym e) run) a z)
        ]

  sweep_is : (s : State) → Lent S s → ((sweep S s).state ≡ (swept S s).state) × (meets_full Sweep (carry_out S s Sweep).answer ≡ false → (swept S s).stopped ≡ 0)
  unfolding sweep
  sweep_is s l =
      rw (le-ltb (length s.table) S.rule.size l.table, eq-eqb (length s.post) S.span l.post)
      (refl, λ h. eqb-true (swept S s).stopped 0 (not-false (eqb (swept S s).stopped 0) h))

  module _ (s : State) (g : Going S v s) where
    pub sweeps : Passes S v s (sweep S s).state
    sweeps = rw (sweep_is s (is_lent S fair exact v s g)).0 (turns_passes s.count (begun s) g S.rule.size (omega arith))

    pub turned : meets_full Sweep (carry_out S s Sweep).answer ≡ false → (i : ℕ) → Runs S i → Turned S v s.count s i (sweep S s).state
    turned un i run =
        let x = sweep_is s (is_lent S fair exact v s g) in
        rw x.0 (turns_turned s.count (begun s) g S.rule.size (omega arith) (x.1 un) i run.within run)
