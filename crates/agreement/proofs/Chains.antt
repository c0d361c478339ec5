-- The calls make chains of changes. The rule is lawful.
--     longer                            two chains make one
--     way_chain                         an outcome that is refused, or makes a change, makes a chain
--     given_chain, settle_chain, turn_chain, turns_chain     so do the parts of a sweep
--     sweep_chain, sweep_refused        a sweep makes a chain; a refused one leaves the state
--     change_foreign, chain_foreign     a chain leaves the rows of foreign processes
--     chain_reached                     and leads from reached states to reached ones
use Rattle.std.proofs.Common.{◌≡◌, ℕ, zero, suc, Bool, true, false, cond, get_or, set, Some, None, Ok, Err, Option, Result, sym, refl, ap, ◌∙◌, subst, arith}
use Rattle.std.proofs.lemmas.List.{get_or-set_other}
use Rattle.std.proofs.lemmas.Bool.{both_ways}
use Rattle.sets.specs.Sets.{has}
use Rattle.sets.specs.Rules.{Lawful}
use Rattle.protocol.specs.declared.row.Row.{Row}
use Rattle.protocol.specs.declared.moves.Move.{Move}
use Rattle.protocol.specs.declared.refusal.Refusal.{Refusal}
use Rattle.protocol.specs.Rows.{blank_row}
use Rattle.protocol.specs.Settings.{Setting, State, Outcome, Runs, outcome, row}
use Rattle.protocol.specs.Calls.{lent_fault, move}
use Rattle.protocol.specs.Sweeps.{Sweeping, begun, given_all, settle, turn, turns, swept, sweep}
use Rattle.protocol.specs.Protocol.{Step, takes, makes, Change, stepped, expired, posted, Reached, after}
use Rattle.agreement.specs.Exactness.{Changes, none, more}
use Rattle.agreement.proofs.Granted.{Way, stays, goes}
use Rattle.agreement.proofs.Takings.{deliver_way}
use Rattle.agreement.proofs.Moved.{move_way}
use Rattle.agreement.proofs.Endings.{made_table, moved, settle_ok, settle_err}

pub longer : {S : Setting} {s t u : State} → Changes S s t → Changes S t u → Changes S s u
longer a none = a
longer a (more b c) = more (longer a b) c

pub way_chain : {A : Type 0} (S : Setting) (s : State) (o : Outcome A) → Way S s o → Changes S s o.state
way_chain S s o (stays e h k) = rw k none
way_chain S s o (goes x h c) = more none c

pub chain_reached : {S : Setting} {s t : State} → Changes S s t → Reached S s → Reached S t
chain_reached none r = r
chain_reached (more a c) r = after (chain_reached a r) c

module _ (S : Setting) (s : State) (j : ℕ) (out : has S.foreign j ≡ true) where
  put_foreign : (i : ℕ) (r : Row) → Runs S i → get_or (set s.table i r) j blank_row ≡ get_or s.table j blank_row
  put_foreign i r u = get_or-set_other s.table i j r blank_row (λ e. both_ways (has S.foreign j) (ap (λ (x : ℕ). has S.foreign x) e ∙ u.native) out)

  step_foreign : (i : ℕ) {t : State} → Runs S i → Step S s i t → row t j ≡ row s j
  step_foreign i u (takes k t) = put_foreign i _ u
  step_foreign i u (makes p c f) = rw (made_table S s i p) (put_foreign i _ u)

  change_foreign : {t : State} → Change S s t → row t j ≡ row s j
  change_foreign (stepped i u t) = step_foreign i u t
  change_foreign (expired i u w h l r) = refl
  change_foreign (posted x l f w r) = refl

pub chain_foreign : {S : Setting} {s t : State} (j : ℕ) → has S.foreign j ≡ true → Changes S s t → row t j ≡ row s j
chain_foreign j out none = refl
chain_foreign {S = S} j out (more {t = t} a c) = change_foreign S t j out c ∙ chain_foreign j out a

module _ (S : Setting) (laws : Lawful S.rule) where
  pub given_chain : (i : ℕ) (w : Sweeping) (k : ℕ) → Changes S w.state (given_all S i w k).state
  unfolding given_all
  given_chain i w zero = none
  given_chain i w (suc k) = longer (given_chain i w k) (way_chain S _ _ (deliver_way S (given_all S i w k).state i (suc k)))

  pub settle_chain : (n i : ℕ) (w : Sweeping) → Changes S w.state (settle n S i w).state
  unfolding settle
  settle_chain zero i w = none
  settle_chain (suc n) i w = go (move S w.state i).answer refl (settle_chain n i (moved S i w))
    where
      go : (x : Result (Move × ℕ) Refusal) → (move S w.state i).answer ≡ x → Changes S (move S w.state i).state (settle n S i (moved S i w)).state → Changes S w.state (settle (suc n) S i w).state
      go (Ok a) h ih = subst (λ (x : Sweeping). Changes S w.state x.state) (sym (settle_ok S i n w a h)) (longer (way_chain S w.state _ (move_way S laws w.state i)) ih)
      go (Err e) h ih = subst (λ (x : Sweeping). Changes S w.state x.state) (sym (settle_err S i n w e h)) none

  pub turn_chain : (c : ℕ) (w : Sweeping) (i : ℕ) → Changes S w.state (turn S c w i).state
  turn_chain c w i = go (has S.foreign i)
    where
      go : (b : Bool) → Changes S w.state (cond b w (settle 12 S i (given_all S i w c))).state
      go true = none
      go false = longer (given_chain i w c) (settle_chain 12 i (given_all S i w c))

  pub turns_chain : (c : ℕ) (w : Sweeping) (n : ℕ) → Changes S w.state (turns S c w n).state
  unfolding turns
  turns_chain c w zero = none
  turns_chain c w (suc i) = longer (turns_chain c w i) (turn_chain c (turns S c w i) i)

  pub sweep_chain : (s : State) → Changes S s (sweep S s).state
  unfolding sweep
  sweep_chain s = go (lent_fault S s) _
    where
      go : {A : Type 0} (o : Option Refusal) (x : A) → Changes S s (outcome s o x (swept S s).state).state
      go None x = turns_chain s.count (begun s) S.rule.size
      go (Some e) x = none

  pub sweep_refused : (s : State) (e : Refusal) → (sweep S s).answer ≡ Err e → (sweep S s).state ≡ s
  unfolding sweep
  sweep_refused s e = go (lent_fault S s) _
    where
      go : {A : Type 0} (o : Option Refusal) (x : A) → (outcome s o x (swept S s).state).answer ≡ Err e → (outcome s o x (swept S s).state).state ≡ s
      go None x h = let z : ◌≡◌ {A = ℕ} 0 1 = cc in absurd (omega arith)
      go (Some d) x h = refl
