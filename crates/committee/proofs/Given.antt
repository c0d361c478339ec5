-- The deliveries of a sweep, one by one. Assumes nothing.
--     passed_over              what is not due is refused, and nothing changes
--     accepted, refused        a delivery that is accepted, one that is refused
--     given_more               one more delivery
use Rattle.std.proofs.Common.{◌≡◌, ℕ, zero, suc, ◌+◌, ◌-◌, ◌<◌, ◌≤◌, Bool, true, false, cond, ◌&&◌, ◌||◌, eqb, ltb, leb, List, length, get_or, is_ok, Some, None, Option, Result, sym, refl, ap, ◌∙◌, add-zero, arith}
use Rattle.std.proofs.lemmas.List.{get_or_past}
use Rattle.std.proofs.lemmas.Bool.{and_parts, eqb-false, ltb-false, lt-ltb, leb-true, false≢true}
use Rattle.quorum.specs.Firsts.{fault_if, first}
use Rattle.mail.specs.declared.message.Message.{Message}
use Rattle.mail.specs.Messages.{blank, proper, posted, kind_wish, kind_committed}
use Rattle.protocol.specs.declared.row.Row.{Row}
use Rattle.protocol.specs.declared.refusal.Refusal.{Refusal}
use Rattle.protocol.specs.declared.refusal.Refusal.TheVariants.{NoMessage, Late, Early}
use Rattle.protocol.specs.Settings.{Setting, State, outcome, row, mail, put}
use Rattle.protocol.specs.Calls.{lent_fault, run_fault, timely, by_kind, taking_fault, taken, deliver}
use Rattle.steps.specs.Giving.{giving_fault}
use Rattle.protocol.specs.Sweeps.{Sweeping, given, given_all}
use Rattle.committee.specs.Sweeping.{due}

abbrev Refuses : Option Refusal → Type 0
Refuses o = (e : Refusal) × (o ≡ Some e)

first_refuses : (a b : Option Refusal) → Refuses b → Refuses (first a b)
first_refuses None b h = h
first_refuses (Some e) b h = (e, refl)

-- a message of another view
module _ (r : Row) (x : Message) (k : ℕ) (other : eqb x.view r.ballot.view ≡ false) where
  untimely : Refuses (timely r x k)
  untimely = go (ltb x.view r.ballot.view) refl
    where
      go : (b : Bool) → ltb x.view r.ballot.view ≡ b → Refuses (timely r x k)
      go true e = (Late k, rw e)
      go false e =
          let ne = eqb-false x.view r.ballot.view other in
          let le = ltb-false x.view r.ballot.view e in
          let l : r.ballot.view < x.view = omega arith in
          (Early k, rw (e, lt-ltb r.ballot.view x.view l))

same_cond : {A : Type 0} (b : Bool) (a : A) → cond b a a ≡ a
same_cond true a = refl
same_cond false a = refl

other_kind : (c : ℕ) (t one a b d f : Option Refusal) (e : Refusal) → eqb c kind_wish ≡ false → t ≡ Some e → by_kind c one (first t a) (first t b) (first t d) (first t f) ≡ Some e
other_kind c t one a b d f e not_wish t_is = rw (not_wish, t_is) (simp same_cond)

module _ (S : Setting) (M : ℕ → Message) (i : ℕ) (r : Row) (k : ℕ) where
  untaken : eqb (M k).kind kind_wish ≡ false → eqb (M k).view r.ballot.view ≡ false → Refuses (giving_fault S M i r k)
  unfolding taking_fault
  untaken not_wish other =
      let t = untimely r (M k) k other in
      first_refuses (fault_if (eqb (M k).kind 0) NoMessage) _ (t.0, other_kind (M k).kind (timely r (M k) k) _ _ _ _ _ t.0 not_wish t.1)

  absent : (M k).kind ≡ 0 → Refuses (giving_fault S M i r k)
  absent e = (NoMessage, rw e)

neither : (a b : Bool) → (a || b) ≡ false → (a ≡ false) × (b ≡ false)
neither false b h = (refl, h)
neither true b h = absurd (false≢true (sym h))

module _ (S : Setting) (s : State) (i k : ℕ) (not_due : due s.post k (row s i).ballot.view ≡ false) where
  abbrev there : Message
  there = get_or s.post k blank

  inside : 1 ≤ there.kind → ltb k (length s.post) ≡ true
  inside some = go (ltb k (length s.post)) refl
    where
      go : (b : Bool) → ltb k (length s.post) ≡ b → b ≡ true
      go true e = refl
      go false e =
          let past = get_or_past s.post k blank (ltb-false k (length s.post) e) in
          let none : there.kind ≡ 0 = rw past in
          absurd (omega arith)

  undelivered : Refuses (giving_fault S (mail S s) i (row s i) (suc k))
  unfolding posted
  undelivered = go (ltb k s.count && proper S.rule.size there) refl
    where
      go : (b : Bool) → (ltb k s.count && proper S.rule.size there) ≡ b → Refuses (giving_fault S (mail S s) i (row s i) (suc k))
      go false e = absent S (mail S s) i (row s i) (suc k) (rw e)
      go true e =
          let p = (and_parts (ltb k s.count) (proper S.rule.size there) e).1 in
          let kinds = (and_parts (ltb there.sender S.rule.size) _ p).1 in
          let some = leb-true kind_wish there.kind (and_parts (leb kind_wish there.kind) (leb there.kind kind_committed) kinds).0 in
          let h : (eqb there.kind kind_wish || eqb there.view (row s i).ballot.view) ≡ false = rw (inside some) at not_due in
          let n = neither _ _ h in
          untaken S (mail S s) i (row s i) (suc k) (rw e n.0) (rw e n.1)

module _ (S : Setting) (i k : ℕ) (w : Sweeping) where
  pub passed_over : 1 ≤ k → due w.state.post (k - 1) (row w.state i).ballot.view ≡ false → given S i k w ≡ w
  unfolding deliver
  passed_over l h =
      let one : suc (k - 1) ≡ k = omega arith in
      let u = undelivered S w.state i (k - 1) h in
      let f = first_refuses (lent_fault S w.state) _ (first_refuses (run_fault S i) _ (rw one at u)) in
      rw (f.1, add-zero)

  abbrev moved_to : List Row → State
  moved_to t = record { table = t; post = w.state.post; count = w.state.count }

  keeps : moved_to (deliver S w.state i k).state.table ≡ (deliver S w.state i k).state
  unfolding deliver
  keeps = go (first (lent_fault S w.state) (first (run_fault S i) (giving_fault S (mail S w.state) i (row w.state i) k)))
    where
      go : (o : Option Refusal) → moved_to (outcome {A = Unit {0}} w.state o tt (put w.state i (taken (mail S w.state) (row w.state i) k))).state.table ≡ (outcome {A = Unit {0}} w.state o tt (put w.state i (taken (mail S w.state) (row w.state i) k))).state
      go None = refl
      go (Some e) = refl

  abbrev after : State → ℕ → Sweeping
  after s n = record { state = s; accepted = n; moves = w.moves; stopped = w.stopped }

  module _ (t : List Row) (r : Result (Unit {0}) Refusal) (r_is : r ≡ (deliver S w.state i k).answer) (t_is : t ≡ (deliver S w.state i k).state.table) where
    pub accepted : is_ok r ≡ true → after (moved_to t) (w.accepted + 1) ≡ given S i k w
    accepted h =
        let ok : is_ok (deliver S w.state i k).answer ≡ true = rw r_is at h in
        rw (ok, t_is) (ap (λ (s : State). after s (w.accepted + 1)) keeps)

    pub refused : is_ok r ≡ false → after (moved_to t) w.accepted ≡ given S i k w
    refused h =
        let err : is_ok (deliver S w.state i k).answer ≡ false = rw r_is at h in
        rw (err, t_is, add-zero) (ap (λ (s : State). after s w.accepted) keeps)

pub given_more : (S : Setting) (i : ℕ) (w : Sweeping) (k n : ℕ) (u v : Sweeping) → 1 ≤ k → v ≡ given S i k u → u ≡ given_all S i w (k - 1) → n ≡ k → v ≡ given_all S i w n
unfolding given_all
given_more S i w zero n u v l e f g = absurd (omega arith)
given_more S i w (suc k) n u v l e f g =
    let one : suc k - 1 ≡ k = omega arith in
    let h : u ≡ given_all S i w k = rw one at f in
    rw g (e ∙ ap (λ (x : Sweeping). given S i (suc k) x) h)
