-- When an expiry and a posting are granted, and the tests that all calls share. Assumes nothing.
--     Way S s o                                an outcome that is a refusal and leaves s, or an answer and a change
--     granted, refused_is, granted_state       what an outcome's answer tells of its fault, and the state after
--     ways                                     an outcome is a Way if a change is made where there is no fault
--     lent_is, run_is, foreign_is, room_is     no fault of each test: the fact that it asks for
--     four                                     four tests in a row
--     expires_is, posts_is                     an expiry and a posting are answered exactly when the protocol allows them
--     expire_way, post_way                     and make a change then
use Rattle.std.proofs.Common.{◌≡◌, ℕ, ◌+◌, ◌<◌, max, Bool, true, false, not, eqb, ltb, length, Some, None, Ok, Err, Option, sym, refl, ap, arith}
use Rattle.std.proofs.lemmas.Bool.{ltb-true, ltb-false, lt-ltb, le-ltb, eqb-true, eq-eqb}
use Rattle.sets.specs.Sets.{has}
use Rattle.quorum.specs.Firsts.{fault_if, first}
use Rattle.quorum.specs.Wishes.{hopeful}
use Rattle.quorum.proofs.Found.{both_none, none_both, faultless, holds_then}
use Rattle.mail.specs.Trust.{Exactly}
use Rattle.mail.specs.Posting.{well_formed}
use Rattle.protocol.specs.declared.call.Posting.{Posting}
use Rattle.protocol.specs.declared.refusal.Refusal.{Refusal}
use Rattle.protocol.specs.declared.refusal.Refusal.TheVariants.{LastView, NotWellFormed}
use Rattle.protocol.specs.Settings.{Setting, State, Outcome, Runs, outcome, row, send, has_room}
use Rattle.protocol.specs.Plans.{wish}
use Rattle.protocol.specs.Calls.{lent_fault, run_fault, foreign_fault, full_fault, expire, addressed, post}
use Rattle.protocol.specs.Protocol.{Hopeful, Room, WellFormed, Change, expired, posted}
use Rattle.agreement.specs.Exactness.{Lent}
use Rattle.agreement.proofs.WellFormeds.{well_formed_is}

-- an outcome is a refusal that leaves the state, or an answer and a change
pub data Way (S : Setting) (s : State) {A : Type 0} (o : Outcome A) : Type 0 where
  stays : (e : Refusal) → o.answer ≡ Err e → o.state ≡ s → Way S s o
  goes : (x : A) → o.answer ≡ Ok x → Change S s o.state → Way S s o

module _ {A : Type 0} (s : State) where
  pub granted : (o : Option Refusal) (x y : A) (t : State) → Exactly ((outcome s o x t).answer ≡ Ok y) ((o ≡ None) × (y ≡ x))
  granted None x y t = ((λ h. (refl, cc)), (λ h. ap (λ (z : A). Ok z) (sym h.1)))
  granted (Some e) x y t = (
    (λ h. let z : ◌≡◌ {A = ℕ} 0 1 = cc in absurd (omega arith)),
    (λ h. let k = h.0 in let z : ◌≡◌ {A = ℕ} 0 1 = cc in absurd (omega arith)),
  )

  pub refused_is : (o : Option Refusal) (x : A) (t : State) (e : Refusal) → (outcome s o x t).answer ≡ Err e → o ≡ Some e
  refused_is None x t e h = let z : ◌≡◌ {A = ℕ} 0 1 = cc in absurd (omega arith)
  refused_is (Some d) x t e h = cc

  pub granted_state : (o : Option Refusal) (x : A) (t : State) → o ≡ None → (outcome s o x t).state ≡ t
  granted_state o x t h = rw h

  pub ways : (S : Setting) (o : Option Refusal) (x : A) (t : State) → (o ≡ None → Change S s t) → Way S s (outcome s o x t)
  ways S None x t h = goes x refl (h refl)
  ways S (Some e) x t h = stays e refl refl

pub no_fault : (b : Bool) (e : Refusal) → b ≡ false → fault_if b e ≡ None
no_fault b e h = rw h

pub lent_is : (S : Setting) (s : State) → Exactly (lent_fault S s ≡ None) (Lent S s)
lent_is S s =
    let short = ltb (length s.table) S.rule.size in
    let long = eqb (length s.post) S.span in (
      (λ h.
          let b = both_none (fault_if short _) (fault_if (not long) _) h in
          record { table = ltb-false (length s.table) S.rule.size (faultless short _ b.0); post = eqb-true (length s.post) S.span ((holds_then long _).0 b.1) }),
      (λ l. none_both _ _ (no_fault short _ (le-ltb (length s.table) S.rule.size l.table)) ((holds_then long _).1 (eq-eqb (length s.post) S.span l.post))),
    )

pub run_is : (S : Setting) (i : ℕ) → Exactly (run_fault S i ≡ None) (Runs S i)
run_is S i =
    let inside = ltb i S.rule.size in (
      (λ h.
          let b = both_none (fault_if (not inside) _) (fault_if (has S.foreign i) _) h in
          record { within = ltb-true i S.rule.size ((holds_then inside _).0 b.0); native = faultless (has S.foreign i) _ b.1 }),
      (λ r. none_both _ _ ((holds_then inside _).1 (lt-ltb i S.rule.size r.within)) (no_fault (has S.foreign i) _ r.native)),
    )

foreign_is : (S : Setting) (j : ℕ) → Exactly (foreign_fault S j ≡ None) ((j < S.rule.size) × (has S.foreign j ≡ true))
foreign_is S j =
    let inside = ltb j S.rule.size in (
      (λ h.
          let b = both_none (fault_if (not inside) _) (fault_if (not (has S.foreign j)) _) h in
          (ltb-true j S.rule.size ((holds_then inside _).0 b.0), (holds_then (has S.foreign j) _).0 b.1)),
      (λ r. none_both _ _ ((holds_then inside _).1 (lt-ltb j S.rule.size r.0)) ((holds_then (has S.foreign j) _).1 r.1)),
    )

room_is : (s : State) → Exactly (full_fault s ≡ None) (Room s)
room_is s = (
  (λ h. ltb-true s.count (length s.post) ((holds_then (has_room s) _).0 h)),
  (λ r. (holds_then (has_room s) _).1 (lt-ltb s.count (length s.post) r)),
)

-- what a chain of four tests asks for
pub four : {A B C D : Type 0} (a b c d : Option Refusal) → Exactly (a ≡ None) A → Exactly (b ≡ None) B → Exactly (c ≡ None) C → Exactly (d ≡ None) D → Exactly (first a (first b (first c d)) ≡ None) (A × B × C × D)
four a b c d A B C D = (
  (λ h.
      let x = both_none a (first b (first c d)) h in
      let y = both_none b (first c d) x.1 in
      let z = both_none c d y.1 in
      (A.0 x.0, B.0 y.0, C.0 z.0, D.0 z.1)),
  (λ h. none_both _ _ (A.1 h.0) (none_both _ _ (B.1 h.1) (none_both _ _ (C.1 h.2) (D.1 h.3)))),
)

module _ (S : Setting) (s : State) where
  module _ (i : ℕ) where
    abbrev last_fault : Option Refusal
    last_fault = fault_if (not (ltb (row s i).ballot.view 4294967295)) LastView

    expiry : Exactly (first (lent_fault S s) (first (run_fault S i) (first last_fault (full_fault s))) ≡ None) (Lent S s × Runs S i × ((row s i).ballot.view < 4294967295) × Room s)
    expiry =
        let low = ltb (row s i).ballot.view 4294967295 in
        four (lent_fault S s) (run_fault S i) last_fault (full_fault s) (lent_is S s) (run_is S i)
        ((λ h. ltb-true (row s i).ballot.view 4294967295 ((holds_then low _).0 h)), (λ h. (holds_then low _).1 (lt-ltb (row s i).ballot.view 4294967295 h))) (room_is s)

    pub expires_is : (k : ℕ) → Exactly ((expire S s i).answer ≡ Ok k) (Lent S s × Runs S i × ((row s i).ballot.view < 4294967295) × Room s × (k ≡ s.count + 1))
    unfolding expire
    expires_is k =
        let g = granted s (first (lent_fault S s) (first (run_fault S i) (first last_fault (full_fault s)))) (s.count + 1) k (send s (wish i (max ((row s i).ballot.view + 1) (hopeful S.rule (row s i).wishes)))) in (
          (λ h. let a = g.0 h in let b = expiry.0 a.0 in (b.0, b.1, b.2, b.3, a.1)),
          (λ h. g.1 (expiry.1 (h.0, h.1, h.2, h.3), h.4)),
        )

    pub expire_way : Hopeful S.rule (row s i).wishes (hopeful S.rule (row s i).wishes) → Way S s (expire S s i)
    unfolding expire
    expire_way hope = ways s S _ _ _ (λ h. let b = expiry.0 h in expired i b.1 (hopeful S.rule (row s i).wishes) hope b.2 b.3)

  module _ (j : ℕ) (p : Posting) where
    abbrev form_fault : Option Refusal
    form_fault = fault_if (not (well_formed S.rule.size s.count (addressed j p))) NotWellFormed

    posting : Exactly (first (lent_fault S s) (first (foreign_fault S j) (first form_fault (full_fault s))) ≡ None)
        (Lent S s × ((j < S.rule.size) × (has S.foreign j ≡ true)) × WellFormed S.rule.size s.count (addressed j p) × Room s)
    posting =
        let good = well_formed S.rule.size s.count (addressed j p) in
        let is = well_formed_is S.rule.size s.count (addressed j p) in
        four (lent_fault S s) (foreign_fault S j) form_fault (full_fault s) (lent_is S s) (foreign_is S j)
        ((λ h. is.0 ((holds_then good _).0 h)), (λ h. (holds_then good _).1 (is.1 h))) (room_is s)

    pub posts_is : (k : ℕ) → Exactly ((post S s j p).answer ≡ Ok k)
        (Lent S s × (j < S.rule.size) × (has S.foreign j ≡ true) × WellFormed S.rule.size s.count (addressed j p) × Room s × (k ≡ s.count + 1))
    unfolding post
    posts_is k =
        let g = granted s (first (lent_fault S s) (first (foreign_fault S j) (first form_fault (full_fault s)))) (s.count + 1) k (send s (addressed j p)) in (
          (λ h. let a = g.0 h in let b = posting.0 a.0 in (b.0, b.1.0, b.1.1, b.2, b.3, a.1)),
          (λ h. g.1 (posting.1 (h.0, (h.1, h.2), h.3, h.4), h.5)),
        )

    pub post_way : Way S s (post S s j p)
    unfolding post
    post_way = ways s S _ _ _ (λ h. let b = posting.0 h in posted (addressed j p) b.1.0 b.1.1 b.2 b.3)
