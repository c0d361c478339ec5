-- A committee that works in a view decides within six sweeps.
--     Stage S v n m s      what has been reached where m sweeps are still to come, with n the leader of v
--     stage_kept           quiet calls keep it
--     stage_next           a sweep that met no full post brings the next
--     last_stage           so do all the sweeps of a list of quiet calls
--     progresses           the promise of progress
use Rattle.std.proofs.Common.{◌≡◌, ℕ, zero, suc, ◌≤◌, leb, ◌≢◌, List, [], ◌∷◌, Some, None, sym, refl, ap, ◌∙◌, subst, arith}
use Rattle.std.proofs.lemmas.Bool.{leb-true}
use Rattle.quorum.specs.Wishes.{wishing}
use Rattle.mail.specs.Messages.{place_at, kind_wish, kind_propose}
use Rattle.mail.specs.Leaders.{leader_of}
use Rattle.protocol.specs.declared.row.Phase.{Phase}
use Rattle.protocol.specs.declared.row.Phase.TheVariants.{Fresh, Voted, Locked}
use Rattle.protocol.specs.declared.call.Call.{Call}
use Rattle.protocol.specs.declared.call.Call.TheVariants.{Expire, Post, Deliver, MakeMove, Sweep}
use Rattle.protocol.specs.Settings.{Setting, State, Runs, row, mail}
use Rattle.protocol.specs.Sweeps.{sweep}
use Rattle.protocol.specs.Runs.{run}
use Rattle.protocol.specs.Protocol.{Reached}
use Rattle.agreement.specs.Promise.{Sent, Quiet, sweeps_in, Roomy, Progresses}
use Rattle.agreement.specs.Exactness.{Accepts, Exact}
use Rattle.agreement.proofs.Invariant.{Fair}
use Rattle.agreement.proofs.Lively.{vivid}
use Rattle.agreement.proofs.Ahead.{rank}
use Rattle.agreement.proofs.Calm.{Onward, tallied_gives, view_low}
use Rattle.agreement.proofs.Quiet.{Going, Passes, passes_trans, accepts, delivers, moves, posts}
use Rattle.agreement.proofs.Turns.{ended, stays, to_end, Turned, sweeps, turned}
use Rattle.agreement.proofs.Heard.{knows_wish, knows_report, knows_proposal, knows_prepared, knows_committed}
use Rattle.agreement.proofs.Milestones.{lead_view, relays_it, enters_it, proposes_it, votes_it, locks_it, decides_it}

abbrev InView : Setting → ℕ → State → Type 0
InView S v s = (j : ℕ) → Runs S j → (row s j).ballot.view ≡ v

abbrev Phased : Setting → ℕ → State → Type 0
Phased S p s = (j : ℕ) → Runs S j → p ≤ rank (row s j).ballot.phase

abbrev Stage : Setting → ℕ → ℕ → ℕ → State → Type 0
Stage S v n zero s = (j : ℕ) → Runs S j → (row s j).decision ≢ None
Stage S v n (suc zero) s = InView S v s × Phased S 2 s
Stage S v n (suc (suc zero)) s = InView S v s × Phased S 1 s
Stage S v n (suc (suc (suc zero))) s = InView S v s × Sent (mail S s) kind_propose n v
Stage S v n (suc (suc (suc (suc zero)))) s = InView S v s
Stage S v n (suc (suc (suc (suc (suc zero))))) s = (j : ℕ) → Runs S j → Sent (mail S s) kind_wish j v
Stage S v n (suc (suc (suc (suc (suc (suc m)))))) s = (f : ℕ) × Runs S f × ((row s f).ballot.view ≡ v) × (m ≡ 0)

not_fresh : (p : Phase) → p ≢ Fresh → 1 ≤ rank p
not_fresh Fresh ne = absurd (ne refl)
not_fresh Voted ne = omega arith
not_fresh Locked ne = omega arith

fresh_not : (p : Phase) → 1 ≤ rank p → p ≢ Fresh
fresh_not p l e = let z : rank p ≡ 0 = ap rank e in omega arith

past_voted : (p : Phase) → 1 ≤ rank p → p ≢ Voted → 2 ≤ rank p
past_voted Fresh l nv = absurd (omega arith)
past_voted Voted l nv = absurd (nv refl)
past_voted Locked l nv = omega arith

is_locked : (p : Phase) → 2 ≤ rank p → p ≡ Locked
is_locked Fresh l = absurd (omega arith)
is_locked Voted l = absurd (omega arith)
is_locked Locked l = refl

sent_on : (S : Setting) (c j w : ℕ) {s t : State} → Onward S s t → Sent (mail S s) (suc c) j w → Sent (mail S t) (suc c) j w
sent_on S c j w o m = let e = o.grows m.0 (λ z. omega (arith, m.1.kind_is, z)) in (m.0, rw e m.1, rw e m.2)

module _ (S : Setting) (fair : Fair S) (exact : Exact S.rule S.valid) (v n : ℕ) (rn : Runs S n) (lead : leader_of S.rule.size v ≡ Some n) where
  module _ (s t : State) (p : Passes S v s t) where
    view_kept : (j : ℕ) → Runs S j → (row s j).ballot.view ≡ v → (row t j).ballot.view ≡ v
    view_kept = stays S fair exact v p

    phase_kept : (j : ℕ) → Runs S j → (row s j).ballot.view ≡ v → rank (row s j).ballot.phase ≤ rank (row t j).ballot.phase
    phase_kept j h e = ((p.onward.rows j).within (e ∙ sym (view_kept j h e))).phase

    stage_kept : (m : ℕ) → Stage S v n m s → Stage S v n m t
    stage_kept zero d = λ j h. (p.onward.rows j).decision (d j h)
    stage_kept (suc zero) (w, d) = (λ j h. view_kept j h (w j h), λ j h. omega (arith, phase_kept j h (w j h), d j h))
    stage_kept (suc (suc zero)) (w, d) = (λ j h. view_kept j h (w j h), λ j h. omega (arith, phase_kept j h (w j h), d j h))
    stage_kept (suc (suc (suc zero))) (w, d) = (λ j h. view_kept j h (w j h), sent_on S 2 n v p.onward d)
    stage_kept (suc (suc (suc (suc zero)))) w = λ j h. view_kept j h (w j h)
    stage_kept (suc (suc (suc (suc (suc zero))))) d = λ j h. sent_on S 0 j v p.onward (d j h)
    stage_kept (suc (suc (suc (suc (suc (suc m)))))) (f, h, e, z) = (f, h, view_kept f h e, z)

  nv : v ≢ 0
  nv = lead_view S.rule.size v n lead

  -- the turn of process i in a sweep from s to t
  module _ (s t : State) (g : Going S v s) (i : ℕ) (ri : Runs S i) (x : Turned S v s.count s i t) where
    till : Passes S v s (ended S s.count i x.at).state
    till = passes_trans x.before (to_end S fair exact v s.count i ri x.at x.before.going)

    acc : Accepts S (ended S s.count i x.at).state
    acc = accepts S fair exact v (ended S s.count i x.at).state till.going

    one : (f : ℕ) → Runs S f → (row s f).ballot.view ≡ v → Sent (mail S t) kind_wish i v
    one f rf fv =
        let al = ((vivid S fair g.reached).each f rf).wishing in
        sent_on S 0 i v x.since.onward (relays_it S fair v (ended S s.count i x.at).state acc till.going i ri x.idle nv (wishing (row s f).wishes v) (rw fv at (al.entered (λ z. nv (sym fv ∙ z))))
        (λ j h m.
        let l = leb-true v (place_at (row s f).wishes j) (tallied_gives (leb v) (row s f).wishes j (omega (arith, h, fair.laws.few)) m) in
        let k = knows_wish S fair exact v i ri s t x j (place_at (row s f).wishes j) (al.heard j h (λ z. nv (omega (arith, l, z)))) in
        omega (arith, l, k)))

    two : ((j : ℕ) → Runs S j → Sent (mail S s) kind_wish j v) → (row t i).ballot.view ≡ v
    two all = stays S fair exact v x.since i ri (enters_it S fair v (ended S s.count i x.at).state acc till.going i ri x.idle nv (λ j h. knows_wish S fair exact v i ri s t x j v (all j h)))

    module _ (iv : (row s i).ballot.view ≡ v) where
      ev : (row (ended S s.count i x.at).state i).ballot.view ≡ v
      ev = stays S fair exact v till i ri iv

      three : leader_of S.rule.size v ≡ Some i → InView S v s → Sent (mail S t) kind_propose i v
      three ld all =
          let did = proposes_it S fair v (ended S s.count i x.at).state acc till.going i ri x.idle (subst (λ (w : ℕ). leader_of S.rule.size w ≡ Some i) (sym ev) ld) (λ j h.
          let told = ((vivid S fair g.reached).each j h).wishing.told (λ z. nv (sym (all j h) ∙ z)) in
          knows_report S fair exact v i ri s t x iv ld j h (told.0, told.1, told.2 ∙ all j h)) in
          let m = ((vivid S fair till.going.reached).each i ri).proposing.did did in
          sent_on S 2 i v x.since.onward (m.0, m.1, m.2 ∙ ev)

      four : Sent (mail S s) kind_propose n v → 1 ≤ rank (row t i).ballot.phase
      four m =
          let nf = votes_it S fair v (ended S s.count i x.at).state acc till.going i ri x.idle (knows_proposal S fair exact v i ri s t x iv n rn m) in
          omega (arith, not_fresh _ nf, phase_kept (ended S s.count i x.at).state t x.since i ri ev)

      five : InView S v s → Phased S 1 s → 2 ≤ rank (row t i).ballot.phase
      five all past =
          let pe : 1 ≤ rank (row (ended S s.count i x.at).state i).ballot.phase = omega (arith, past i ri, phase_kept s (ended S s.count i x.at).state till i ri iv) in
          let pv = locks_it S fair v (ended S s.count i x.at).state acc till.going i ri x.idle n rn lead ev (λ j h.
          let m = ((vivid S fair g.reached).each j h).doing.voted (fresh_not (row s j).ballot.phase (past j h)) in
          knows_prepared S fair exact v i ri s t x iv j (m.0, record { kind_is = m.1.kind_is; sender_is = m.1.sender_is }, m.1.view_is ∙ all j h)) (fresh_not _ pe) in
          omega (arith, past_voted _ pe pv, phase_kept (ended S s.count i x.at).state t x.since i ri ev)

      six : InView S v s → Phased S 2 s → (row t i).decision ≢ None
      six all past =
          let pe : 2 ≤ rank (row (ended S s.count i x.at).state i).ballot.phase = omega (arith, past i ri, phase_kept s (ended S s.count i x.at).state till i ri iv) in
          (x.since.onward.rows i).decision (decides_it S fair v (ended S s.count i x.at).state acc till.going i ri x.idle (λ j h.
          let m = ((vivid S fair g.reached).each j h).doing.locked (is_locked (row s j).ballot.phase (past j h)) in
          knows_committed S fair exact v i ri s t x iv j (m.0, record { kind_is = m.1.kind_is; sender_is = m.1.sender_is }, m.1.view_is ∙ all j h)) (is_locked _ pe))

  module _ (s t : State) (g : Going S v s) (p : Passes S v s t) (x : (i : ℕ) → Runs S i → Turned S v s.count s i t) where
    stage_next : (m : ℕ) → Stage S v n (suc m) s → Stage S v n m t
    stage_next zero (w, d) = λ i h. six s t g i h (x i h) (w i h) w d
    stage_next (suc zero) (w, d) = (λ j h. view_kept s t p j h (w j h), λ i h. five s t g i h (x i h) (w i h) w d)
    stage_next (suc (suc zero)) (w, d) = (λ j h. view_kept s t p j h (w j h), λ i h. four s t g i h (x i h) (w i h) d)
    stage_next (suc (suc (suc zero))) w = (λ j h. view_kept s t p j h (w j h), three s t g n rn (x n rn) (w n rn) lead w)
    stage_next (suc (suc (suc (suc zero)))) d = λ i h. two s t g i h (x i h) d
    stage_next (suc (suc (suc (suc (suc zero))))) (f, h, e, z) = λ i ri. one s t g i ri (x i ri) f h e
    stage_next (suc (suc (suc (suc (suc (suc m)))))) (f, h, e, z) = absurd (omega arith)

  last_stage : (cs : List Call) (s : State) → Going S v s → Quiet cs → (m : ℕ) → Stage S v n m s → m ≤ sweeps_in cs → Roomy S s cs → Stage S v n zero (run S s cs)
  last_stage [] s g q m d l u = let e : m ≡ 0 = omega arith in subst (λ (k : ℕ). Stage S v n k s) e d
  last_stage (Expire i ∷ cs) s g q m d l u = absurd (let b = q.0 in let z : ◌≡◌ {A = ℕ} 0 1 = cc in omega arith)
  last_stage (Post j p ∷ cs) s g q m d l u = let y = posts S fair exact v s g j p in last_stage cs _ y.going q.1 m (stage_kept s _ y m d) (omega arith) u.1
  last_stage (Deliver i k ∷ cs) s g q m d l u = let y = delivers S fair exact v s g i k in last_stage cs _ y.going q.1 m (stage_kept s _ y m d) (omega arith) u.1
  last_stage (MakeMove i ∷ cs) s g q m d l u = let y = moves S fair exact v s g i in last_stage cs _ y.going q.1 m (stage_kept s _ y m d) (omega arith) u.1
  last_stage (Sweep ∷ cs) s g q zero d l u = let y = sweeps S fair exact v s g in last_stage cs _ y.going q.1 zero (stage_kept s _ y zero d) (omega arith) u.1
  last_stage (Sweep ∷ cs) s g q (suc m) d l u =
      let y = sweeps S fair exact v s g in
      last_stage cs (sweep S s).state y.going q.1 m (stage_next s (sweep S s).state g y (turned S fair exact v s g u.0) m d) (omega arith) u.1

pub progresses : (S : Setting) → Fair S → Exact S.rule S.valid → (s : State) → Reached S s → Progresses S s
progresses S fair exact s r v w cs quiet enough room =
    let g : Going S v s = record { reached = r; calm = w.calm } in
    let ok = vivid S fair r in
    let seen = (ok.sound.each w.first w.one).locks.seen w.taken.0 w.taken.1 in
    let low = view_low S fair v s ok w.calm w.first w.one in
    let fv : (row s w.first).ballot.view ≡ v = omega (arith, seen, low, w.taken.2) in
    last_stage S fair exact v w.leader w.runs w.leads cs s g quiet 6 (w.first, w.one, fv, refl) enough room
