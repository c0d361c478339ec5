-- The moves of a sweep, one by one: k of at most 12 are made. Assumes nothing.
--     same_setting     a committee that is for good what another is has its setting
--     same_then        one after the other
--     comes_to         the state that a call's table, post and numbers make
--     settle_more      one move more
--     settle_stops     a move that is refused
--     settle_all       no move is left
use Rattle.std.proofs.Common.{◌≡◌, ℕ, suc, ◌+◌, ◌-◌, ◌<◌, Bool, cond, List, Ok, Err, sym, ◌∙◌, arith}
use Rattle.sets.specs.Rules.{Rule}
use Rattle.mail.specs.declared.message.Message.{Message}
use Rattle.protocol.specs.declared.row.Row.{Row}
use Rattle.protocol.specs.declared.moves.Move.{Move}
use Rattle.protocol.specs.declared.refusal.Refusal.{Refusal}
use Rattle.protocol.specs.Settings.{Setting, State}
use Rattle.protocol.specs.Calls.{move}
use Rattle.protocol.specs.Sweeps.{Sweeping, is_full, settle}
use Rattle.agreement.proofs.Endings.{settle_ok, settle_err}
use Rattle.committee.specs.Committees.{SameSetting, setting, lent, counted}
use Rattle.committee.specs.declared.books.Books.{Books}
use Rattle.committee.specs.declared.committee.Committee.{Committee}
use Rattle.committee.proofs.Readied.{move_leaves}

module _ {Q V : Type 0} where
  pub same_setting : (M : Q → Rule) (W : V → ℕ → Bool) (c d : Committee Q V) → SameSetting c d → setting M W d ≡ setting M W c
  same_setting M W c d h = rw (h.rule, h.validity, h.span, h.foreign)

  pub same_then : (c d e : Committee Q V) → SameSetting c d → SameSetting d e → SameSetting c e
  same_then c d e h k = record {
    rule = k.rule ∙ h.rule;
    validity = k.validity ∙ h.validity;
    span = k.span ∙ h.span;
    foreign = k.foreign ∙ h.foreign;
  }

pub comes_to : (b a : Books) (t : List Row) (p : List Message) (s : State) → a ≡ counted b s → t ≡ s.table → p ≡ s.post → lent a t p ≡ s
comes_to b a t p s e f h = rw (e, f, h)

module _ (S : Setting) (i k : ℕ) (w start : Sweeping) (way : settle (12 - k) S i w ≡ settle 12 S i start) (S' : Setting) (same : S' ≡ S) where
  abbrev after : State → ℕ → ℕ → Sweeping
  after s n m = record { state = s; accepted = w.accepted; moves = n; stopped = m }

  pub settle_more : k < 12 → (x : Move × ℕ) (s : State) → Ok x ≡ (move S' w.state i).answer → s ≡ (move S' w.state i).state → settle (12 - (k + 1)) S i (after s (w.moves + 1) w.stopped) ≡ settle 12 S i start
  settle_more l x s ok is =
      let h : (move S w.state i).answer ≡ Ok x = sym (rw same at ok) in
      let q : s ≡ (move S w.state i).state = rw same at is in
      let n : 12 - k ≡ suc (12 - (k + 1)) = omega arith in
      let step : settle (suc (12 - (k + 1))) S i w ≡ settle 12 S i start = rw n at way in
      rw q (sym (settle_ok S i (12 - (k + 1)) w x h) ∙ step)

  pub settle_stops : k < 12 → (e : Refusal) (s : State) (m : ℕ) → Err e ≡ (move S' w.state i).answer → s ≡ (move S' w.state i).state → m ≡ w.stopped + cond (is_full e) 1 0 → after s w.moves m ≡ settle 12 S i start
  settle_stops l e s m err is counted =
      let h : Err e ≡ (move S w.state i).answer = rw same at err in
      let q : s ≡ (move S w.state i).state = rw same at is in
      let stays : s ≡ w.state = q ∙ move_leaves S w.state i e h in
      let n : 12 - k ≡ suc (12 - (k + 1)) = omega arith in
      let step : settle (suc (12 - (k + 1))) S i w ≡ settle 12 S i start = rw n at way in
      rw (stays, counted) (sym (settle_err S i (12 - (k + 1)) w e (sym h)) ∙ step)

  pub settle_all : k ≡ 12 → w ≡ settle 12 S i start
  unfolding settle
  settle_all e = let z : 12 - k ≡ 0 = omega arith in rw z at way
