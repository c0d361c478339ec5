-- What an expiry and a posting do that are refused. Assumes nothing.
--     expire_refused, post_refused     they answer the refusal and leave the state
use Rattle.std.proofs.Common.{◌≡◌, ℕ, Err, Result}
use Rattle.quorum.specs.Firsts.{answered}
use Rattle.quorum.proofs.Found.{some_from_err}
use Rattle.protocol.specs.declared.call.Posting.{Posting}
use Rattle.protocol.specs.declared.refusal.Refusal.{Refusal}
use Rattle.protocol.specs.Settings.{Setting, State}
use Rattle.protocol.specs.Calls.{expire, post}
use Rattle.committee.specs.Reasons.{expire_fault, post_fault}

module _ (S : Setting) (s : State) (e : Refusal) where
  pub expire_refused : (i : ℕ) → ◌≡◌ {A = Result (Unit {0}) Refusal} (Err e) (answered (expire_fault S s i) tt) → expire S s i ≡ record { answer = Err e; state = s }
  unfolding expire
  expire_refused i h = rw (some_from_err (expire_fault S s i) (tt {0}) e h)

  pub post_refused : (j : ℕ) (p : Posting) → ◌≡◌ {A = Result (Unit {0}) Refusal} (Err e) (answered (post_fault S s j p) tt) → post S s j p ≡ record { answer = Err e; state = s }
  unfolding post
  post_refused j p h = rw (some_from_err (post_fault S s j p) (tt {0}) e h)
