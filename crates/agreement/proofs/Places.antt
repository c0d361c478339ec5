-- What the places of a post read as, and what is sent. Assumes nothing.
--     posted_some, posted_locked       a place that holds a message is not 0, nor one with a locked view
--     posted_none                      a post with no messages
--     posted_proper                    what a place holds has a sender below n and a kind from 1 to 5
--     sent_table, sent_span, sent_grows     what is sent leaves the table, the post's length and the messages alone
use Rattle.std.proofs.Common.{◌≡◌, ℕ, zero, suc, Bool, true, false, cond, ◌&&◌, ltb, ◌≢◌, List, length, get_or, Some, None, Option, refl, arith}
use Rattle.std.proofs.lemmas.List.{length-set}
use Rattle.std.proofs.lemmas.Bool.{le-ltb}
use Rattle.mail.specs.declared.message.Message.{Message}
use Rattle.mail.specs.Messages.{blank, silence, proper, posted}
use Rattle.protocol.specs.Settings.{Setting, State, mail}
use Rattle.protocol.specs.Calls.{sent}
use Rattle.protocol.specs.Protocol.{Room}
use Rattle.agreement.proofs.Kept.{posts, stays}

pub posted_some : (n : ℕ) (post : List Message) (c k : ℕ) → (posted n post c k).kind ≢ 0 → k ≢ 0
unfolding posted
posted_some n post c zero nz = absurd (nz refl)
posted_some n post c (suc k) nz = omega arith

pub posted_locked : (n : ℕ) (post : List Message) (c k : ℕ) → (posted n post c k).locked ≢ 0 → k ≢ 0
unfolding posted
posted_locked n post c zero nz = absurd (nz refl)
posted_locked n post c (suc k) nz = omega arith

pub posted_none : (n : ℕ) (post : List Message) (k : ℕ) → posted n post 0 k ≡ silence
unfolding posted
posted_none n post zero = refl
posted_none n post (suc k) = rw (le-ltb k 0 (omega arith))

passed : (n : ℕ) (x : Message) (b c : Bool) → proper n x ≡ c → (cond (b && c) x silence).kind ≢ 0 → proper n (cond (b && c) x silence) ≡ true
passed n x true true e nz = e
passed n x true false e nz = absurd (nz refl)
passed n x false c e nz = absurd (nz refl)

pub posted_proper : (n : ℕ) (post : List Message) (c k : ℕ) → (posted n post c k).kind ≢ 0 → proper n (posted n post c k) ≡ true
unfolding posted
posted_proper n post c zero nz = absurd (nz refl)
posted_proper n post c (suc k) nz = passed n (get_or post k blank) (ltb k c) (proper n (get_or post k blank)) refl nz

module _ (S : Setting) (s : State) where
  pub sent_table : (o : Option Message) → (sent s o).table ≡ s.table
  sent_table None = refl
  sent_table (Some x) = refl

  pub sent_span : (o : Option Message) → length (sent s o).post ≡ length s.post
  sent_span None = refl
  sent_span (Some x) = length-set s.post s.count x

  pub sent_grows : (o : Option Message) → (o ≢ None → Room s) → (k : ℕ) → (mail S s k).kind ≢ 0 → mail S (sent s o) k ≡ mail S s k
  sent_grows None room k nz = refl
  sent_grows (Some x) room k nz = stays S (posts S.rule.size s.post s.count x (room (λ e. let z : ◌≡◌ {A = ℕ} 0 1 = cc in omega arith))) k nz
