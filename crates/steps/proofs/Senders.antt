-- The sender of what a place reads as. Assumes nothing.
--     sender_few       it is below 32 where there are at most 32 processes
--     sender_lawful    it is below 32 with a lawful rule of n processes
use Rattle.std.proofs.Common.{◌≡◌, ℕ, zero, suc, ◌<◌, ◌≤◌, Bool, true, false, cond, ◌&&◌, ltb, leb, List, get_or, sym, refl, arith}
use Rattle.std.proofs.lemmas.Bool.{and_parts, ltb-true}
use Rattle.sets.specs.Rules.{Rule, Lawful}
use Rattle.mail.specs.declared.message.Message.{Message}
use Rattle.mail.specs.Messages.{blank, silence, proper, posted, kind_wish, kind_committed}

either_few : (n : ℕ) → n ≤ 32 → (low : Bool) (x : Message) (b : Bool) → b ≡ (low && proper n x) → (cond b x silence).sender < 32
either_few n few low x false e = omega arith
either_few n few low x true e =
    let p = (and_parts low (proper n x) (sym e)).1 in
    let l = ltb-true x.sender n (and_parts (ltb x.sender n) (leb kind_wish x.kind && leb x.kind kind_committed) p).0 in
    omega arith

posted_few : (n : ℕ) (post : List Message) (c k : ℕ) → n ≤ 32 → (posted n post c k).sender < 32
unfolding posted
posted_few n post c zero few = omega arith
posted_few n post c (suc k) few = either_few n few (ltb k c) (get_or post k blank) _ refl

pub sender_few : (n : ℕ) (post : List Message) (c k : ℕ) → n ≤ 32 → (x : Message) → x ≡ posted n post c k → x.sender < 32
sender_few n post c k few x e = rw e (posted_few n post c k few)

pub sender_lawful : (m : Rule) → Lawful m → (n : ℕ) → n ≡ m.size → (post : List Message) (c k : ℕ) (x : Message) → x ≡ posted n post c k → x.sender < 32
sender_lawful m laws n size_is post c k x e = sender_few n post c k (rw size_is laws.few) x e
