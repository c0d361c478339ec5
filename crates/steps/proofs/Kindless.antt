-- What a place reads as, by its kind. Assumes nothing.
--     no_kind     where the kind is none of the five there is no message
use Rattle.std.proofs.Common.{◌≡◌, ℕ, zero, suc, Bool, true, false, cond, ◌&&◌, eqb, ltb, leb, List, get_or, sym, refl}
use Rattle.std.proofs.lemmas.Bool.{and_parts, both_ways}
use Rattle.mail.specs.declared.message.Message.{Message}
use Rattle.mail.specs.Messages.{blank, silence, proper, posted, kind_wish, kind_committed}

shown : (n : ℕ) (low : Bool) (x : Message) (b : Bool) → b ≡ (low && proper n x) → (leb kind_wish (cond b x silence).kind && leb (cond b x silence).kind kind_committed) ≡ false → eqb (cond b x silence).kind 0 ≡ true
shown n low x false e f = refl
shown n low x true e f =
    let p = (and_parts low (proper n x) (sym e)).1 in
    absurd (both_ways (leb kind_wish x.kind && leb x.kind kind_committed) f (and_parts (ltb x.sender n) (leb kind_wish x.kind && leb x.kind kind_committed) p).1)

pub no_kind : (n : ℕ) (post : List Message) (c k : ℕ) → (leb kind_wish (posted n post c k).kind && leb (posted n post c k).kind kind_committed) ≡ false → eqb (posted n post c k).kind 0 ≡ true
unfolding posted
no_kind n post c zero f = refl
no_kind n post c (suc k) f = shown n (ltb k c) (get_or post k blank) (ltb k c && proper n (get_or post k blank)) refl f
