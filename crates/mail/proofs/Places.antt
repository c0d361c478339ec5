-- What a place reads as. Assumes nothing.
--     posted_some, posted_none     a place reads as the message that stands there, where this is a proper one, and else as silence
use Rattle.std.proofs.Common.{◌≡◌, ℕ, zero, suc, ◌-◌, Bool, true, false, cond, ◌&&◌, ltb, leb, List, [], ◌∷◌, get_or, Some, None, Option, refl, sym, ◌∙◌, arith, slice_get}
use Rattle.std.proofs.lemmas.Bool.{and_right, le-leb}
use Rattle.mail.specs.declared.message.Message.{Message}
use Rattle.mail.specs.Messages.{blank, silence, proper, posted}

-- how a place reads that has this message, or none
abbrev shown : ℕ → Option Message → Message
shown n None = silence
shown n (Some x) = cond (proper n x) x silence

shown_at : (n : ℕ) (post : List Message) (k : ℕ) → shown n (slice_get post k) ≡ cond (proper n (get_or post k blank)) (get_or post k blank) silence
shown_at n [] k = rw (and_right (ltb 0 n) false refl)
shown_at n (x ∷ xs) zero = refl
shown_at n (x ∷ xs) (suc k) = shown_at n xs k

module _ (n : ℕ) (post : List Message) (c : ℕ) where
  within : (k : ℕ) (b : Bool) → cond (b && proper n (get_or post k blank)) (get_or post k blank) silence ≡ shown n (cond b (slice_get post k) None)
  within k true = sym (shown_at n post k)
  within k false = refl

  -- what stands at place k
  abbrev pub standing : ℕ → Option Message
  standing k = cond (leb 1 k && leb k c) (slice_get post (k - 1)) None

  posted_as : (k : ℕ) → posted n post c k ≡ shown n (standing k)
  unfolding posted
  posted_as zero = refl
  posted_as (suc k) =
      let s : suc k - 1 ≡ k = omega arith in
      let l : leb 1 (suc k) ≡ true = le-leb 1 (suc k) (omega arith) in
      within k (ltb k c) ∙ sym (rw (s, l))

  pub posted_some : (k : ℕ) (x : Message) → standing k ≡ Some x → proper n x ≡ true → x ≡ posted n post c k
  posted_some k x e p = sym (posted_as k ∙ rw (e, p))

  hidden : (o : Option Message) → ((x : Message) → o ≡ Some x → proper n x ≡ false) → shown n o ≡ silence
  hidden None f = refl
  hidden (Some x) f = rw (f x refl)

  pub posted_none : (k : ℕ) → ((x : Message) → standing k ≡ Some x → proper n x ≡ false) → silence ≡ posted n post c k
  posted_none k h = sym (posted_as k ∙ hidden (standing k) h)
