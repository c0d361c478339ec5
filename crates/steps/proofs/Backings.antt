-- The places that back a lock: those of slots past the end of the list change nothing. Assumes nothing.
--     backing_part     only the slots of the list count
use Rattle.std.proofs.Common.{◌≡◌, ℕ, zero, suc, min, List, length, refl, ◌∙◌, arith}
use Rattle.std.proofs.lemmas.List.{set_past, length-set}
use Rattle.quorum.proofs.Numbered.{up_to_end}
use Rattle.mail.specs.declared.message.Message.{Message}
use Rattle.protocol.specs.Plans.{backing}

module _ (M : ℕ → Message) (box : List ℕ) (a : ℕ) where
  backing_long : (n : ℕ) → length (backing M box a n) ≡ 32
  unfolding backing
  backing_long zero = refl
  backing_long (suc n) = length-set (backing M box a n) n _ ∙ backing_long n

  pub backing_part : (n : ℕ) → backing M box a (min n 32) ≡ backing M box a n
  unfolding backing
  backing_part n = up_to_end (backing M box a) 32 (λ k l. set_past (backing M box a k) k _ (omega (arith, l, backing_long k))) n
