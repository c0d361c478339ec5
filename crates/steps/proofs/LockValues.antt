-- The value of the lowest report with a given locked view, as a loop over the slots finds it. Assumes nothing.
-- x is the message at the place of slot j.
--     value_here, value_later     a slot that has the locked view, one that has not
--     value_part     slots past the end have no locked view
use Rattle.std.proofs.Common.{◌≡◌, ℕ, ◌+◌, ◌<◌, min, List, length, Some, None, Option, refl, sym}
use Rattle.std.proofs.lemmas.List.{get_or_past}
use Rattle.std.proofs.lemmas.Bool.{eq-eqb, ne_eqb}
use Rattle.quorum.specs.Firsts.{first, first_below}
use Rattle.quorum.proofs.Found.{first_here, first_more}
use Rattle.quorum.proofs.Numbered.{up_to_end}
use Rattle.mail.specs.declared.message.Message.{Message}
use Rattle.mail.specs.Messages.{place_at}
use Rattle.steps.specs.Proposing.{lock_value}

module _ (M : ℕ → Message) (ps : List ℕ) (h j : ℕ) (x : Message) (x_is : x ≡ M (place_at ps j)) (none : first_below (lock_value M ps h) j ≡ None) where
  found : x.locked ≡ h → lock_value M ps h j ≡ Some x.value
  found e = rw (sym x_is, eq-eqb x.locked h e)

  passed : (x.locked ≡ h → ⊥) → lock_value M ps h j ≡ None
  passed ne = rw (sym x_is, ne_eqb x.locked h ne)

  pub value_here : (n : ℕ) → j < n → x.locked ≡ h → Some x.value ≡ first_below (lock_value M ps h) n
  value_here n l e = sym (first_here (lock_value M ps h) j n x.value l none (found e))

  pub value_later : (x.locked ≡ h → ⊥) → first_below (lock_value M ps h) (j + 1) ≡ None
  value_later ne = first_more (lock_value M ps h) j none (passed ne)

first_none : (o : Option ℕ) → first o None ≡ o
first_none None = refl
first_none (Some e) = refl

pub value_part : (M : ℕ → Message) (ps : List ℕ) (h : ℕ) → ((M 0).locked ≡ h → ⊥) → (n : ℕ) → first_below (lock_value M ps h) (min n (length ps)) ≡ first_below (lock_value M ps h) n
value_part M ps h unlocked =
    up_to_end (first_below (lock_value M ps h)) (length ps) (λ k l.
    let none : lock_value M ps h k ≡ None = rw (get_or_past ps k 0 l, ne_eqb (M 0).locked h unlocked) in
    rw none (first_none (first_below (lock_value M ps h) k)))
