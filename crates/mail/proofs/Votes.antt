-- The judging of a certificate, as the code goes about it: s is the cited set, b whether it is a quorum. Assumes nothing.
--     by_quorum, by_vote, no_fault     which fault is the first
use Rattle.std.proofs.Common.{◌≡◌, ℕ, ◌<◌, Bool, not, List, Some, None, Option, sym, ◌∙◌, subst}
use Rattle.sets.specs.Rules.{Rule}
use Rattle.quorum.specs.Firsts.{fault_if, first_below}
use Rattle.quorum.proofs.Found.{first_here}
use Rattle.mail.specs.declared.message.Message.{Message}
use Rattle.mail.specs.declared.faults.CertificateFault.{CertificateFault}
use Rattle.mail.specs.declared.faults.CertificateFault.TheVariants.{NoQuorum}
use Rattle.mail.specs.Messages.{cited}
use Rattle.mail.specs.Judging.{vote_fault, certificate_fault}

module _ (m : Rule) (M : ℕ → Message) (places : List ℕ) (v a k s : ℕ) (set_is : s ≡ cited places) (b : Bool) (asked : b ≡ m.quorum s) where
  abbrev judged : Option CertificateFault
  judged = certificate_fault m M places v a k

  abbrev pub vote : ℕ → Option CertificateFault
  vote = vote_fault M places v a k

  pub by_quorum : (e : CertificateFault) → fault_if (not b) (NoQuorum k) ≡ Some e → judged ≡ Some e
  unfolding certificate_fault
  by_quorum e h = let h' : fault_if (not (m.quorum (cited places))) (NoQuorum k) ≡ Some e = rw (asked, set_is) at h in rw h'

  module _ (passed : fault_if (not b) (NoQuorum k) ≡ None) where
    votes_left : judged ≡ first_below vote m.size
    unfolding certificate_fault
    votes_left = let h : fault_if (not (m.quorum (cited places))) (NoQuorum k) ≡ None = rw (asked, set_is) at passed in rw h

    pub by_vote : (e : CertificateFault) (j : ℕ) → j < m.size → first_below vote j ≡ None → vote j ≡ Some e → judged ≡ Some e
    by_vote e j l p q = votes_left ∙ first_here vote j m.size e l p q

    pub no_fault : (j : ℕ) → m.size ≡ j → first_below vote j ≡ None → judged ≡ None
    no_fault j e p = votes_left ∙ subst (λ (i : ℕ). first_below vote i ≡ None) (sym e) p
