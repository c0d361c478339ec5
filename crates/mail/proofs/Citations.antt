-- The judging of a proposal, as the code goes about it. Assumes nothing.
--     by_offer, by_citation, by_highest     which fault is the first
use Rattle.std.proofs.Common.{◌≡◌, ℕ, ◌<◌, Bool, not, Some, None, Option, refl, sym, ◌∙◌, subst}
use Rattle.sets.specs.Rules.{Rule}
use Rattle.quorum.specs.Firsts.{fault_if, first, first_below}
use Rattle.quorum.proofs.Found.{first_here}
use Rattle.mail.specs.declared.message.Message.{Message}
use Rattle.mail.specs.declared.faults.ProposalFault.{ProposalFault}
use Rattle.mail.specs.declared.faults.ProposalFault.TheVariants.{NotLeader, NotValid, TooFewReports, NotHighest}
use Rattle.mail.specs.Messages.{cited}
use Rattle.mail.specs.Leaders.{leads}
use Rattle.mail.specs.Judging.{offer_fault, citation_fault, is_highest, proposal_fault}

module _ {F : Type 0} where
  first_assoc : (a b c d : Option F) → first (first a (first b c)) d ≡ first a (first b (first c d))
  first_assoc None None c d = refl
  first_assoc None (Some e) c d = refl
  first_assoc (Some e) b c d = refl

module _ (m : Rule) (valid : ℕ → Bool) (M : ℕ → Message) (x : Message) (k : ℕ) where
  abbrev judged : Option ProposalFault
  judged = proposal_fault m valid M x k

  abbrev pub citation : ℕ → Option ProposalFault
  citation = citation_fault m M x k

  offered : judged ≡ first (offer_fault m valid x k) (first (first_below citation m.size) (fault_if (not (is_highest m.size M x)) (NotHighest k)))
  unfolding proposal_fault
  offered =
      sym (first_assoc (fault_if (not (leads m.size x.view x.sender)) (NotLeader k)) (fault_if (not (valid x.value)) (NotValid k))
      (fault_if (not (m.quorum (cited x.citations))) (TooFewReports k))
      (first (first_below citation m.size) (fault_if (not (is_highest m.size M x)) (NotHighest k))))

  pub by_offer : (e : ProposalFault) → offer_fault m valid x k ≡ Some e → judged ≡ Some e
  by_offer e h = offered ∙ rw h

  module _ (sound : offer_fault m valid x k ≡ None) where
    past_offer : judged ≡ first (first_below citation m.size) (fault_if (not (is_highest m.size M x)) (NotHighest k))
    past_offer = offered ∙ rw sound

    pub by_citation : (e : ProposalFault) (j : ℕ) → j < m.size → first_below citation j ≡ None → citation j ≡ Some e → judged ≡ Some e
    by_citation e j h p r = past_offer ∙ rw (first_here citation j m.size e h p r)

    pub by_highest : (j : ℕ) → m.size ≡ j → first_below citation j ≡ None → (b : Bool) → b ≡ is_highest m.size M x → judged ≡ fault_if (not b) (NotHighest k)
    by_highest j e p b h =
        let p' : first_below citation m.size ≡ None = subst (λ (i : ℕ). first_below citation i ≡ None) (sym e) p in
        past_offer ∙ rw (p', h)
