-- The judging of mail: the first fault of a certificate, a report, a proposal, or none.
-- m is the quorum rule's meaning, M what each place reads as, and k the place of the message that is judged. Assumes nothing.
--     certificate_fault m M places v a k    of the places as a certificate for view v and value a: no quorum; then, slot by slot, a wrong message
--     report_fault m M x k                  of the report x: a locked view not below its view; then its certificate's
--     citation_fault m M x k j              of the citation of process j in the proposal x: no report of j and of x's view; then that report's
--     top_lock M places n                   the highest locked view of the first n places
--     carries M places h a n                one of the first n places has the locked view h and the value a
--     is_highest n M x                      no cited report is locked, or one with the highest locked view has x's value
--     offer_fault m valid x k               of the proposal x, before its citations: not the leader's; no valid value; no quorum of reports
--     proposal_fault m valid M x k          of the proposal x: not the leader's; no valid value; no quorum of reports; slot by slot, its citations'; not a highest value
use Rattle.std.specs.Prelude.{ℕ, zero, suc, max, Bool, false, cond, not, ◌||◌, List, None, Option, ◌==◌, nat_lt}
use Rattle.std.specs.Option.{option_map}
use Rattle.sets.specs.Rules.{Rule}
use Rattle.quorum.specs.Firsts.{fault_if, first, first_below}
use Rattle.mail.specs.declared.message.Message.{Message}
use Rattle.mail.specs.declared.faults.CertificateFault.{CertificateFault}
use Rattle.mail.specs.declared.faults.CertificateFault.TheVariants.{NoQuorum, WrongMessage}
use Rattle.mail.specs.declared.faults.ReportFault.{ReportFault}
use Rattle.mail.specs.declared.faults.ReportFault.TheVariants.{LockNotBelow, InCertificate}
use Rattle.mail.specs.declared.faults.ProposalFault.{ProposalFault}
use Rattle.mail.specs.declared.faults.ProposalFault.TheVariants.{NotLeader, NotValid, TooFewReports, NotReport, InReport, NotHighest}
use Rattle.mail.specs.Messages.{place_at, held, cited, is_vote, is_report, has_lock, kind_prepared}
use Rattle.mail.specs.Leaders.{leads}

abbrev pub vote_fault : (ℕ → Message) → List ℕ → ℕ → ℕ → ℕ → ℕ → Option CertificateFault
vote_fault M places v a k j =
    cond (held (place_at places j)) (fault_if (not (is_vote kind_prepared j v a (M (place_at places j)))) (WrongMessage k j)) None

unfoldable pub certificate_fault : Rule → (ℕ → Message) → List ℕ → ℕ → ℕ → ℕ → Option CertificateFault
certificate_fault m M places v a k = first (fault_if (not (m.quorum (cited places))) (NoQuorum k)) (first_below (vote_fault M places v a k) m.size)

abbrev pub report_fault : Rule → (ℕ → Message) → Message → ℕ → Option ReportFault
report_fault m M x k =
    first (fault_if (not (nat_lt x.locked x.view)) (LockNotBelow k))
    (cond (x.locked == 0) None (option_map InCertificate (certificate_fault m M x.citations x.locked x.value k)))

abbrev pub citation_fault : Rule → (ℕ → Message) → Message → ℕ → ℕ → Option ProposalFault
citation_fault m M x k j =
    cond (held (place_at x.citations j))
    (first (fault_if (not (is_report j x.view (M (place_at x.citations j)))) (NotReport k j))
    (option_map InReport (report_fault m M (M (place_at x.citations j)) (place_at x.citations j))))
    None

unfoldable pub top_lock : (ℕ → Message) → List ℕ → ℕ → ℕ
top_lock M places zero = 0
top_lock M places (suc j) = max (top_lock M places j) (M (place_at places j)).locked

unfoldable pub carries : (ℕ → Message) → List ℕ → ℕ → ℕ → ℕ → Bool
carries M places h a zero = false
carries M places h a (suc j) = carries M places h a j || has_lock h a (M (place_at places j))

abbrev pub is_highest : ℕ → (ℕ → Message) → Message → Bool
is_highest n M x = top_lock M x.citations n == 0 || carries M x.citations (top_lock M x.citations n) x.value n

abbrev pub offer_fault : Rule → (ℕ → Bool) → Message → ℕ → Option ProposalFault
offer_fault m valid x k =
    first (fault_if (not (leads m.size x.view x.sender)) (NotLeader k))
    (first (fault_if (not (valid x.value)) (NotValid k))
    (fault_if (not (m.quorum (cited x.citations))) (TooFewReports k)))

unfoldable pub proposal_fault : Rule → (ℕ → Bool) → (ℕ → Message) → Message → ℕ → Option ProposalFault
proposal_fault m valid M x k =
    first (fault_if (not (leads m.size x.view x.sender)) (NotLeader k))
    (first (fault_if (not (valid x.value)) (NotValid k))
    (first (fault_if (not (m.quorum (cited x.citations))) (TooFewReports k))
    (first (first_below (citation_fault m M x k) m.size) (fault_if (not (is_highest m.size M x)) (NotHighest k)))))
