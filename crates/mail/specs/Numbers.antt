-- The four numbers of each fault of mail: number, layer (1 certificate, 2 report, 3 proposal), place and slot (32 unless one is named).
-- A fault of a lower layer keeps its numbers. Assumes nothing.
--     certificate_numbers e, report_numbers e, proposal_numbers e     the numbers of the fault e
use Rattle.quorum.specs.declared.faults.FaultNumbers.{FaultNumbers}
use Rattle.quorum.specs.Numbers.{four_numbers}
use Rattle.mail.specs.declared.faults.CertificateFault.{CertificateFault}
use Rattle.mail.specs.declared.faults.CertificateFault.TheVariants.{NoQuorum, WrongMessage}
use Rattle.mail.specs.declared.faults.ReportFault.{ReportFault}
use Rattle.mail.specs.declared.faults.ReportFault.TheVariants.{LockNotBelow, InCertificate}
use Rattle.mail.specs.declared.faults.ProposalFault.{ProposalFault}
use Rattle.mail.specs.declared.faults.ProposalFault.TheVariants.{NotLeader, NotValid, TooFewReports, NotReport, InReport, NotHighest}

abbrev pub certificate_numbers : CertificateFault → FaultNumbers
certificate_numbers (NoQuorum k) = four_numbers 20 1 k 32
certificate_numbers (WrongMessage k j) = four_numbers 21 1 k j

abbrev pub report_numbers : ReportFault → FaultNumbers
report_numbers (LockNotBelow k) = four_numbers 22 2 k 32
report_numbers (InCertificate e) = certificate_numbers e

abbrev pub proposal_numbers : ProposalFault → FaultNumbers
proposal_numbers (NotLeader k) = four_numbers 23 3 k 32
proposal_numbers (NotValid k) = four_numbers 24 3 k 32
proposal_numbers (TooFewReports k) = four_numbers 25 3 k 32
proposal_numbers (NotReport k j) = four_numbers 26 3 k j
proposal_numbers (InReport e) = report_numbers e
proposal_numbers (NotHighest k) = four_numbers 27 3 k 32
