-- The numbers of refusals and moves. Assumes nothing.
--     at_call n k j          a refusal of the call itself: number n, layer 4, place k, slot j
--     refusal_numbers e      the four numbers of a refusal; the faults of lower layers keep theirs
--     move_number p          the number of a move
use Rattle.std.specs.Prelude.{ℕ}
use Rattle.quorum.specs.declared.faults.FaultNumbers.{FaultNumbers}
use Rattle.mail.specs.Numbers.{report_numbers, proposal_numbers}
use Rattle.protocol.specs.declared.refusal.Refusal.{Refusal}
use Rattle.protocol.specs.declared.refusal.Refusal.TheVariants.{FewValues, ShortTable, PostLength, OwnNotValid, NoProcess, Foreign, Run, PostFull, NoMessage, NotWellFormed, Late, Early, Held, NoMove, LastView, NotLeader, InReport, InProposal}
use Rattle.protocol.specs.declared.moves.Move as moves
use Rattle.protocol.specs.declared.moves.Move.TheVariants.{Relay, TakeUp, Propose, Vote, Lock, Decide}

abbrev pub at_call : ℕ → ℕ → ℕ → FaultNumbers
at_call n k j = record { number = n; layer = 4; place = k; slot = j }

abbrev pub refusal_numbers : Refusal → FaultNumbers
refusal_numbers FewValues = at_call 1 0 32
refusal_numbers ShortTable = at_call 2 0 32
refusal_numbers PostLength = at_call 3 0 32
refusal_numbers (OwnNotValid j) = at_call 4 0 j
refusal_numbers NoProcess = at_call 5 0 32
refusal_numbers Foreign = at_call 6 0 32
refusal_numbers Run = at_call 6 0 32
refusal_numbers PostFull = at_call 7 0 32
refusal_numbers NoMessage = at_call 8 0 32
refusal_numbers NotWellFormed = at_call 9 0 32
refusal_numbers (Late k) = at_call 10 k 32
refusal_numbers (Early k) = at_call 11 k 32
refusal_numbers (Held k) = at_call 12 k 32
refusal_numbers NoMove = at_call 13 0 32
refusal_numbers LastView = at_call 14 0 32
refusal_numbers (NotLeader k) = at_call 15 k 32
refusal_numbers (InReport e) = report_numbers e
refusal_numbers (InProposal e) = proposal_numbers e

abbrev pub move_number : moves.Move → ℕ
move_number Relay = 1
move_number TakeUp = 2
move_number Propose = 3
move_number Vote = 4
move_number Lock = 5
move_number Decide = 6
