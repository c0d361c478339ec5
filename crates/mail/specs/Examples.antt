-- All worked examples, as one statement. Assumes nothing.
--     message s kind v a w ps      a message, by its fields; its citations are ps and then 0
--     post_of_three                a post of four processes: three PREPARED of view 2 and value 8, three of view 1 and value 9, and
--                                  reports of view 3 by 0 (not locked), 1 (locked in 2) and 2 (locked in 1), at places 7, 8 and 9
--     offer a                      the proposal of view 3 and value a that cites these reports, at place 10
--     Examples                     the examples
use Rattle.std.specs.Prelude.{◌≡◌, ℕ, true, List, [], ◌∷◌, ◌++◌, replicate, Some, None, Option}
use Rattle.std.specs.Option.{option_map}
use Rattle.sets.specs.Weighing.{counting}
use Rattle.quorum.specs.declared.faults.FaultNumbers.{FaultNumbers}
use Rattle.quorum.specs.Examples.{RuleExamples}
use Rattle.mail.specs.declared.message.Message.{Message}
use Rattle.mail.specs.Messages.{posted, kind_report, kind_propose, kind_prepared}
use Rattle.mail.specs.Leaders.{leader_of}
use Rattle.mail.specs.Numbers.{report_numbers, proposal_numbers}
use Rattle.mail.specs.Judging.{report_fault, proposal_fault}

abbrev pub message : ℕ → ℕ → ℕ → ℕ → ℕ → List ℕ → Message
message s kind v a w ps = record { sender = s; kind = kind; view = v; value = a; locked = w; citations = ps ++ replicate 28 0 }

abbrev none : List ℕ
none = 0 ∷ 0 ∷ 0 ∷ 0 ∷ []

abbrev prepared : ℕ → ℕ → ℕ → Message
prepared s v a = message s kind_prepared v a 0 none

abbrev pub post_of_three : List Message
post_of_three =
    prepared 0 2 8 ∷ prepared 1 2 8 ∷ prepared 2 2 8
    ∷ prepared 0 1 9 ∷ prepared 1 1 9 ∷ prepared 2 1 9
    ∷ message 0 kind_report 3 0 0 none
    ∷ message 1 kind_report 3 8 2 (1 ∷ 2 ∷ 3 ∷ 0 ∷ [])
    ∷ message 2 kind_report 3 9 1 (4 ∷ 5 ∷ 6 ∷ 0 ∷ [])
    ∷ []

abbrev pub offer : ℕ → Message
offer a = message 2 kind_propose 3 a 0 (7 ∷ 8 ∷ 9 ∷ 0 ∷ [])

-- the numbers of the offer's first fault, where every value is valid
abbrev pub offered : ℕ → Option FaultNumbers
offered a = option_map proposal_numbers (proposal_fault (counting 1) (λ _. true) (posted 4 post_of_three 9) (offer a) 10)

pub record Examples : Type 0 where
  pub rules : RuleExamples
  -- the leaders of views 1, 4, 5 and 4,294,967,295 among four processes; view 0 has none
  pub leaders : (leader_of 4 1 ≡ Some 0) × (leader_of 4 4 ≡ Some 3) × (leader_of 4 5 ≡ Some 0) × (leader_of 4 4294967295 ≡ Some 2)
  pub no_leader : leader_of 4 0 ≡ None
  -- a report of view 3 that is locked in 3
  pub locked_in_its_view : option_map report_numbers (report_fault (counting 1) (posted 4 post_of_three 9) (message 1 kind_report 3 8 3 (1 ∷ 2 ∷ 3 ∷ 0 ∷ [])) 10) ≡ Some (record { number = 22; layer = 2; place = 10; slot = 32 })
  -- reports locked in 0, in 2 with value 8 and in 1 with value 9: a proposal of 8 is safe, one of 9 is not
  pub highest_passes : offered 8 ≡ None
  pub lower_fails : offered 9 ≡ Some (record { number = 27; layer = 3; place = 10; slot = 32 })
