-- Two small runs. Assumes nothing.
--     opened f g owns      the state of a committee by counting with f, g foreign and these own values, as its opening leaves it
--     decisions s n        the decisions of the first n processes
--     RunExamples          the runs
use Rattle.std.specs.Prelude.{◌≡◌, ℕ, zero, suc, List, [], ◌∷◌, ◌++◌, replicate, Some, None, Ok, Option}
use Rattle.sets.specs.Weighing.{counting}
use Rattle.quorum.specs.Validity.{framed}
use Rattle.mail.specs.Messages.{silence}
use Rattle.protocol.specs.declared.row.Decision.{Decision}
use Rattle.protocol.specs.declared.call.Call.{Call}
use Rattle.protocol.specs.declared.call.Call.TheVariants.{Expire, Sweep}
use Rattle.protocol.specs.declared.call.Answer.TheVariants.{Sent, Swept}
use Rattle.protocol.specs.Rows.{blank_row}
use Rattle.protocol.specs.Settings.{Setting, State, row}
use Rattle.protocol.specs.Openings.{Opening, opening, setting, standing}
use Rattle.protocol.specs.Runs.{run, answers}

-- a post of 32 places and a table of four rows
abbrev made : ℕ → ℕ → List ℕ → Opening
made f g owns = opening (counting f) (framed 0 1000000) (record { count = 9; span = 9; foreign = 9 }) (replicate 4 blank_row) (replicate 32 silence) g owns

abbrev pub committee : ℕ → ℕ → List ℕ → Setting
committee f g owns = setting (counting f) (framed 0 1000000) (made f g owns).books

abbrev pub opened : ℕ → ℕ → List ℕ → State
opened f g owns = standing (made f g owns).books (made f g owns).table (replicate 32 silence)

abbrev pub decisions : State → ℕ → List (Option Decision)
decisions s zero = []
decisions s (suc j) = decisions s j ++ ((row s j).decision ∷ [])

abbrev sweeps : ℕ → List Call
sweeps n = replicate n Sweep

abbrev five : List ℕ
five = 5 ∷ []

abbrev four : List ℕ
four = 5 ∷ 6 ∷ 7 ∷ 8 ∷ []

abbrev wishes : List Call
wishes = Expire 0 ∷ Expire 1 ∷ Expire 2 ∷ []

abbrev first_view : ℕ → Option Decision
first_view a = Some (record { view = 1; value = a })

pub record RunExamples : Type 0 where
  -- one process alone, which expires: it decides its own value in five sweeps, and not in four
  pub alone : decisions (run (committee 0 0 five) (opened 0 0 five) (Expire 0 ∷ sweeps 5)) 1 ≡ first_view 5 ∷ []
  pub not_yet : decisions (run (committee 0 0 five) (opened 0 0 five) (Expire 0 ∷ sweeps 4)) 1 ≡ None ∷ []
  pub answered : answers (committee 0 0 five) (opened 0 0 five) (Expire 0 ∷ sweeps 2)
      ≡ Ok (Sent 1) ∷ Ok (Swept (record { accepted = 1; moves = 2; stopped = 0 })) ∷ Ok (Swept (record { accepted = 1; moves = 1; stopped = 0 })) ∷ []
  -- four processes, of which the foreign 3 is silent: the others expire, and decide the first leader's value in six sweeps
  pub silent : decisions (run (committee 1 0b1000 four) (opened 1 0b1000 four) (wishes ++ sweeps 6)) 4 ≡ first_view 5 ∷ first_view 5 ∷ first_view 5 ∷ None ∷ []
