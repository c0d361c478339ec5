-- The text of what is answered to a line, and of where a process stands at the end. Assumes nothing.
--     letter_text call        the letter of a call
--     done_text a             ok, and the numbers of the answer a
--     refused_text e          no, and the four numbers of a refusal
--     reply_text r            what is answered to a line
--     standing_of i row       where process i stands, which has this row
--     decided s               what is decided there; view 0 and value 0 where nothing is
--     standing_text s         R, process, view, locked view, and the view and value of what is decided
use Rattle.std.specs.Prelude.{ℕ, List, ◌++◌, Ok, Err, codes, decimal}
use Rattle.std.specs.Option.{unwrap_or}
use Rattle.quorum.specs.declared.faults.FaultNumbers.{FaultNumbers}
use Rattle.quorum.specs.Numbers.{numbers_text}
use Rattle.protocol.specs.declared.call.Answer as answers
use Rattle.protocol.specs.declared.call.Answer.TheVariants.{Sent, Delivered, Moved, Swept}
use Rattle.protocol.specs.declared.call.Call.{Call}
use Rattle.protocol.specs.declared.call.Call.TheVariants.{Expire, Post, Deliver, MakeMove, Sweep}
use Rattle.protocol.specs.declared.row.Decision.{Decision}
use Rattle.protocol.specs.declared.row.Row.{Row}
use Rattle.protocol.specs.Numbers.{move_number, refusal_numbers}
use Rattle.script.specs.declared.answers.Reply.{Reply}
use Rattle.script.specs.declared.answers.Reply.TheVariants.{Wrong, Opened, Carried}
use Rattle.script.specs.declared.standing.Standing.{Standing}

abbrev pub letter_text : Call → List ℕ
letter_text (Expire i) = codes "X"
letter_text (Post j m) = codes "P"
letter_text (Deliver i k) = codes "D"
letter_text (MakeMove i) = codes "M"
letter_text Sweep = codes "S"

abbrev pub done_text : answers.Answer → List ℕ
done_text (Sent k) = codes "ok " ++ decimal k
done_text Delivered = codes "ok"
done_text (Moved p k) = codes "ok " ++ (decimal (move_number p) ++ (codes " " ++ decimal k))
done_text (Swept s) = codes "ok " ++ (decimal s.accepted ++ (codes " " ++ (decimal s.moves ++ (codes " " ++ decimal s.stopped))))

abbrev pub refused_text : FaultNumbers → List ℕ
refused_text e = codes "no " ++ numbers_text e

abbrev pub reply_text : Reply → List ℕ
reply_text Wrong = codes "? no"
reply_text (Opened (Ok x)) = codes "C ok"
reply_text (Opened (Err e)) = codes "C " ++ refused_text e
reply_text (Carried call (Ok a)) = letter_text call ++ (codes " " ++ done_text a)
reply_text (Carried call (Err e)) = letter_text call ++ (codes " " ++ refused_text (refusal_numbers e))

abbrev pub standing_of : ℕ → Row → Standing
standing_of i row =
    record { process = i; view = row.ballot.view; locked = row.lock.view; decision = row.decision }

abbrev pub decided : Standing → Decision
decided s = unwrap_or s.decision (record { view = 0; value = 0 })

abbrev pub standing_text : Standing → List ℕ
standing_text s =
    codes "R " ++ (decimal s.process ++ (codes " " ++ (decimal s.view ++ (codes " " ++ (decimal s.locked
    ++ (codes " " ++ (decimal (decided s).view ++ (codes " " ++ decimal (decided s).value))))))))
