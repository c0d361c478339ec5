-- The text of a process's line and of the last line. Assumes nothing.
--     yes_or_no b          the word for b
--     standing_text s      the line of one process
--     summary_text s       the last line
use Rattle.std.specs.Prelude.{ℕ, Bool, cond, List, ◌++◌, codes, decimal}
use Rattle.roll.specs.declared.standing.Standing.{Standing}
use Rattle.roll.specs.declared.summary.Summary.{Summary}
use Rattle.roll.specs.Summaries.{rolls_in}

abbrev pub yes_or_no : Bool → List ℕ
yes_or_no b = cond b (codes "yes") (codes "no")

abbrev pub standing_text : Standing → List ℕ
standing_text s =
    codes "  process " ++ (decimal s.process ++ (codes ": weight " ++ (decimal s.weight
    ++ (codes ", blocks alone: " ++ (yes_or_no s.blocks_alone
    ++ (codes ", others decide without it: " ++ yes_or_no s.others_decide))))))

abbrev pub summary_text : Summary → List ℕ
summary_text s =
    codes "rolls read " ++ (decimal (rolls_in s) ++ (codes ", accepted " ++ (decimal s.accepted
    ++ (codes ", refused " ++ (decimal s.refused ++ (codes "; other lines " ++ decimal s.others))))))
