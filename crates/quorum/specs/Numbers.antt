-- The four numbers by which a refusal is known outside, and those of each refusal of a rule: layer 4, place 0, slot 32 unless a process is named. Assumes nothing.
--     four_numbers n l k j     number n, layer l, place k and slot j
--     numbers e                the numbers of the fault e
--     numbers_text e           the four numbers, with a space between
use Rattle.std.specs.Prelude.{ℕ, List, ◌++◌, codes, decimal}
use Rattle.quorum.specs.declared.faults.FaultNumbers.{FaultNumbers}
use Rattle.quorum.specs.declared.faults.RuleFault.{RuleFault}
use Rattle.quorum.specs.declared.faults.RuleFault.TheVariants.{TooManyFaults, WeightCount, TooHeavy, NoWeight}

abbrev pub four_numbers : ℕ → ℕ → ℕ → ℕ → FaultNumbers
four_numbers n l k j = record { number = n; layer = l; place = k; slot = j }

abbrev pub numbers : RuleFault → FaultNumbers
numbers TooManyFaults = four_numbers 16 4 0 32
numbers WeightCount = four_numbers 17 4 0 32
numbers (TooHeavy j) = four_numbers 18 4 0 j
numbers NoWeight = four_numbers 19 4 0 32

abbrev pub numbers_text : FaultNumbers → List ℕ
numbers_text e =
    decimal e.number ++ (codes " " ++ (decimal e.layer ++ (codes " " ++ (decimal e.place ++ (codes " " ++ decimal e.slot)))))
