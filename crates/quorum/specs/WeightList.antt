-- Lists of weights: the rule that a list makes, and why another makes none. Assumes nothing.
--     weight_at xs j       the weight of process j
--     total_of xs          the weight of all processes
--     weights_rule xs      the rule by these weights
--     weights_fault xs     the first of: not 1 to 32 weights; a weight above 1,000,000, the lowest such process named; no weight at all
use Rattle.std.specs.Prelude.{ℕ, not, ◌&&◌, List, length, Option, ◌==◌, nat_le, nat_lt, slice_index}
use Rattle.sets.specs.Rules.{Rule}
use Rattle.sets.specs.Weighing.{total, weighing}
use Rattle.quorum.specs.Firsts.{fault_if, first, first_below}
use Rattle.quorum.specs.declared.faults.RuleFault.{RuleFault}
use Rattle.quorum.specs.declared.faults.RuleFault.TheVariants.{WeightCount, TooHeavy, NoWeight}

abbrev pub weight_at : List ℕ → ℕ → ℕ
weight_at xs j = slice_index xs j

abbrev pub total_of : List ℕ → ℕ
total_of xs = total (length xs) (weight_at xs)

abbrev pub weights_rule : List ℕ → Rule
weights_rule xs = weighing (length xs) (weight_at xs)

abbrev pub count_fault : ℕ → Option RuleFault
count_fault n = fault_if (not (nat_le 1 n && nat_le n 32)) WeightCount

abbrev pub heavy_fault : ℕ → ℕ → Option RuleFault
heavy_fault w j = fault_if (nat_lt 1000000 w) (TooHeavy j)

abbrev pub total_fault : ℕ → Option RuleFault
total_fault w = fault_if (w == 0) NoWeight

unfoldable pub weights_fault : List ℕ → Option RuleFault
weights_fault xs = first (count_fault (length xs)) (first (first_below (λ j. heavy_fault (weight_at xs j) j) (length xs)) (total_fault (total_of xs)))
