-- The leader of a view. Assumes nothing.
--     leader_of n v      among n processes, process (v − 1) mod n leads view v above 0; view 0 has no leader
--     leads n v j        process j leads view v
use Rattle.std.specs.Prelude.{ℕ, ◌-◌, ◌%◌, Bool, false, cond, ◌||◌, Some, None, Option, ◌==◌, nat_eq}

abbrev pub leader_of : ℕ → ℕ → Option ℕ
leader_of n v = cond (n == 0 || v == 0) None (Some ((v - 1) % n))

abbrev pub leads : ℕ → ℕ → ℕ → Bool
leads n v j = elim (leader_of n v) [ None ↦ false | Some i ↦ nat_eq i j ]
