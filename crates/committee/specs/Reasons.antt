-- Why a process cannot expire, and why one cannot post, apart from the calls. Assumes nothing.
--     expire_fault S s i      of an expiry of process i
--     post_fault S s j p      of a posting of p by process j
use Rattle.std.specs.Prelude.{ℕ, not, Option, nat_lt}
use Rattle.quorum.specs.Firsts.{fault_if, first}
use Rattle.mail.specs.Posting.{well_formed}
use Rattle.protocol.specs.declared.call.Posting.{Posting}
use Rattle.protocol.specs.declared.refusal.Refusal.{Refusal}
use Rattle.protocol.specs.declared.refusal.Refusal.TheVariants.{LastView, NotWellFormed}
use Rattle.protocol.specs.Settings.{Setting, State, row}
use Rattle.protocol.specs.Calls.{lent_fault, run_fault, foreign_fault, full_fault, addressed}

abbrev pub expire_fault : Setting → State → ℕ → Option Refusal
expire_fault S s i = first (lent_fault S s) (first (run_fault S i) (first (fault_if (not (nat_lt (row s i).ballot.view 4294967295)) LastView) (full_fault s)))

abbrev pub post_fault : Setting → State → ℕ → Posting → Option Refusal
post_fault S s j p = first (lent_fault S s) (first (foreign_fault S j) (first (fault_if (not (well_formed S.rule.size s.count (addressed j p))) NotWellFormed) (full_fault s)))
