-- A delivery, test by test. Assumes nothing.
use Rattle.std.proofs.Common.{◌≡◌, ℕ, set, Some, None, Option, Result, refl}
use lib.Seq.{set-get_or}
use Rattle.quorum.specs.Firsts.{answered, kept}
use Rattle.protocol.specs.declared.row.Row.{Row}
use Rattle.protocol.specs.declared.refusal.Refusal.{Refusal}
use Rattle.protocol.specs.Settings.{Setting, State, outcome, row, mail, put}
use Rattle.protocol.specs.Calls.{lent_fault, run_fault, taking_fault, taken, deliver}
use Rattle.steps.specs.Giving.{giving_fault, ruled}

answers : {A : Type 0} (s : State) (o : Option Refusal) (x : A) (t : State) → answered o x ≡ (outcome s o x t).answer
answers s None x t = refl
answers s (Some e) x t = refl

puts : {A : Type 0} (s : State) (i : ℕ) (o : Option Refusal) (x : A) (r : Row) → set s.table i (kept o (row s i) r) ≡ (outcome s o x (put s i r)).state.table
puts s i None x r = refl
puts s i (Some e) x r = rw set-get_or

module _ (S : Setting) (s : State) (i k : ℕ) (lent : lent_fault S s ≡ None) (runs : run_fault S i ≡ None) where
  abbrev fault : Option Refusal
  fault = giving_fault (ruled S.rule S.valid) (mail S s) i (row s i) k

  pub by_answer : (r : Result (Unit {0}) Refusal) → r ≡ answered fault tt → r ≡ (deliver S s i k).answer
  unfolding deliver taking_fault
  by_answer r e = rw (lent, runs, e) (answers s fault tt _)

  pub by_row : (r : Row) → r ≡ kept fault (row s i) (taken (mail S s) (row s i) k) → set s.table i r ≡ (deliver S s i k).state.table
  unfolding deliver taking_fault
  by_row r e = rw (lent, runs, e) (puts s i fault tt _)
