-- Lists of calls. Assumes nothing.
--     carry_out S s c       what the call c answers, and the state after
--     run S s cs            the state after a list of calls
--     answers S s cs        what they answer
use Rattle.std.specs.Prelude.{List, [], ◌∷◌, Ok, Err, Result}
use Rattle.protocol.specs.declared.call.Call.{Call}
use Rattle.protocol.specs.declared.call.Call.TheVariants.{Expire, Post, Deliver, MakeMove, Sweep}
use Rattle.protocol.specs.declared.call.Answer.{Answer}
use Rattle.protocol.specs.declared.call.Answer.TheVariants as answer
use Rattle.protocol.specs.declared.refusal.Refusal.{Refusal}
use Rattle.protocol.specs.Settings.{Setting, State, Outcome}
use Rattle.protocol.specs.Calls.{expire, post, deliver, move}
use Rattle.protocol.specs.Sweeps.{sweep}

abbrev answer_by : {A B : Type 0} → (A → B) → Result A Refusal → Result B Refusal
answer_by f (Ok x) = Ok (f x)
answer_by f (Err e) = Err e

abbrev outcome_by : {A B : Type 0} → (A → B) → Outcome A → Outcome B
outcome_by f o = record { answer = answer_by f o.answer; state = o.state }

abbrev pub carry_out : Setting → State → Call → Outcome Answer
carry_out S s (Expire i) = outcome_by (λ k. answer.Sent k) (expire S s i)
carry_out S s (Post j p) = outcome_by (λ k. answer.Sent k) (post S s j p)
carry_out S s (Deliver i k) = outcome_by (λ _. answer.Delivered) (deliver S s i k)
carry_out S s (MakeMove i) = outcome_by (λ x. answer.Moved x.0 x.1) (move S s i)
carry_out S s Sweep = outcome_by (λ x. answer.Swept x) (sweep S s)

abbrev pub run : Setting → State → List Call → State
run S s [] = s
run S s (c ∷ cs) = run S (carry_out S s c).state cs

abbrev pub answers : Setting → State → List Call → List (Result Answer Refusal)
answers S s [] = []
answers S s (c ∷ cs) = (carry_out S s c).answer ∷ answers S (carry_out S s c).state cs
