-- The calls make the changes of the protocol, all of them and no others. Assumes nothing.
--     Lent S s              the table and the post are as long as the committee asks
--     Changes S s t         a chain of changes leads from s to t
--     First S s i p         the move p is possible for process i, and no lower one is
--     Follows S s           each call from s makes a change, a sweep a chain of them, and a refused one none
--     Accepts S s           each call from s is accepted exactly when the relation has its change
--     Ends S s              moves until one is refused end by a refusal
--     Exact m valid         this, of every committee over these rules
use Rattle.std.specs.Prelude.{◌≡◌, ℕ, ◌+◌, ◌<◌, ◌≤◌, Bool, true, cond, ◌≢◌, List, length, None, Ok, Err}
use Rattle.sets.specs.Sets.{has}
use Rattle.sets.specs.Rules.{Rule}
use Rattle.mail.specs.Trust.{Exactly}
use Rattle.protocol.specs.declared.row.Row.{Row}
use Rattle.protocol.specs.declared.moves.Move.{Move}
use Rattle.protocol.specs.declared.moves.Plan.{Plan}
use Rattle.protocol.specs.declared.call.Call.{Call}
use Rattle.protocol.specs.declared.call.Call.TheVariants.{Sweep}
use Rattle.protocol.specs.declared.call.Posting.{Posting}
use Rattle.protocol.specs.declared.refusal.Refusal.{Refusal}
use Rattle.protocol.specs.declared.refusal.Refusal.TheVariants.{NoMove, PostFull}
use Rattle.protocol.specs.Numbers.{move_number}
use Rattle.protocol.specs.Settings.{Setting, State, Runs, row, mail, put}
use Rattle.protocol.specs.Plans.{sends, move_of}
use Rattle.protocol.specs.Calls.{expire, addressed, post, deliver, made, place_sent, move}
use Rattle.protocol.specs.Sweeps.{Sweeping, is_full, settle}
use Rattle.protocol.specs.Runs.{carry_out}
use Rattle.protocol.specs.Protocol.{Hopeful, Settled, Takes, Can, Room, WellFormed, Change}
use Rattle.quorum.specs.Wishes.{hopeful, settled}

pub record Lent (S : Setting) (s : State) : Type 0 where
  pub table : S.rule.size ≤ length s.table
  pub post : length s.post ≡ S.span

pub data Changes (S : Setting) (s : State) : State → Type 0 where
  none : Changes S s s
  more : {t u : State} → Changes S s t → Change S t u → Changes S s u

pub record First (S : Setting) (s : State) (i : ℕ) (p : Plan) : Type 0 where
  pub can : Can S.rule (mail S s) i (row s i) p
  pub lowest : (q : Plan) → Can S.rule (mail S s) i (row s i) q → move_number (move_of p) ≤ move_number (move_of q)

pub record Follows (S : Setting) (s : State) : Type 0 where
  -- a refused call changes nothing
  pub refused : (c : Call) (e : Refusal) → (carry_out S s c).answer ≡ Err e → (carry_out S s c).state ≡ s
  -- every call makes changes of the relation; all but a sweep make one at most
  pub chain : (c : Call) → Changes S s (carry_out S s c).state
  pub single : (c : Call) → (c ≢ Sweep) → ((e : Refusal) → (carry_out S s c).answer ≢ Err e) → Change S s (carry_out S s c).state
  -- the rows of foreign processes stay
  pub foreign : (c : Call) (j : ℕ) → has S.foreign j ≡ true → row (carry_out S s c).state j ≡ row s j

pub record Accepts (S : Setting) (s : State) : Type 0 where
  -- the two views of the definitions are those of the relation
  pub hopes : (xs : List ℕ) → Hopeful S.rule xs (hopeful S.rule xs)
  pub settles : (xs : List ℕ) → Settled S.rule xs (settled S.rule xs)
  pub delivers : (i k : ℕ) → Exactly ((deliver S s i k).answer ≡ Ok tt) (Lent S s × Runs S i × ((r : Row) × Takes S (mail S s) i (row s i) k r))
  pub delivered : (i k : ℕ) (r : Row) → Lent S s → Runs S i → Takes S (mail S s) i (row s i) k r → (deliver S s i k).state ≡ put s i r
  -- a move is made: the first that is possible, where it sends nothing or there is room
  pub moves : (i : ℕ) (x : Move × ℕ) → Exactly ((move S s i).answer ≡ Ok x) (Lent S s × Runs S i ×
      ((p : Plan) × First S s i p × (sends i (row s i) p ≢ None → Room s) × (x ≡ (move_of p, place_sent s (sends i (row s i) p)))))
  pub moved : (i : ℕ) (p : Plan) → Lent S s → Runs S i → First S s i p → (sends i (row s i) p ≢ None → Room s) → (move S s i).state ≡ made S s i (row s i) p
  pub idle : (i : ℕ) → Exactly ((move S s i).answer ≡ Err NoMove) (Lent S s × Runs S i × ((p : Plan) → Can S.rule (mail S s) i (row s i) p → ⊥))
  pub full : (i : ℕ) → Exactly ((move S s i).answer ≡ Err PostFull) (Lent S s × Runs S i × ((p : Plan) × First S s i p × (sends i (row s i) p ≢ None) × (Room s → ⊥)))
  pub expires : (i k : ℕ) → Exactly ((expire S s i).answer ≡ Ok k) (Lent S s × Runs S i × ((row s i).ballot.view < 4294967295) × Room s × (k ≡ s.count + 1))
  pub posts : (j k : ℕ) (p : Posting) → Exactly ((post S s j p).answer ≡ Ok k)
      (Lent S s × (j < S.rule.size) × (has S.foreign j ≡ true) × WellFormed S.rule.size s.count (addressed j p) × Room s × (k ≡ s.count + 1))

-- moves until one is refused end by a refusal, which is counted if the post was full
abbrev pub Ends : Setting → Type 0
Ends S =
    (i : ℕ) (w : Sweeping) →
    (e : Refusal) × ((move S (settle 12 S i w).state i).answer ≡ Err e) × ((settle 12 S i w).stopped ≡ w.stopped + cond (is_full e) 1 0)

pub record Exact (m : Rule) (valid : ℕ → Bool) : Type 0 where
  pub follows : (S : Setting) (s : State) → S.rule ≡ m → S.valid ≡ valid → Follows S s
  pub accepts : (S : Setting) (s : State) → S.rule ≡ m → S.valid ≡ valid → Accepts S s
  pub ends : (S : Setting) → S.rule ≡ m → S.valid ≡ valid → Ends S
