-- What opening does, step by step. Assumes nothing.
--     promise          what an opening without a refusal promises
--     rows_more        one more new row
use Rattle.std.proofs.Common.{◌≡◌, ℕ, ◌+◌, Bool, true, List, length, get_or, set, Some, None, Ok, Option, refl, add-one, arith}
use Rattle.sets.specs.Sets.{below}
use Rattle.sets.specs.Rules.{Rule, Lawful}
use Rattle.quorum.specs.Firsts.{answered, kept}
use Rattle.mail.specs.declared.message.Message.{Message}
use Rattle.protocol.specs.declared.row.Row.{Row}
use Rattle.protocol.specs.declared.refusal.Refusal.{Refusal}
use Rattle.protocol.specs.Rows.{new_row}
use Rattle.protocol.specs.Openings as openings
use Rattle.protocol.specs.Openings.{new_rows, open_fault, own_fault, setting, standing}
use Rattle.agreement.specs.Promise.{Promise}
use Rattle.agreement.proofs.Promises.{promised}

module _ (m : Rule) (valid : ℕ → Bool) (table : List Row) (post : List Message) (foreign : ℕ) (owns : List ℕ) where
  abbrev opens : Option Refusal
  opens = open_fault m valid table post foreign owns

  abbrev fresh : openings.Books
  fresh = record { count = 0; span = length post; foreign = below m.size foreign }

  -- the promise, about what an opening without a refusal leaves
  pub promise : (b : openings.Books) → Lawful m → opens ≡ None → (n : ℕ) → n ≡ m.size → (t : List Row) → t ≡ new_rows owns table n → (h : ℕ) → h ≡ below n foreign → m.tolerated h ≡ true →
      Promise (record { rule = m; valid = valid; span = length post; foreign = h }) (record { table = t; post = post; count = 0 })
  promise b laws none n is t rows h set few =
      let rows' : t ≡ new_rows owns table m.size = rw is at rows in
      let set' : h ≡ below m.size foreign = rw is at set in
      let few' : m.tolerated (below m.size foreign) ≡ true = rw set' at few in
      rw (rows', set') (go opens none (promised m valid laws b table post foreign owns) few')
    where
      go : (o : Option Refusal) → o ≡ None →
          (answered {X = Unit {0}} o tt ≡ Ok tt → m.tolerated (kept o b fresh).foreign ≡ true → Promise (setting m valid (kept o b fresh)) (standing (kept o b fresh) (kept o table (new_rows owns table m.size)) post)) →
          m.tolerated (below m.size foreign) ≡ true → Promise (setting m valid fresh) (standing fresh (new_rows owns table m.size) post)
      go None z h few = h refl few
      go (Some e) z h few = let z' : ◌≡◌ {A = ℕ} 0 1 = cc in absurd (omega arith)

pub rows_more : (owns : List ℕ) (table t : List Row) (j : ℕ) (r : Row) → t ≡ new_rows owns table j → r ≡ new_row (get_or owns j 0) → set t j r ≡ new_rows owns table (j + 1)
unfolding new_rows
rows_more owns table t j r e f = rw (add-one, e, f)
