-- An accepted opening leaves an opened committee. The rule is lawful.
--     rows_length, rows_at     the new rows of a table
--     opened                   the opening
use Rattle.std.proofs.Common.{◌≡◌, ℕ, zero, suc, ◌<◌, ◌≤◌, Bool, true, false, not, ◌&&◌, ◌||◌, eqb, ltb, List, length, get_or, set, Some, None, Ok, Option, sym, refl, ◌∙◌, subst, inl, inr, arith}
use Rattle.std.proofs.lemmas.List.{length-set, get_or-set_same, get_or-set_other}
use Rattle.std.proofs.lemmas.Bool.{ltb-false, and_cases, not-false, cases_lt, both_ways}
use Rattle.sets.specs.Sets.{has, below}
use Rattle.sets.specs.Rules.{Rule, Lawful}
use Rattle.sets.proofs.Members.{has_sift}
use Rattle.quorum.specs.Firsts.{fault_if, first_below, kept}
use Rattle.quorum.proofs.Found.{both_none, faultless, none_below, none_from_ok}
use Rattle.mail.specs.declared.message.Message.{Message}
use Rattle.protocol.specs.declared.row.Row.{Row}
use Rattle.protocol.specs.declared.refusal.Refusal.{Refusal}
use Rattle.protocol.specs.Rows.{blank_row, new_row}
use Rattle.protocol.specs.Openings.{Books, own_fault, open_fault, new_rows, opening, setting, standing}
use Rattle.protocol.specs.Protocol.{Opened}

module _ (owns : List ℕ) (table : List Row) where
  rows_length : (n : ℕ) → length (new_rows owns table n) ≡ length table
  unfolding new_rows
  rows_length zero = refl
  rows_length (suc n) = length-set (new_rows owns table n) n (new_row (get_or owns n 0)) ∙ rows_length n

  rows_at : (n j : ℕ) → j < n → n ≤ length table → get_or (new_rows owns table n) j blank_row ≡ new_row (get_or owns j 0)
  unfolding new_rows
  rows_at zero j l h = absurd (omega arith)
  rows_at (suc n) j l h = elim (cases_lt j n) [
    | inl k ↦ get_or-set_other (new_rows owns table n) n j (new_row (get_or owns n 0)) blank_row (λ e. omega arith) ∙ rows_at n j k (omega arith)
    | inr g ↦
        let e : j ≡ n = omega arith in
        let wide = rows_length n in
        subst (λ (i : ℕ). get_or (set (new_rows owns table n) n (new_row (get_or owns n 0))) i blank_row ≡ new_row (get_or owns i 0)) (sym e)
        (get_or-set_same (new_rows owns table n) n (new_row (get_or owns n 0)) blank_row (omega arith))
  ]

module _ (m : Rule) (valid : ℕ → Bool) (b : Books) (table : List Row) (post : List Message) (foreign : ℕ) (owns : List ℕ) where
  abbrev fresh_books : Books
  fresh_books = record { count = 0; span = length post; foreign = below m.size foreign }

  fine : open_fault m valid table post foreign owns ≡ None → Opened (setting m valid fresh_books) (standing fresh_books (new_rows owns table m.size) post)
  unfolding open_fault
  fine h =
      let x = both_none (fault_if (ltb (length owns) m.size) _) _ h in
      let y = both_none (fault_if (ltb (length table) m.size) _) _ x.1 in
      let z = both_none (fault_if (eqb (length post) 0 || ltb 65535 (length post)) _) (first_below (own_fault valid foreign owns) m.size) y.1 in
      let wide = ltb-false (length table) m.size (faultless (ltb (length table) m.size) _ y.0) in
      record {
        rows = rw (rows_length owns table m.size) wide;
        span = refl;
        fresh = λ j l. (get_or owns j 0, rows_at owns table m.size j l wide, own j l (faultless (not (has foreign j) && not (valid (get_or owns j 0))) _ (none_below (own_fault valid foreign owns) m.size z.1 j l)));
        none = refl;
      }
    where
      own : (j : ℕ) → j < m.size → (not (has foreign j) && not (valid (get_or owns j 0))) ≡ false → has (below m.size foreign) j ≡ false → valid (get_or owns j 0) ≡ true
      own j l f out = elim (and_cases (not (has foreign j)) (not (valid (get_or owns j 0))) f) [
        | inl n ↦ absurd (both_ways (has foreign j) (sym (has_sift m.size (has foreign) j l) ∙ out) (not-false (has foreign j) n))
        | inr n ↦ not-false (valid (get_or owns j 0)) n
      ]

  pub opened : Lawful m → (opening m valid b table post foreign owns).answer ≡ Ok tt →
      Opened (setting m valid (opening m valid b table post foreign owns).books) (standing (opening m valid b table post foreign owns).books (opening m valid b table post foreign owns).table post)
  opened laws h = let e = none_from_ok (open_fault m valid table post foreign owns) tt tt (sym h) in go (open_fault m valid table post foreign owns) e (fine e)
    where
      go : (o : Option Refusal) → o ≡ None → Opened (setting m valid fresh_books) (standing fresh_books (new_rows owns table m.size) post) →
          Opened (setting m valid (kept o b fresh_books)) (standing (kept o b fresh_books) (kept o table (new_rows owns table m.size)) post)
      go None e f = f
      go (Some d) e f = let z : ◌≡◌ {A = ℕ} 0 1 = cc in absurd (omega arith)
