-- Tests in their order, and the first fault that one of them finds. Assumes nothing.
--     fault_if b e       the fault e where b holds
--     first a b          the fault a, or else b
--     first_below f n    the fault of the lowest slot below n that has one
--     answered o x       what is answered: the fault, or else x
--     kept o old new     what becomes of a thing: with a fault it stays
use Rattle.std.specs.Prelude.{ℕ, zero, suc, Bool, cond, Some, None, Ok, Err, Option, Result}

module _ {F : Type 0} where
  abbrev pub fault_if : Bool → F → Option F
  fault_if b e = cond b (Some e) None

  abbrev pub first : Option F → Option F → Option F
  first None b = b
  first (Some e) b = Some e

  abbrev pub first_below : (ℕ → Option F) → ℕ → Option F
  first_below f zero = None
  first_below f (suc j) = first (first_below f j) (f j)

module _ {F X : Type 0} where
  abbrev pub answered : Option F → X → Result X F
  answered None x = Ok x
  answered (Some e) x = Err e

  abbrev pub kept : Option F → X → X → X
  kept None old new = new
  kept (Some e) old new = old
