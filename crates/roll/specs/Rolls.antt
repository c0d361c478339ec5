-- Lines that are rolls. Assumes nothing.
--     content r         what a roll says: a number of faults, or weights
--     narrow w          w, or the largest number of 32 bits, which is too large for a weight as well
--     roll_of bs        the roll that a line is: the letter C (67) and one number, or the letter W (87) and weights
--     weight_in r j     the weight of process j in the roll r
use Rattle.std.specs.Prelude.{ℕ, min, cond, ◌⊎◌, List, [], ◌∷◌, map, Some, None, vec_items, Option, ◌==◌, slice_index}
use Rattle.std.proofs.Common.{inl, inr}
use Rattle.numerals.specs.Reading.{parts}
use Rattle.roll.specs.declared.rolls.Roll.{Roll}
use Rattle.roll.specs.declared.rolls.Roll.TheVariants.{ByCount, ByWeight}

abbrev pub content : Roll → ℕ ⊎ List ℕ
content (ByCount f) = inl f
content (ByWeight v) = inr (vec_items v)

abbrev pub narrow : ℕ → ℕ
narrow w = min w 4294967295

abbrev by_count : List ℕ → Option (ℕ ⊎ List ℕ)
by_count [] = None
by_count (f ∷ []) = Some (inl (min f 255))
by_count (f ∷ g ∷ ns) = None

abbrev pub by_letter : ℕ → List ℕ → Option (ℕ ⊎ List ℕ)
by_letter c ns = cond (c == 67) (by_count ns) (cond (c == 87) (Some (inr (map narrow ns))) None)

abbrev pub roll_of : List ℕ → Option (ℕ ⊎ List ℕ)
roll_of bs = elim (parts bs) [ None ↦ None | Some line ↦ by_letter line.0 line.1 ]

abbrev pub weight_in : Roll → ℕ → ℕ
weight_in (ByCount f) j = 1
weight_in (ByWeight v) j = slice_index (vec_items v) j
