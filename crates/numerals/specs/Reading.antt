-- Lines of bytes that are a letter and numbers. Assumes nothing.
--     read_on f ns bs     the numbers of a line of which ns and the field f are read and bs is left
--     numbers bs          the numbers that bs is, one space between each two; None where it is no such line
--     parts bs            the letter and the numbers of a line: a letter alone, or a letter, a space and numbers
use Rattle.std.specs.Prelude.{ℕ, cond, List, [], ◌∷◌, ◌++◌, Some, None, Option, ◌==◌}
use Rattle.std.specs.Option.{option_map}
use Rattle.numerals.specs.declared.field.Field.{Field}
use Rattle.numerals.specs.declared.field.Field.TheVariants.{Empty}
use Rattle.numerals.specs.declared.field.Step.TheVariants.{Read, Ended}
use Rattle.numerals.specs.Fields.{next, ended}

abbrev pub read_on : Field → List ℕ → List ℕ → Option (List ℕ)
read_on f ns [] = option_map (λ n. ns ++ (n ∷ [])) (ended f)
read_on f ns (b ∷ bs) = elim (next f b) [
  | Some (Read g) ↦ read_on g ns bs
  | Some (Ended n) ↦ read_on Empty (ns ++ (n ∷ [])) bs
  | None ↦ None
]

unfoldable pub numbers : List ℕ → Option (List ℕ)
numbers bs = read_on Empty [] bs

abbrev pub parts : List ℕ → Option (ℕ × List ℕ)
parts [] = None
parts (c ∷ []) = Some (c, [])
parts (c ∷ d ∷ bs) = cond (d == 32) (option_map (λ ns. (c, ns)) (numbers bs)) None
