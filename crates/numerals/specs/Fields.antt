-- One number in shortest decimal, byte by byte: 0 alone, or a digit from 1 to 9 and digits after it, below 2 ^ 64. Assumes nothing.
--     digit b        b is a digit, 48 to 57
--     longer n d     n with the digit d after it; None where that is not below 2 ^ 64
--     next f b       what the byte b makes of the field f; a space (32) ends it; None where no number goes on so
--     ended f        the number of a whole field
use Rattle.std.specs.Prelude.{ℕ, ◌+◌, ◌-◌, ◌*◌, ◌^◌, Bool, cond, ◌&&◌, Some, None, Option, ◌==◌, nat_le, nat_lt}
use Rattle.numerals.specs.declared.field.Field.{Field}
use Rattle.numerals.specs.declared.field.Field.TheVariants.{Empty, Zero, Number}
use Rattle.numerals.specs.declared.field.Step.{Step}
use Rattle.numerals.specs.declared.field.Step.TheVariants.{Read, Ended}

abbrev pub digit : ℕ → Bool
digit b = nat_le 48 b && nat_le b 57

abbrev pub longer : ℕ → ℕ → Option Step
longer n d = cond (nat_lt (n * 10 + d) (2 ^ 64)) (Some (Read (Number (n * 10 + d)))) None

abbrev pub next : Field → ℕ → Option Step
next Empty b = cond (b == 48) (Some (Read Zero)) (cond (digit b) (Some (Read (Number (b - 48)))) None)
next Zero b = cond (b == 32) (Some (Ended 0)) None
next (Number n) b = cond (b == 32) (Some (Ended n)) (cond (digit b) (longer n (b - 48)) None)

abbrev pub ended : Field → Option ℕ
ended Empty = None
ended Zero = Some 0
ended (Number n) = Some n
