-- The valid values of the two validity rules. Assumes nothing.
--     listed xs v           v is one of the list xs
--     framed frame limit v  the upper 32 bits of v are the frame, the lower are from 1 to the limit
use Rattle.std.specs.Prelude.{ℕ, ◌/◌, ◌%◌, ◌^◌, Bool, false, ◌&&◌, ◌||◌, List, [], ◌∷◌, ◌==◌, nat_le}

abbrev pub listed : List ℕ → ℕ → Bool
listed [] v = false
listed (x ∷ xs) v = x == v || listed xs v

abbrev pub framed : ℕ → ℕ → ℕ → Bool
framed frame limit v = v / 2 ^ 32 == frame && (nat_le 1 (v % 2 ^ 32) && nat_le (v % 2 ^ 32) limit)
