-- The tally: which processes have an entry that passes a test. Assumes nothing.
--     passing p xs j    entry j of xs is there and passes p
--     tallied p xs      the processes below 32 whose entry passes p
use Rattle.std.specs.Prelude.{ℕ, zero, suc, Bool, false, List, [], ◌∷◌}
use Rattle.sets.specs.Sets.{sift}

abbrev pub passing : {E : Type 0} → (E → Bool) → List E → ℕ → Bool
passing p [] j = false
passing p (x ∷ xs) zero = p x
passing p (x ∷ xs) (suc j) = passing p xs j

abbrev pub tallied : {E : Type 0} → (E → Bool) → List E → ℕ
tallied p xs = sift 32 (passing p xs)
