-- The search of a list for a value. Assumes nothing.
use Rattle.std.proofs.Common.{◌≡◌, ℕ, ◌||◌, eqb, Bool, List, [], ◌∷◌, refl, ap}
use Rattle.std.specs.List.{list_any}
use Rattle.quorum.specs.Validity.{listed}

pub listed_any : (xs : List ℕ) (v : ℕ) → listed xs v ≡ list_any (λ x. eqb x v) xs
listed_any [] v = refl
listed_any (x ∷ xs) v = ap (λ (b : Bool). eqb x v || b) (listed_any xs v)
