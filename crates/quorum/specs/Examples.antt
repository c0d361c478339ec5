-- Worked examples of the definitions. Sets are written in binary, process 0 last. Assumes nothing.
--     OnlyBlocking m s        s is blocking and no quorum
--     Pair m xs h s           the wishes xs have the hopeful view h and the settled view s
--     RuleExamples            the examples
use Rattle.std.specs.Prelude.{◌≡◌, ℕ, ◌≤◌, true, false, List, [], ◌∷◌}
use Rattle.sets.specs.Rules.{Rule, Blocking}
use Rattle.sets.specs.Weighing.{counting, count}
use Rattle.quorum.specs.WeightList.{weights_rule}
use Rattle.quorum.specs.Validity.{framed}
use Rattle.quorum.specs.Wishes.{hopeful, settled}

abbrev pub OnlyBlocking : Rule → ℕ → Type 0
OnlyBlocking m s = (m.quorum s ≡ false) × Blocking m s

abbrev pub Pair : Rule → List ℕ → ℕ → ℕ → Type 0
Pair m xs h s = (hopeful m xs ≡ h) × (settled m xs ≡ s)

pub record RuleExamples : Type 0 where
  -- counting with f = 1
  pub three_of_four : (counting 1).quorum 0b0111 ≡ true
  pub two_of_four : OnlyBlocking (counting 1) 0b0011
  pub one_of_four : (counting 1).tolerated 0b1000 ≡ true
  -- counting with f = 10
  pub twenty_one : (s : ℕ) → 21 ≤ count 31 s → (counting 10).quorum s ≡ true
  pub twenty : (s : ℕ) → count 31 s ≤ 20 → (counting 10).quorum s ≡ false
  -- weights 5, 1, 1, 1
  pub heavy_pair : (weights_rule (5 ∷ 1 ∷ 1 ∷ 1 ∷ [])).quorum 0b0011 ≡ true
  pub light_three : OnlyBlocking (weights_rule (5 ∷ 1 ∷ 1 ∷ 1 ∷ [])) 0b1110
  pub light_pair : (weights_rule (5 ∷ 1 ∷ 1 ∷ 1 ∷ [])).tolerated 0b0110 ≡ true
  -- wishes under counting with f = 1
  pub together : Pair (counting 1) (3 ∷ 3 ∷ 5 ∷ 0 ∷ []) 3 3
  pub apart : Pair (counting 1) (1 ∷ 3 ∷ 5 ∷ 0 ∷ []) 3 1
  pub silent : Pair (counting 1) (0 ∷ 0 ∷ 0 ∷ 0 ∷ []) 0 0
  -- frame 7, limit 10
  pub last_framed : framed 7 10 30064771082 ≡ true
  pub past_framed : framed 7 10 30064771083 ≡ false
