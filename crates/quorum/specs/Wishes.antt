-- The hopeful and the settled view. Assumes nothing.
--     wishing xs w            the processes with a wish of at least w
--     raised h w b            the higher of h and w where b holds, else h
--     highest q xs n          the highest wish of the first n processes for which the processes that wish it pass q; 0 where there is none
--     hopeful m xs            the highest view that a blocking set wishes
--     settled m xs            the highest view that a quorum wishes
--     Highest P r             r is the highest view, from 1 on, with P; or 0 where there is none
--     Views m                 hopeful and settled are the highest of all views, and settled is at most hopeful
use Rattle.std.specs.Prelude.{◌≡◌, ℕ, zero, suc, ◌<◌, ◌≤◌, max, Bool, true, cond, not, List, nat_le, slice_index}
use Rattle.sets.specs.Rules.{Rule, Blocking}
use Rattle.quorum.specs.Tallies.{tallied}

abbrev pub wishing : List ℕ → ℕ → ℕ
wishing xs w = tallied (nat_le w) xs

abbrev pub raised : ℕ → ℕ → Bool → ℕ
raised h w b = cond b (max h w) h

unfoldable pub highest : (ℕ → Bool) → List ℕ → ℕ → ℕ
highest q xs zero = 0
highest q xs (suc j) = raised (highest q xs j) (slice_index xs j) (q (wishing xs (slice_index xs j)))

abbrev pub hopeful : Rule → List ℕ → ℕ
hopeful m xs = highest (λ s. not (m.tolerated s)) xs m.size

abbrev pub settled : Rule → List ℕ → ℕ
settled m xs = highest m.quorum xs m.size

pub record Highest (P : ℕ → Type 0) (r : ℕ) : Type 0 where
  pub here : 1 ≤ r → P r
  pub above : (w : ℕ) → r < w → P w → ⊥

pub record Views (m : Rule) : Type 0 where
  pub hopeful_is : (xs : List ℕ) → Highest (λ w. Blocking m (wishing xs w)) (hopeful m xs)
  pub settled_is : (xs : List ℕ) → Highest (λ w. m.quorum (wishing xs w) ≡ true) (settled m xs)
  pub order : (xs : List ℕ) → settled m xs ≤ hopeful m xs
