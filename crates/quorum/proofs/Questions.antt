-- The two questions of each rule, from what the code computes: a count or a weight, and a comparison. Assumes nothing.
use Rattle.std.proofs.Common.{◌≡◌, ℕ, ◌+◌, ◌*◌, ◌≤◌, not, ltb, leb, List, length, Decides, arith}
use Rattle.std.proofs.lemmas.Bool.Decides.{nat_tests, Decides-at}
use Rattle.sets.specs.Rules.{Lawful, Blocking}
use Rattle.sets.specs.Weighing.{weight, count, counting, weighing}
use Rattle.sets.proofs.Laws.{counting_lawful}
use Rattle.sets.proofs.Grounded.{blocking_is}
use Rattle.quorum.specs.WeightList.{weight_at, total_of, weights_rule}

ltb_not : (a b : ℕ) → ltb a b ≡ not (leb b a)
ltb_not a b = grind (arith, nat_tests)

leb_not : (a b : ℕ) → leb a b ≡ not (ltb b a)
leb_not a b = grind (arith, nat_tests)

-- at the size n and the count c of the set s
module _ (f s n c : ℕ) (size_is : n ≡ (counting f).size) (count_is : c ≡ count n s) where
  pub counting_quorum : leb (2 * f + 1) c ≡ (counting f).quorum s
  unfolding counting
  counting_quorum = rw (count_is, size_is)

  pub counting_blocking : f ≤ 10 → Decides (ltb f c) (Blocking (counting f) s)
  unfolding counting
  counting_blocking few =
      Decides-at (ltb f c) (not ((counting f).tolerated s)) (rw (count_is, size_is) (ltb_not f (count (3 * f + 1) s)))
      (blocking_is (counting f) (counting_lawful f few) s)

-- at the weight w of the set s and the weight t of all
module _ (xs : List ℕ) (s w t : ℕ) (weight_is : w ≡ weight (length xs) (weight_at xs) s) (total_is : t ≡ total_of xs) where
  pub weights_quorum : ltb (2 * t) (3 * w) ≡ (weights_rule xs).quorum s
  unfolding weighing
  weights_quorum = rw (weight_is, total_is)

  pub weights_blocking : Lawful (weights_rule xs) → Decides (leb t (3 * w)) (Blocking (weights_rule xs) s)
  unfolding weighing
  weights_blocking laws =
      Decides-at (leb t (3 * w)) (not ((weights_rule xs).tolerated s)) (rw (weight_is, total_is) (leb_not (total_of xs) (3 * weight (length xs) (weight_at xs) s)))
      (blocking_is (weights_rule xs) laws s)
