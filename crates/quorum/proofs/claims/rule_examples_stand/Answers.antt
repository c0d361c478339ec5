use Rattle.std.proofs.Common.{[], ◌∷◌, refl, arith, lit≤}
use Rattle.std.proofs.lemmas.Bool.{le-leb, lt-leb}
use Rattle.sets.specs.Sets.{has, sift}
use Rattle.sets.specs.Weighing.{weigh, count, counting, weighing}
use Rattle.sets.proofs.Laws.{counting_lawful, weighing_lawful}
use Rattle.sets.proofs.Grounded.{blocking_is}
use Rattle.quorum.specs.WeightList.{weights_rule, weight_at}
use Rattle.quorum.specs.Wishes.{highest}
use Rattle.quorum.proofs.claims.rule_examples_stand.Goals as goal

pub returns : goal.returns
unfolding has sift weigh counting weighing highest
returns c = record {
  three_of_four = refl;
  two_of_four = (refl, (blocking_is (counting 1) (counting_lawful 1 (lit≤ tt)) 0b0011).0 refl);
  one_of_four = refl;
  twenty_one = λ s h. le-leb 21 (count 31 s) h;
  twenty = λ s h. lt-leb 21 (count 31 s) (omega arith);
  heavy_pair = refl;
  light_three = (refl, (blocking_is (weights_rule (5 ∷ 1 ∷ 1 ∷ 1 ∷ [])) (weighing_lawful 4 (weight_at (5 ∷ 1 ∷ 1 ∷ 1 ∷ [])) (lit≤ tt) (lit≤ tt) (lit≤ tt)) 0b1110).0 refl);
  light_pair = refl;
  together = (refl, refl);
  apart = (refl, refl);
  silent = (refl, refl);
  last_framed = refl;
  past_framed = refl;
}
