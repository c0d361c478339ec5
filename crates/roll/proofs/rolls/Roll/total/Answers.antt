use Rattle.std.proofs.Common.{rules, ◌∙◌, arith}
use Rattle.std.proofs.lemmas.Iterator.{YieldsList-from_range, YieldsList-from_map}
use Rattle.std.proofs.lemmas.Iterator.Adapters.{fits_from_length, at_most_from_yields_List}
use Rattle.std.proofs.lemmas.Iterator.Consumers.{sum_from_yields_List}
use Rattle.std.proofs.lemmas.List.FromFn.{length-range_with_len}
use Rattle.roll.specs.Rolls.{weight_in}
use Rattle.roll.proofs.Totals.{total_is}
use Rattle.roll.proofs.rolls.Roll.total.Goals as goal

pub sum-requires-clause-fits : goal.sum-requires-clause-fits
sum-requires-clause-fits c =
    fits_from_length _ _ 255 _ (at_most_from_yields_List (YieldsList-from_range 0 c.args.size c.args.size (cc) (omega arith)) (omega (arith, length-range_with_len 0 c.args.size))) c.map.ensures.closure (omega arith) (λ x r q k. search rules)

pub returns : goal.returns
returns c =
    sum_from_yields_List c.map.result c.sum.result c.sum.ensures.ran
    (YieldsList-from_map _ (weight_in c.args.self.now) (YieldsList-from_range 0 c.args.size c.args.size (cc) (omega arith)) c.map.ensures.closure (λ x r q k. search rules))
    ∙ total_is (weight_in c.args.self.now) c.args.size
