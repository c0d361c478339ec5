use Rattle.std.proofs.Common.{eqb, sym, ◌∙◌, tests, rules}
use Rattle.std.proofs.lemmas.Iterator.{YieldsList-from_slice}
use Rattle.std.proofs.lemmas.Iterator.Search.{any_from_yields_List}
use Rattle.quorum.proofs.Listing.{listed_any}
use Rattle.quorum.proofs.validity.AllowedValidityRule.is_valid.Goals as goal

pub returns : goal.returns
returns c =
    let xs = c.args.self.now.values.now in
    any_from_yields_List (λ x. eqb x c.args.value) _ _ c.any.result c.any.ensures.ran (YieldsList-from_slice xs (cc)) (λ x b q k. search (rules, tests))
    ∙ sym (listed_any xs c.args.value)
