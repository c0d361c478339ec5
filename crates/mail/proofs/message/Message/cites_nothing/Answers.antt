use Rattle.std.proofs.Common.{◌≡◌, ◌∙◌, length, eqb, ap, rules, tests}
use Rattle.std.proofs.lemmas.Iterator.{YieldsList-from_slice}
use Rattle.std.proofs.lemmas.Iterator.Search.{all_from_yields_List}
use Rattle.mail.specs.Posting.{bare}
use Rattle.mail.proofs.Slots.{bare_all}
use Rattle.mail.proofs.message.Message.cites_nothing.Goals as goal

pub returns : goal.returns
returns c =
    let xs = c.args.self.now.citations in
    let long : length xs ≡ 32 = search rules in
    all_from_yields_List (λ k. eqb k 0) _ _ c.all.result c.all.ensures.ran (YieldsList-from_slice xs (cc)) (λ x b q k. search (rules, tests))
    ∙ bare_all xs ∙ ap (bare xs) long
