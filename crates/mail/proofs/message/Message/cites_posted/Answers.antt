use Rattle.std.proofs.Common.{◌≡◌, ◌∙◌, ℕ, length, ap, rules, tests}
use Rattle.std.proofs.lemmas.Iterator.{YieldsList-from_slice}
use Rattle.std.proofs.lemmas.Iterator.Consumers.{YieldsList-from_enumerate}
use Rattle.std.proofs.lemmas.Iterator.Search.{all_from_yields_List}
use Rattle.mail.specs.Posting.{citable, citable_at}
use Rattle.mail.proofs.Slots.{citable_all}
use Rattle.mail.proofs.message.Message.cites_posted.Goals as goal

pub returns : goal.returns
returns c =
    let xs = c.args.self.now.citations in
    let long : length xs ≡ 32 = search rules in
    all_from_yields_List (λ (p : ℕ × ℕ). citable_at c.args.size c.args.count p.0 p.1) _ _ c.all.result c.all.ensures.ran (YieldsList-from_enumerate (YieldsList-from_slice xs (cc)) (cc)) (λ x b q k. search (rules, tests))
    ∙ citable_all c.args.size c.args.count xs ∙ ap (citable c.args.size c.args.count xs) long
