use Rattle.std.proofs.Common.{◌≡◌, ℕ, None, length, ap, ◌∙◌, sym, arith, rules}
use Rattle.std.proofs.lemmas.List.{length_push}
use Rattle.quorum.specs.Firsts.{answered}
use Rattle.quorum.proofs.Found.{none_from_ok, some_from_err, exits, first_more}
use Rattle.quorum.proofs.Numbered.{turn, ended}
use Rattle.mail.specs.Readings.{read}
use Rattle.mail.specs.Judging.{citation_fault, is_highest}
use Rattle.mail.proofs.Citations.{by_offer, by_citation, by_highest}
use Rattle.mail.proofs.proposal.judge_proposal.Goals as goal

pub returns-in_err-check_offer : goal.returns-in_err-check_offer
returns-in_err-check_offer g c =
    exits _ _ _ _ c.from_residual.ensures.1
    (by_offer _ _ (read c.args.reading.now) c.args.proposal.now c.args.place _ (some_from_err _ _ _ c.in_err-check_offer.ensures))

pub check_citation-requires : goal.check_citation-requires
check_citation-requires g c =
    let at = turn c.size-size.result c.args.proposal.now.citations c.loop-slot.yielded _ _ c.next.new.self _ (search rules) (search rules) c.loop-slot.yielded_by _ c.in-Some.is c.next.ensures.steps in
    rw at.0 (at.1.entry_is 0)

pub loop-slot-preserved : goal.loop-slot-preserved
loop-slot-preserved g c =
    let x = c.args.proposal.now in
    let w = turn c.size-size.result x.citations c.loop-slot.yielded _ _ c.next.new.self _ (search rules) (search rules) c.loop-slot.yielded_by _ c.in-Some.is c.next.ensures.steps in
    let f : ℕ → _ = citation_fault (g.Q.QuorumRule.meaning c.args.rule.now) (read c.args.reading.now) x c.args.place in
    let here : f (length c.loop-slot.yielded) ≡ None = ap f (sym w.0) ∙ none_from_ok _ _ _ c.in_ok-check_citation.ensures in
    rw (length_push c.loop-slot.yielded (c.in-Some.slot, c.in-Some.cited)) (first_more f (length c.loop-slot.yielded) c.loop-slot.invariant here)

pub returns-in_err-check_citation : goal.returns-in_err-check_citation
returns-in_err-check_citation g c =
    let x = c.args.proposal.now in
    let w = turn c.size-size.result x.citations c.loop-slot.yielded _ _ c.next.new.self _ (search rules) (search rules) c.loop-slot.yielded_by _ c.in-Some.is c.next.ensures.steps in
    let sound = none_from_ok _ _ _ c.in_ok-check_offer.ensures in
    exits _ _ _ _ c.from_residual-in_err-check_citation.ensures.1
    (by_citation _ _ (read c.args.reading.now) x c.args.place sound _ c.in-Some.slot (omega (arith, w.0, w.1.low, c.size-size.ensures)) (rw w.0 c.loop-slot.invariant) (some_from_err _ _ _ c.in_err-check_citation.ensures))

pub returns : goal.returns
returns g c =
    let x = c.args.proposal.now in
    let n = ended c.size-size.result x.citations c.loop-slot.yielded _ _ c.next.new.self _ (search rules) (search rules) c.loop-slot.yielded_by c.in-None.is c.next.ensures.steps in
    let long : length x.citations ≡ 32 = search rules in
    let few = (g.met.Q.QuorumRule.lawful c.args.rule.now).few in
    let sound = none_from_ok _ _ _ c.in_ok-check_offer.ensures in
    c.check.ensures
    ∙ ap (λ o. answered o tt) (sym (by_highest (g.Q.QuorumRule.meaning c.args.rule.now) (g.V.ValidityRule.valid c.args.validity.now) (read c.args.reading.now) x c.args.place sound (length c.loop-slot.yielded) (omega (arith, n, long, few, c.size-size.ensures)) c.loop-slot.invariant _ (c.is_highest.ensures ∙ ap (λ k. is_highest k (read c.args.reading.now) x) c.size-size.ensures)))
