use Rattle.std.proofs.Common.{◌≡◌, ℕ, None, length, ap, ◌∙◌, sym, arith, rules}
use Rattle.std.proofs.lemmas.List.{length_push}
use Rattle.quorum.proofs.Found.{none_from_ok, some_from_err, exits, first_more}
use Rattle.quorum.proofs.Numbered.{turn, ended}
use Rattle.mail.specs.Readings.{read}
use Rattle.mail.specs.Judging.{vote_fault}
use Rattle.mail.proofs.Votes.{by_quorum, by_vote, no_fault}
use Rattle.mail.proofs.certificate.judge_certificate.Goals as goal

pub returns-in_err-check : goal.returns-in_err-check
returns-in_err-check g c =
    let x = c.args.report.now in
    exits _ _ _ _ c.from_residual.ensures.1
    (by_quorum _ _ x.citations x.locked x.value c.args.place _ c.tally.ensures _ c.is_quorum.ensures _ (some_from_err _ _ _ c.in_err-check.ensures))

pub check_vote-requires : goal.check_vote-requires
check_vote-requires g c =
    let at = turn c.size.result c.args.report.now.citations c.loop-slot.yielded _ _ c.next.new.self _ (search rules) (search rules) c.loop-slot.yielded_by _ c.in-Some.is c.next.ensures.steps in
    rw at.0 (at.1.entry_is 0)

pub loop-slot-preserved : goal.loop-slot-preserved
loop-slot-preserved g c =
    let x = c.args.report.now in
    let w = turn c.size.result x.citations c.loop-slot.yielded _ _ c.next.new.self _ (search rules) (search rules) c.loop-slot.yielded_by _ c.in-Some.is c.next.ensures.steps in
    let f : ℕ → _ = vote_fault (read c.args.reading.now) x.citations x.locked x.value c.args.place in
    let here : f (length c.loop-slot.yielded) ≡ None = ap f (sym w.0) ∙ none_from_ok _ _ _ c.in_ok-check_vote.ensures in
    rw (length_push c.loop-slot.yielded (c.in-Some.slot, c.in-Some.cited)) (first_more f (length c.loop-slot.yielded) c.loop-slot.invariant here)

pub returns-in_err-check_vote : goal.returns-in_err-check_vote
returns-in_err-check_vote g c =
    let x = c.args.report.now in
    let w = turn c.size.result x.citations c.loop-slot.yielded _ _ c.next.new.self _ (search rules) (search rules) c.loop-slot.yielded_by _ c.in-Some.is c.next.ensures.steps in
    let passed = none_from_ok _ _ _ c.in_ok-check.ensures in
    exits _ _ _ _ c.from_residual-in_err-check_vote.ensures.1
    (by_vote _ _ x.citations x.locked x.value c.args.place _ c.tally.ensures _ c.is_quorum.ensures passed _ c.in-Some.slot (omega (arith, w.0, w.1.low, c.size.ensures)) (rw w.0 c.loop-slot.invariant) (some_from_err _ _ _ c.in_err-check_vote.ensures))

pub returns : goal.returns
returns g c =
    let x = c.args.report.now in
    let n = ended c.size.result x.citations c.loop-slot.yielded _ _ c.next.new.self _ (search rules) (search rules) c.loop-slot.yielded_by c.in-None.is c.next.ensures.steps in
    let long : length x.citations ≡ 32 = search rules in
    let few = (g.met.Q.QuorumRule.lawful c.args.rule.now).few in
    let passed = none_from_ok _ _ _ c.in_ok-check.ensures in
    rw (no_fault (g.Q.QuorumRule.meaning c.args.rule.now) (read c.args.reading.now) x.citations x.locked x.value c.args.place _ c.tally.ensures _ c.is_quorum.ensures passed (length c.loop-slot.yielded) (omega (arith, n, long, few, c.size.ensures)) c.loop-slot.invariant)
