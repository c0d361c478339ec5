use Rattle.std.proofs.Common.{◌≡◌, length, sym, ap, ◌∙◌, arith}
use Rattle.mail.specs.Messages.{posted}
use Rattle.mail.specs.Readings.{read}
use Rattle.quorum.proofs.Numbered.{part_turn, part_ended}
use Rattle.steps.proofs.LockValues.{value_here, value_part}
use Rattle.steps.proofs.choosing.locked_value.Goals as goal

pub returns-then-report-locked : goal.returns-then-report-locked
returns-then-report-locked c =
    let w = part_turn c.args.size c.args.reports.now c.loop-held.yielded _ _ c.next.new.self _ (cc) (cc) c.loop-held.yielded_by _ c.in-Some.is c.next.ensures.steps in
    value_here (read c.args.reading.now) c.args.reports.now c.args.locked (length c.loop-held.yielded) c.at-report.result.now (c.at-report.ensures ∙ ap (read c.args.reading.now) (w.entry_is 0)) c.loop-held.invariant c.args.size w.low c.if-report-locked.true

pub returns : goal.returns
unfolding posted
returns c =
    let xs = c.args.reports.now in
    let n = part_ended c.args.size xs c.loop-held.yielded _ _ c.next.new.self _ (cc) (cc) c.loop-held.yielded_by c.in-None.is c.next.ensures.steps in
    let unlocked : (read c.args.reading.now 0).locked ≡ c.args.locked → ⊥ = λ e. omega (arith, e, c.requires) in
    sym (rw n at c.loop-held.invariant) ∙ value_part (read c.args.reading.now) xs c.args.locked unlocked c.args.size
