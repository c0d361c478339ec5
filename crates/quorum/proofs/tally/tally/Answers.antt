use Rattle.std.proofs.Common.{length}
use Rattle.std.proofs.lemmas.List.{length_push}
use Rattle.quorum.proofs.Numbered.{turn, ended}
use Rattle.quorum.proofs.Slots.{tally_more, tally_less, tally_all}
use Rattle.quorum.proofs.tally.tally.Goals as goal

pub loop-process-preserved-then-passes : goal.loop-process-preserved-then-passes
loop-process-preserved-then-passes g c =
    let at = turn 32 c.args.entries.now c.loop-process.yielded _ _ c.next.new.self _ (cc) (cc) c.loop-process.yielded_by _ c.in-Some.is c.next.ensures.steps in
    rw (length_push c.loop-process.yielded (c.in-Some.process, c.in-Some.entry), c.insert-passing.ensures, at.0)
    (tally_more (g.T.EntryTest.accepts c.args.test.now) c.args.entries.now (length c.loop-process.yielded) _ _ at.1.short (at.1.entry_is _) c.passes.ensures _ c.loop-process.invariant at.1.low c.if-passes.true)

pub loop-process-preserved : goal.loop-process-preserved
loop-process-preserved g c =
    let at = turn 32 c.args.entries.now c.loop-process.yielded _ _ c.next.new.self _ (cc) (cc) c.loop-process.yielded_by _ c.in-Some.is c.next.ensures.steps in
    rw (length_push c.loop-process.yielded (c.in-Some.process, c.in-Some.entry))
    (tally_less (g.T.EntryTest.accepts c.args.test.now) c.args.entries.now (length c.loop-process.yielded) _ _ at.1.short (at.1.entry_is _) c.passes.ensures _ c.loop-process.invariant c.if-passes.false)

pub returns : goal.returns
returns g c =
    let end = ended 32 c.args.entries.now c.loop-process.yielded _ _ c.next.new.self _ (cc) (cc) c.loop-process.yielded_by c.in-None.is c.next.ensures.steps in
    rw c.loop-process.invariant (tally_all (g.T.EntryTest.accepts c.args.test.now) c.args.entries.now (length c.loop-process.yielded) end)
