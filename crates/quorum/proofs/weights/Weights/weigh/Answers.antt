use Rattle.std.proofs.Common.{◌≡◌, length, sym, ◌∙◌, arith}
use Rattle.std.proofs.lemmas.List.{length_push}
use Rattle.sets.specs.Sets.{has}
use Rattle.sets.proofs.Sums.{weigh_more, weigh_less}
use Rattle.quorum.specs.WeightList.{weight_at}
use Rattle.quorum.proofs.Numbered.{turn, ended}
use Rattle.quorum.proofs.weights.Weights.weigh.Goals as goal

pub loop-process-preserved-then-contains : goal.loop-process-preserved-then-contains
loop-process-preserved-then-contains c =
    let xs = c.args.self.now.list.now in
    let i = length c.loop-process.yielded in
    let at = turn 32 xs c.loop-process.yielded _ _ c.next.new.self _ (cc) (cc) c.loop-process.yielded_by _ c.in-Some.is c.next.ensures.steps in
    let le = c.args.self.now.light i in
    rw (length_push c.loop-process.yielded (c.in-Some.process, c.in-Some.weight), at.1.entry_is 0)
    (weigh_more (weight_at xs) (has c.args.set.bits) i c.loop-process.sum c.loop-process.invariant.0 (rw (← at.0) (sym c.contains.ensures ∙ c.if-contains.true)), omega arith)

pub loop-process-preserved : goal.loop-process-preserved
loop-process-preserved c =
    let xs = c.args.self.now.list.now in
    let i = length c.loop-process.yielded in
    let at = turn 32 xs c.loop-process.yielded _ _ c.next.new.self _ (cc) (cc) c.loop-process.yielded_by _ c.in-Some.is c.next.ensures.steps in
    rw (length_push c.loop-process.yielded (c.in-Some.process, c.in-Some.weight))
    (weigh_less (weight_at xs) (has c.args.set.bits) i c.loop-process.sum c.loop-process.invariant.0 (rw (← at.0) (sym c.contains.ensures ∙ c.if-contains.false)), omega arith)

pub returns : goal.returns
returns c =
    let xs = c.args.self.now.list.now in
    let few = c.args.self.now.few in
    let end = ended 32 xs c.loop-process.yielded _ _ c.next.new.self _ (cc) (cc) c.loop-process.yielded_by c.in-None.is c.next.ensures.steps in
    let all : length xs ≡ length c.loop-process.yielded = omega arith in
    rw all c.loop-process.invariant.0
