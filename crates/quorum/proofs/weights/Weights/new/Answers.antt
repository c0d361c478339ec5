use Rattle.std.proofs.Common.{◌∙◌, true, length, refl, arith}
use Rattle.std.proofs.lemmas.List.{length_push}
use Rattle.std.proofs.lemmas.Result.{err_from_is_err_and}
use Rattle.sets.proofs.Sums.{weigh_more}
use Rattle.quorum.specs.WeightList.{weight_at}
use Rattle.quorum.proofs.Found.{none_from_ok, some_from_err, first_more}
use Rattle.quorum.proofs.Loads.{enough, heavy, by_weight, by_total, load}
use Rattle.quorum.proofs.Numbered.{turn, ended}
use Rattle.quorum.proofs.weights.Weights.new.Goals as goal

pub returns-in_err-check_weight : goal.returns-in_err-check_weight
returns-in_err-check_weight c =
    let xs = c.args.list.now in
    let i = length c.loop-process.yielded in
    let at = turn 32 xs c.loop-process.yielded _ _ c.next.new.self _ (cc) (cc) c.loop-process.yielded_by _ c.in-Some.is c.next.ensures.steps in
    let few = none_from_ok _ _ _ c.in_ok-check_count.ensures in
    let out = err_from_is_err_and c.from_residual-in_err-check_weight.result c.from_residual-in_err-check_weight.ensures.1 in
    let fault_is = some_from_err _ _ _ c.in_err-check_weight.ensures in
    rw (out.1, out.2) (by_weight xs few _ i at.1.short c.loop-process.invariant.2 (rw (← at.1.entry_is 0, ← at.0) fault_is))

pub loop-process-preserved : goal.loop-process-preserved
loop-process-preserved c =
    let xs = c.args.list.now in
    let i = length c.loop-process.yielded in
    let at = turn 32 xs c.loop-process.yielded _ _ c.next.new.self _ (cc) (cc) c.loop-process.yielded_by _ c.in-Some.is c.next.ensures.steps in
    let none = none_from_ok _ _ _ c.in_ok-check_weight.ensures in
    let le = enough c.in-Some.weight.now c.in-Some.process none in
    let weight_is = at.1.entry_is 0 in
    rw (length_push c.loop-process.yielded (c.in-Some.process, c.in-Some.weight), weight_is) (
      weigh_more (weight_at xs) (λ _. true) i c.loop-process.total c.loop-process.invariant.0 refl,
      omega arith,
      first_more (heavy xs) i c.loop-process.invariant.2 (rw (← at.1.entry_is 0, ← at.0) none),
    )

pub returns-in_err-check_total : goal.returns-in_err-check_total
returns-in_err-check_total c =
    let xs = c.args.list.now in
    let end = ended 32 xs c.loop-process.yielded _ _ c.next.new.self _ (cc) (cc) c.loop-process.yielded_by c.in-None.is c.next.ensures.steps in
    let few = none_from_ok _ _ _ c.in_ok-check_count.ensures in
    let judged = by_total xs few _ _ end c.loop-process.invariant.0 c.loop-process.invariant.2 in
    let out = err_from_is_err_and c.from_residual-in_err-check_total.result c.from_residual-in_err-check_total.ensures.1 in
    rw (out.1, out.2) (judged.1 ∙ some_from_err _ _ _ c.in_err-check_total.ensures)

pub invariant_of-result : goal.invariant_of-result
invariant_of-result c =
    let xs = c.args.list.now in
    let end = ended 32 xs c.loop-process.yielded _ _ c.next.new.self _ (cc) (cc) c.loop-process.yielded_by c.in-None.is c.next.ensures.steps in
    let few = none_from_ok _ _ _ c.in_ok-check_count.ensures in
    let judged = by_total xs few _ _ end c.loop-process.invariant.0 c.loop-process.invariant.2 in
    let l = load xs (judged.1 ∙ none_from_ok _ _ _ c.in_ok-check_total.ensures) in
    record { some = l.some; few = l.few; light = l.light; whole = judged.0; weighty = l.weighty }

pub returns : goal.returns
returns c =
    let xs = c.args.list.now in
    let end = ended 32 xs c.loop-process.yielded _ _ c.next.new.self _ (cc) (cc) c.loop-process.yielded_by c.in-None.is c.next.ensures.steps in
    let few = none_from_ok _ _ _ c.in_ok-check_count.ensures in
    let judged = by_total xs few _ _ end c.loop-process.invariant.0 c.loop-process.invariant.2 in
    (judged.1 ∙ none_from_ok _ _ _ c.in_ok-check_total.ensures, refl)
