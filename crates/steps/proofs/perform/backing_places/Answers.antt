use Rattle.std.proofs.Common.{◌≡◌, length, min, ap, ◌∙◌, add-one, arith, rules}
use Rattle.std.proofs.lemmas.List.{length_push}
use Rattle.mail.specs.Readings.{read}
use Rattle.quorum.proofs.Numbered.{turn, ended}
use Rattle.protocol.specs.Plans.{backing}
use Rattle.steps.proofs.Backings.{backing_part}
use Rattle.steps.proofs.perform.backing_places.Goals as goal

pub loop-slot-init : goal.loop-slot-init
unfolding backing
loop-slot-init c = search rules

pub bounds-places-slot : goal.bounds-places-slot
bounds-places-slot c =
    let w = turn c.args.reading.now.size c.args.held.now c.loop-slot.yielded _ _ c.next.new.self _ (search rules) (search rules) c.loop-slot.yielded_by _ c.in-Some.is c.next.ensures.steps in
    let long : length c.args.held.now ≡ 32 = search rules in
    omega (arith, w.0, w.1.short, long)

pub loop-slot-preserved : goal.loop-slot-preserved
unfolding backing
loop-slot-preserved c =
    let w = turn c.args.reading.now.size c.args.held.now c.loop-slot.yielded _ _ c.next.new.self _ (search rules) (search rules) c.loop-slot.yielded_by _ c.in-Some.is c.next.ensures.steps in
    let z = w.1.entry_is 0 in
    rw (length_push c.loop-slot.yielded (c.in-Some.slot, c.in-Some.place), add-one) (search rules)

pub returns : goal.returns
returns c =
    let n = ended c.args.reading.now.size c.args.held.now c.loop-slot.yielded _ _ c.next.new.self _ (search rules) (search rules) c.loop-slot.yielded_by c.in-None.is c.next.ensures.steps in
    let long : length c.args.held.now ≡ 32 = search rules in
    let e : length c.loop-slot.yielded ≡ min c.args.reading.now.size 32 = omega (arith, n, long) in
    c.loop-slot.invariant ∙ ap (backing (read c.args.reading.now) c.args.held.now c.args.value) e ∙ backing_part (read c.args.reading.now) c.args.held.now c.args.value c.args.reading.now.size
