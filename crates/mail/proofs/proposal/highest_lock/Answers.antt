use Rattle.std.proofs.Common.{◌≡◌, max, length, refl, ap, ◌∙◌, add-one, rules}
use Rattle.std.proofs.lemmas.List.{length_push}
use Rattle.mail.specs.Messages.{place_at, posted}
use Rattle.mail.specs.Readings.{read}
use Rattle.mail.specs.Judging.{top_lock}
use Rattle.mail.proofs.Locks.{top_part}
use Rattle.quorum.proofs.Numbered.{part_turn, part_ended}
use Rattle.mail.proofs.proposal.highest_lock.Goals as goal

pub loop-cited-init : goal.loop-cited-init
unfolding top_lock
loop-cited-init c = search rules

pub loop-cited-preserved : goal.loop-cited-preserved
unfolding top_lock
loop-cited-preserved c =
    let w = part_turn c.args.size c.args.citations.now c.loop-cited.yielded _ _ c.next.new.self _ (cc) (cc) c.loop-cited.yielded_by _ c.in-Some.is c.next.ensures.steps in
    let z = w.entry_is 0 in
    let e : c.higher-top.result ≡ max (top_lock (read c.args.reading.now) c.args.citations.now (length c.loop-cited.yielded)) (read c.args.reading.now (place_at c.args.citations.now (length c.loop-cited.yielded))).locked = search rules in
    rw (length_push c.loop-cited.yielded c.in-Some.cited, add-one) e

pub returns : goal.returns
unfolding posted
returns c =
    let xs = c.args.citations.now in
    let n = part_ended c.args.size xs c.loop-cited.yielded _ _ c.next.new.self _ (cc) (cc) c.loop-cited.yielded_by c.in-None.is c.next.ensures.steps in
    c.loop-cited.invariant ∙ ap (top_lock (read c.args.reading.now) xs) n ∙ top_part (read c.args.reading.now) xs refl c.args.size
