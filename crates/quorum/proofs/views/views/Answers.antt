use Rattle.std.proofs.Common.{rules, ℕ, not, refl, length, ◌∙◌, arith}
use Rattle.std.proofs.lemmas.Iterator.{YieldsList-from_slice, YieldsList-from_take}
use Rattle.std.proofs.lemmas.Iterator.Consumers.{YieldsList-turn}
use Rattle.std.proofs.lemmas.List.{length_push, length-take, get_or-take, get_or_default}
use Rattle.quorum.specs.Wishes.{highest}
use Rattle.quorum.proofs.Highs.{highest_more, asks_blocking}
use Rattle.quorum.proofs.views.views.Goals as goal

pub loop-view-init : goal.loop-view-init
unfolding highest
loop-view-init g c = (search rules, search rules, refl, refl)

pub loop-view-preserved : goal.loop-view-preserved
loop-view-preserved g c =
    let m = g.Q.QuorumRule.meaning c.args.rule.now in
    let laws = g.met.Q.QuorumRule.lawful c.args.rule.now in
    let xs = c.args.wishes.now in
    let k = length c.loop-view.yielded in
    let w = c.in-Some.view.now in
    let s = c.tally-wishing.result.bits in
    let t = YieldsList-turn (YieldsList-from_take c.size.result (YieldsList-from_slice xs (cc)) (cc)) c.loop-view.yielded _ c.loop-view.yielded_by _ c.next.new.self c.in-Some.view c.in-Some.is c.next.ensures.steps in
    let few = length-take c.size.result xs in
    let wish_is = t.1 ∙ get_or-take c.size.result xs k w (omega arith) ∙ get_or_default xs k w 0 (omega arith) in
    let set_is = c.tally-wishing.ensures in
    rw (length_push c.loop-view.yielded c.in-Some.view) (
      search rules,
      search rules,
      highest_more (λ (t : ℕ). not (m.tolerated t)) xs k c.loop-view.hopeful w s c.raise-hopeful.result c.is_blocking.result c.loop-view.invariant.2 wish_is set_is (asks_blocking m laws s _ c.is_blocking.ensures) c.raise-hopeful.ensures,
      highest_more m.quorum xs k c.loop-view.settled w s c.raise-settled.result c.is_quorum.result c.loop-view.invariant.3 wish_is set_is c.is_quorum.ensures c.raise-settled.ensures,
    )
