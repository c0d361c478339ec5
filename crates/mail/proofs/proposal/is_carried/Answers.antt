use Rattle.std.proofs.Common.{◌≡◌, ◌∙◌, false, eqb, arith, tests, rules}
use Rattle.std.proofs.lemmas.Bool.{ne_eqb, and_left}
use Rattle.std.proofs.lemmas.Iterator.{YieldsList-from_slice, YieldsList-from_take}
use Rattle.std.proofs.lemmas.Iterator.Search.{any_from_yields_List}
use Rattle.mail.specs.Messages.{has_lock, posted}
use Rattle.mail.specs.Readings.{read}
use Rattle.mail.proofs.Locks.{carries_first}
use Rattle.mail.proofs.proposal.is_carried.Goals as goal

pub returns : goal.returns
unfolding posted
returns c =
    let xs = c.args.citations.now in
    let past : has_lock c.args.locked c.args.value (read c.args.reading.now 0) ≡ false = and_left (eqb 0 c.args.locked) (eqb 0 c.args.value) (ne_eqb 0 c.args.locked (λ e. omega (arith, e, c.requires))) in
    any_from_yields_List (λ k. has_lock c.args.locked c.args.value (read c.args.reading.now k)) _ _ c.any.result c.any.ensures.ran (YieldsList-from_take c.args.size (YieldsList-from_slice xs (cc)) (cc)) (λ x b q k. search (rules, tests))
    ∙ carries_first (read c.args.reading.now) c.args.locked c.args.value past xs c.args.size
