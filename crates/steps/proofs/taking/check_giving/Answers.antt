use Rattle.std.proofs.Common.{◌≡◌, false, ◌&&◌, leb, rules}
use Rattle.mail.specs.Messages.{kind_wish, kind_committed}
use Rattle.protocol.specs.Calls.{taking_fault}
use Rattle.steps.proofs.Kindless.{no_kind}
use Rattle.steps.proofs.taking.check_giving.Goals as goal

pub returns-in-Err : goal.returns-in-Err
returns-in-Err g c =
    let r = c.args.reading.now in
    let x = c.at-message.result.now in
    let f : (leb kind_wish x.kind && leb x.kind kind_committed) ≡ false = search rules in
    let none = no_kind r.size r.post.now r.count c.args.place (rw c.at-message.ensures at f) in
    search rules

pub returns-in-Ok-Wish : goal.returns-in-Ok-Wish
unfolding taking_fault
returns-in-Ok-Wish g c = search rules

pub returns-in-Ok-NewLeader : goal.returns-in-Ok-NewLeader
unfolding taking_fault
returns-in-Ok-NewLeader g c = search rules

pub returns-in-Ok-Propose : goal.returns-in-Ok-Propose
unfolding taking_fault
returns-in-Ok-Propose g c = search rules

pub returns-in-Ok-Prepared : goal.returns-in-Ok-Prepared
unfolding taking_fault
returns-in-Ok-Prepared g c = search rules

pub returns-in-Ok-Committed : goal.returns-in-Ok-Committed
unfolding taking_fault
returns-in-Ok-Committed g c = search rules
