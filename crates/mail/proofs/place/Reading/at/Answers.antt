use Rattle.std.proofs.Common.{◌≡◌, Some, false, sym, ap, ◌∙◌, rules}
use Rattle.std.specs.Option.{option_copied}
use Rattle.mail.specs.Messages.{proper}
use Rattle.mail.proofs.Places.{posted_some, posted_none}
use Rattle.mail.proofs.place.Reading.at.Goals as goal
use Rattle.mail.proofs.place.Reading.at.Goals.{in_default-via-in-Some+else-is_proper, in_default-via-in_default}

pub returns-in-Some : goal.returns-in-Some
returns-in-Some c =
    posted_some c.args.self.now.size c.args.self.now.post.now c.args.self.now.count c.args.place _
    (sym c.posted.ensures ∙ ap option_copied c.in-Some.is) (sym c.is_proper.ensures ∙ c.if-is_proper.true)

pub returns-in_default : goal.returns-in_default
returns-in_default c =
    posted_none c.args.self.now.size c.args.self.now.post.now c.args.self.now.count c.args.place
    (elim c.in_default.branch [
      | in_default-via-in-Some+else-is_proper w ↦ λ x e.
          let s : Some w.in-Some.message.now ≡ Some x = sym (ap option_copied w.in-Some.is) ∙ c.posted.ensures ∙ e in
          let f : proper c.args.self.now.size w.in-Some.message.now ≡ false = sym w.is_proper.ensures ∙ w.if-is_proper.false in
          search rules
      | in_default-via-in_default w ↦ λ x e. let s = sym (ap option_copied w.in_default.is) ∙ c.posted.ensures ∙ e in search rules
    ])
