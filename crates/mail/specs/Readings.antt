-- A post as it is read. Assumes nothing.
--     read r k        what place k of the reading r reads as
use Rattle.std.specs.Prelude.{ℕ}
use Rattle.mail.specs.declared.message.Message.{Message}
use Rattle.mail.specs.declared.place.Reading.{Reading}
use Rattle.mail.specs.Messages.{posted}

abbrev pub read : Reading → ℕ → Message
read r k = posted r.size r.post.now r.count k
