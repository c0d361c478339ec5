-- What becomes of a script's lines. Assumes nothing.
--     Stage                    a committee that a script has opened: its faults, its validity rule, its numbers, its foreign processes
--     Played                   the reply to a line, with the stage, the table and the post after
--     owned b n                32 own values: b + j for each process j below n
--     setting_of x             what the committee of x is for good
--     unmoved q r x t          the reply r, with everything as it was
--     opened_by o t p          what an opening makes of no stage
--     carried x t p c          what the call c makes of the stage x
--     played x t p q           what the request q makes of the stage x, if there is one; a wrong line is no request
--     standing_at x t p i      where process i stands, if there is a stage and the process is run
--     Heard                    what one byte of a script makes: a reply where it ends a line, and everything after
--     answered_line x t p l    the reply to the line l
--     heard x t p l b          the byte b, where the line so far is l; a line feed (10) ends the line
--     ended x t p l            the end of a script: bytes after the last line feed are a line too
--     Scene                    where a player stands: its stage, the table, the post and the line so far
--     scene_of c t p           where the player c of the code stands, with this table and post
--     Makes r s h t            a call that answers r leads from s to t: unless memory runs out, h says what is replied and what is then; else all is as it was
--     stage_of c               a committee of the code as a stage
--     outcome r c t p          the reply r, with the committee c of the code, the table and the post after
--     new_reply r, new_stage r     the reply and the stage that come of a new committee, or of the refusal of one
use Rattle.std.specs.Prelude.{◌≡◌, ℕ, zero, suc, ◌+◌, cond, List, [], length, replicate, Some, None, Ok, Err, Option, Result, ◌==◌, nat_lt, slice_set}
use Rattle.std.specs.Option.{option_map}
use Rattle.std.specs.declared.alloc.AllocError.{AllocError}
use Rattle.sets.specs.Weighing.{counting}
use Rattle.quorum.specs.declared.counting.Counting.{Counting}
use Rattle.quorum.specs.declared.validity.Framed.{Framed}
use Rattle.quorum.specs.declared.faults.FaultNumbers.{FaultNumbers}
use Rattle.quorum.specs.declared.faults.RuleFault.TheVariants.{TooManyFaults}
use Rattle.quorum.specs.Numbers.{numbers}
use Rattle.quorum.specs.Validity.{framed}
use Rattle.mail.specs.declared.message.Message.{Message}
use Rattle.protocol.specs.declared.row.Row.{Row}
use Rattle.protocol.specs.declared.row.Decision.{Decision}
use Rattle.protocol.specs.declared.call.Call.{Call}
use Rattle.protocol.specs.declared.refusal.Refusal.{Refusal}
use Rattle.protocol.specs.Numbers.{refusal_numbers}
use Rattle.protocol.specs.Settings.{Setting, row}
use Rattle.protocol.specs.Calls.{decision}
use Rattle.protocol.specs.Openings as openings
use Rattle.protocol.specs.Openings.{opening}
use Rattle.protocol.specs.Runs.{carry_out}
use Rattle.committee.specs.declared.books.Books.{Books}
use Rattle.committee.specs.declared.committee.Committee.{Committee}
use Rattle.committee.specs.Committees.{no_books, whole, counts, counted, over, lent}
use Rattle.rehearsal.specs.declared.player.Player.{Player}
use Rattle.script.specs.declared.answers.Reply.{Reply}
use Rattle.script.specs.declared.answers.Reply.TheVariants.{Wrong, Opened, Carried}
use Rattle.script.specs.declared.request.Opening.{Opening}
use Rattle.script.specs.declared.request.Request.{Request}
use Rattle.script.specs.declared.request.Request.TheVariants.{Open, Carry}
use Rattle.script.specs.declared.standing.Standing.{Standing}
use Rattle.script.specs.Lines.{request, longer}
use Rattle.script.specs.Texts.{standing_of}

pub record Stage : Type 0 where
  pub faults : ℕ
  pub validity : Framed
  pub books : Books
  pub foreign : ℕ

pub record Played : Type 0 where
  pub reply : Reply
  pub stage : Option Stage
  pub table : List Row
  pub post : List Message

unfoldable pub owned : ℕ → ℕ → List ℕ
owned b zero = replicate 32 0
owned b (suc j) = slice_set (owned b j) j (b + j)

abbrev pub setting_of : Stage → Setting
setting_of x = over (counting x.faults) (framed x.validity.frame x.validity.limit) x.books x.foreign

abbrev pub unmoved : Reply → Option Stage → List Row → List Message → Played
unmoved r x t p = record { reply = r; stage = x; table = t; post = p }

-- frame 0 and limit 1,000,000
abbrev pub script_values : Framed
script_values = record { frame = 0; limit = 1000000 }

abbrev pub newly : Opening → List Row → List Message → openings.Opening
newly o t p = opening (counting o.faults) (framed 0 1000000) (whole no_books 0) t p o.foreign (owned o.first 32)

abbrev pub by_opening : ℕ → openings.Opening → List Message → Result (Unit {0}) Refusal → Played
by_opening f q p (Ok x) = record {
  reply = Opened (Ok tt);
  stage = Some (record { faults = f; validity = script_values; books = counts q.books; foreign = q.books.foreign });
  table = q.table;
  post = p;
}
by_opening f q p (Err e) = unmoved (Opened (Err (refusal_numbers e))) None q.table p

abbrev pub opened_by : Opening → List Row → List Message → Played
opened_by o t p = cond (nat_lt 10 o.faults) (unmoved (Opened (Err (numbers TooManyFaults))) None t p) (by_opening o.faults (newly o t p) p (newly o t p).answer)

abbrev pub carried : Stage → List Row → List Message → Call → Played
carried x t p c = record {
  reply = Carried c (carry_out (setting_of x) (lent x.books t p) c).answer;
  stage = Some (record {
    faults = x.faults;
    validity = x.validity;
    books = counted x.books (carry_out (setting_of x) (lent x.books t p) c).state;
    foreign = x.foreign;
  });
  table = (carry_out (setting_of x) (lent x.books t p) c).state.table;
  post = (carry_out (setting_of x) (lent x.books t p) c).state.post;
}

abbrev pub played : Option Stage → List Row → List Message → Option Request → Played
played x t p None = unmoved Wrong x t p
played None t p (Some (Open o)) = opened_by o t p
played (Some x) t p (Some (Open o)) = unmoved Wrong (Some x) t p
played None t p (Some (Carry c)) = unmoved Wrong None t p
played (Some x) t p (Some (Carry c)) = carried x t p c

pub record Heard : Type 0 where
  pub reply : Option Reply
  pub stage : Option Stage
  pub table : List Row
  pub post : List Message
  pub line : List ℕ

abbrev pub answered_line : Option Stage → List Row → List Message → List ℕ → Heard
answered_line x t p l = record {
  reply = Some (played x t p (request l)).reply;
  stage = (played x t p (request l)).stage;
  table = (played x t p (request l)).table;
  post = (played x t p (request l)).post;
  line = [];
}

abbrev silent : Option Stage → List Row → List Message → List ℕ → Heard
silent x t p l = record { reply = None; stage = x; table = t; post = p; line = l }

abbrev pub heard : Option Stage → List Row → List Message → List ℕ → ℕ → Heard
heard x t p l b = cond (b == 10) (answered_line x t p l) (silent x t p (longer l b))

abbrev pub ended : Option Stage → List Row → List Message → List ℕ → Heard
ended x t p l = cond (length l == 0) (silent x t p l) (answered_line x t p l)

abbrev standing_by : ℕ → Row → Result (Option Decision) Refusal → Option Standing
standing_by i r (Ok d) = Some (standing_of i r)
standing_by i r (Err e) = None

abbrev pub standing_at : Option Stage → List Row → List Message → ℕ → Option Standing
standing_at None t p i = None
standing_at (Some x) t p i = standing_by i (row (lent x.books t p) i) (decision (setting_of x) (lent x.books t p) i).answer

abbrev pub stage_of : Committee Counting Framed → Stage
stage_of c = record { faults = c.rule.f; validity = c.validity; books = c.books; foreign = c.foreign.bits }

abbrev pub outcome : Reply → Option (Committee Counting Framed) → List Row → List Message → Played
outcome r c t p = record { reply = r; stage = option_map stage_of c; table = t; post = p }

abbrev pub new_reply : Result (Committee Counting Framed) FaultNumbers → Reply
new_reply (Ok c) = Opened (Ok tt)
new_reply (Err e) = Opened (Err e)

abbrev pub new_stage : Result (Committee Counting Framed) FaultNumbers → Option Stage
new_stage (Ok c) = Some (stage_of c)
new_stage (Err e) = None

pub record Scene : Type 0 where
  pub stage : Option Stage
  pub table : List Row
  pub post : List Message
  pub line : List ℕ

abbrev pub scene_of : Player → List Row → List Message → Scene
scene_of c t p = record { stage = option_map stage_of c.rehearsal.committee; table = t; post = p; line = c.line.bytes.items }

abbrev pub Makes : Result (Option Reply) AllocError → Scene → Heard → Scene → Type 0
Makes (Ok o) s h t = (o ≡ h.reply) × (t ≡ record { stage = h.stage; table = h.table; post = h.post; line = h.line })
Makes (Err e) s h t = t ≡ s
