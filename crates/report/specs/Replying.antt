-- What is written for a card file: the line for what the search answers in a room that is always enough, which is the contract of
-- `reply_to`. The line for an answer: Lines.antt; the search: search/specs/Search.antt; that one line replies to a file: `one_line` of
-- proofs/Roomy.antt.
use Rattle.std.specs.Prelude.{List, ◌≡◌, ℕ, ◌*◌, replicate}
use Rattle.card.specs.Content.{Content}
use Rattle.fields.specs.Fields.{Parsed}
use Rattle.reply.specs.declared.Answer.{Answer}
use Rattle.reply.specs.declared.Reply.TheVariants.{Error}
use Rattle.places.specs.Limits.{bundle_most}
use Rattle.order.specs.Slots.{slots_of}
use Rattle.reply.specs.Slots.{slot_bytes}
use Rattle.search.specs.Search.{Search}
use Rattle.report.specs.Lines.{line_of, line_shown}
use Rattle.report.specs.declared.line.Line.{Line}

-- the bytes that a full bundle needs, which are always enough
abbrev pub room_most : ℕ
room_most = slot_bytes * slots_of bundle_most

-- the line for a file that says x: what the search answers in a room that is always enough
pub record Replies (x : Parsed Content) (line : Line) : Type 0 where
  pub answer : Answer
  pub after : List ℕ
  pub searched : Search x (replicate room_most 0) after answer
  pub roomy : answer.reply ≡ Error 10 → ⊥
  pub written : line ≡ line_shown (line_of answer)
