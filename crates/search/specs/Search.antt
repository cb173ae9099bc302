-- What is answered to a card file (docs/CARD-FILE.md, "The search" and "Replies"): the case of a file, then the two contracts, `Search` and
-- `Pause`. It is the top of what a reader must believe (docs/MAP.md).
-- Not here: what a file says (card/specs/Content.antt), the answer in each case (reply/specs/Answer.antt), which roots a path reaches
-- (question/specs/Asked.antt); that each file has one answer (proofs/One.antt); upstream's `valid` (Valid.antt).
use Rattle.std.specs.Prelude.{List, ℕ, length}
use Rattle.fields.specs.Fields.{Parsed, got, stop}
use Rattle.card.specs.Content.{Content}
use Rattle.question.specs.Asked.{places_in, roots_in}
use Rattle.reply.specs.declared.Answer.{Answer}
use Rattle.reply.specs.Answer.{Paused, Searched, Case, unread, case_of, Answered}
use Rattle.rules.specs.Rules.{at}

-- the case of a file that reads as x, in a room of so many bytes
abbrev pub case_in : Parsed Content → ℕ → Case Content
case_in (got c e) bytes = case_of c (length c.bundle) bytes
case_in (stop r) bytes = unread r

-- the search with the file's own budget, at its own time
abbrev pub Search : Parsed Content → List ℕ → List ℕ → Answer → Type 0
Search x before after a = Answered (λ c. Searched (places_in c) (roots_in c (at c.now)) c.budget before after a) (case_in x (length before)) before after a

-- the paused run: the search with budget k, at the file's own time, which leaves what waits
abbrev pub Pause : Parsed Content → ℕ → List ℕ → List ℕ → Answer → Type 0
Pause x k before after a = Answered (λ c. Paused (places_in c) (roots_in c (at c.now)) k before after a) (case_in x (length before)) before after a
