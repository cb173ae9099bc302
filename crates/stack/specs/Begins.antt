-- What the search of a file in records begins with, and what it comes to: the contracts of `begin`, `begin_over` and `run`. A reader need
-- not believe this file: what is promised is search/specs/Search.antt. Where a search stands: Stands.antt.
use Rattle.std.specs.Prelude.{Option, None, Some, List, ◌≡◌, ℕ, ◌*◌, length}
use Rattle.fields.specs.Fields.{Parsed}
use Rattle.card.specs.Content.{Content}
use Rattle.question.specs.Question.{places_of, roots_of}
use Rattle.question.specs.declared.Question.{Question}
use Rattle.reply.specs.Answer.{Paused, Searched, case_of, Answered}
use Rattle.reply.specs.Records.{bytes_of}
use Rattle.reply.specs.Slots.{slot_bytes}
use Rattle.reply.specs.declared.Answer.{Answer}
use Rattle.reply.specs.declared.Reply.TheVariants.{Error}
use Rattle.reply.specs.declared.path.Path.{Path}
use Rattle.search.specs.Search.{Search, Pause}
use Rattle.stack.specs.Stacked.{Whole}
use Rattle.stack.specs.Stands.{Lent, Fair, Rested, pathless}
use Rattle.stack.specs.declared.begin.Begun.{Begun}

-- what is answered to a file: by a paused run with budget k, or by the search
abbrev pub Ran : Option ℕ → Parsed Content → List ℕ → List ℕ → Answer → Type 0
Ran (Some k) x before after a = Pause x k before after a
Ran None x before after a = Search x before after a

-- the same of a question
abbrev pub RanOver : Option ℕ → Question → List ℕ → List ℕ → Answer → Type 0
RanOver (Some k) q before after a = Answered (λ y. Paused (places_of y) (roots_of y) k before after a) (case_of q q.size (length before)) before after a
RanOver None q before after a = Answered (λ y. Searched (places_of y) (roots_of y) y.budget before after a) (case_of q q.size (length before)) before after a

abbrev pub lent_by : Begun → List Path → Lent
lent_by b l = record { rows = b.rows; roots = b.roots; seats = b.seats; before = l; terms = b.terms }

-- so many records are enough for the search of b, and where it is over, P is answered
pub record Leads (count : ℕ) (P : List ℕ → List ℕ → Answer → Type 0) (b : Begun) : Type 0 where
  pub fair : Fair b.terms count
  pub answers : (l : List Path) → Whole l → length l ≡ count → (a : Answer) (after : List Path) → Rested (lent_by b l) a after → P (bytes_of l) (bytes_of after) a

-- so many records are not searched: an error is answered, and nothing is written
abbrev pub Unbegun : ℕ → (List ℕ → List ℕ → Answer → Type 0) → ℕ → Type 0
Unbegun count P number = (l : List ℕ) → length l ≡ slot_bytes * count → P l l (pathless (Error number))
