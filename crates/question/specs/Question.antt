-- What a file's question is, and what it asks of those who answer it: of a card, of a file (the contract of `pose`), and its places and
-- roots. What a content asks, which is what a reader must believe: Asked.antt; that the question asks the same: `put_asks` of
-- proofs/Asked.antt. What is answered: reply/specs/Answer.antt.
use Rattle.std.specs.Prelude.{List, ℕ, get_or, Option, Some, None, Result, Ok, Err}
use Rattle.places.specs.Limits.{bundle_most, roots_most}
use Rattle.fields.specs.Fields.{Parsed, got, stop}
use Rattle.certificates.specs.Certificates.{size_of}
use Rattle.card.specs.declared.Card.{Card}
use Rattle.order.specs.Paths.{Places}
use Rattle.policy.specs.Judging.{qualifies_by}
use Rattle.policy.specs.Sound.{judged_of}
use Rattle.policy.specs.declared.judged.Judged.{Judged}
use Rattle.reply.specs.Settles.{Reach}
use Rattle.rows.specs.Rows.{has}
use Rattle.rules.specs.Rules.{at}
use Rattle.rules.specs.declared.rules.Time.{Time}
use Rattle.question.specs.declared.Question.{Question}

-- ---- of a card

-- the time at which a card is judged that says `now`
abbrev pub time_for : Option Time → ℕ → Time
time_for None now = at now
time_for (Some time) now = time

unfoldable pub question_of : List ℕ → Option Time → Card → Question
question_of s t c =
    record {
      size = size_of bundle_most c.bundle.count;
      judged = judged_of s (time_for t c.task.now) c;
      budget = c.task.budget;
    }

-- ---- of a file

-- what must be told of a file where this was read
abbrev pub posed : List ℕ → Option Time → Parsed Card → Result Question ℕ
posed s t (got c e) = Ok (question_of s t c)
posed s t (stop r) = Err r

-- ---- what is asked

-- place i issued place j: i stands in j's row
abbrev pub places_by : List ℕ → ℕ → Places
places_by rows n = record { size = n; issued = λ i j. has i (get_or rows j 0) }

-- as many roots as there may be; a path qualifies by one as its certificates were judged
abbrev pub roots_by : Judged → Reach
roots_by j = record { count = roots_most; good = qualifies_by j }

abbrev pub places_of : Question → Places
places_of q = places_by q.judged.issuing.bundle q.size

abbrev pub roots_of : Question → Reach
roots_of q = roots_by q.judged
