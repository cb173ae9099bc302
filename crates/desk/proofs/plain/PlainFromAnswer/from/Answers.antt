-- An answer in plain numbers: its reply by cases, and each place as its number.
use Rattle.std.proofs.Common.{rules, ◌≡◌, ℕ, length}
use Rattle.places.specs.Limits.{bundle_most}
use Rattle.reply.specs.Numbers.{placed}
use Rattle.desk.specs.Plain.{plain, numbers}
use Rattle.desk.proofs.plain.PlainFromAnswer.from.Goals.{in-Accepted, in-Refused, in-Exhausted, in-Error}
use Rattle.desk.proofs.plain.PlainFromAnswer.from.Goals as goal

pub returns : goal.returns
unfolding plain
returns c =
    let path = c.numbers_of.ensures in
    elim c.match-answer.branch [
      | in-Accepted w ↦ rw (path, w.number-is, w.in-Accepted.is)
      | in-Refused w ↦ rw (path, w.number-is, w.in-Refused.is)
      | in-Exhausted w ↦ rw (path, w.number-is, w.in-Exhausted.is)
      | in-Error w ↦ rw (path, w.number-is, w.in-Error.is)
    ]
