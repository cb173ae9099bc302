-- `line_of` writes each case of a reply in its words.
use Rattle.report.proofs.Replies.{line_accepted, line_refused, line_exhausted, line_error}
use Rattle.report.proofs.line_of.Goals as goal

pub returns-in-Accepted : goal.returns-in-Accepted
returns-in-Accepted c = line_accepted c.args.answer.path c.in-Accepted.is c.accepted.ensures

pub returns-in-Refused : goal.returns-in-Refused
returns-in-Refused c = line_refused c.args.answer.path c.in-Refused.is c.numbered.ensures

pub returns-in-Exhausted : goal.returns-in-Exhausted
returns-in-Exhausted c = line_exhausted c.args.answer.path c.in-Exhausted.is c.numbered-in-Exhausted.ensures

pub returns-in-Error : goal.returns-in-Error
returns-in-Error c = line_error c.args.answer.path c.in-Error.is c.into.ensures c.numbered-in-Error.ensures
