-- `run` answers the error where there is no search.
use Rattle.stack.proofs.Bytes.{length-bytes}
use Rattle.stack.proofs.Shown.{answer-is}
use Rattle.stack.proofs.drive.run.Goals as goal

pub returns-in-Err : goal.returns-in-Err
returns-in-Err c = rw (answer-is c.stopped.ensures.reply c.stopped.ensures.path) (c.in-Err.ensures.err _ (length-bytes _ c.whole.ensures))
