-- `search` hands a file's question to the search over it, and tells why a file can't be read.
use Rattle.question.proofs.Asked.{stop-says}
use Rattle.reply.proofs.Faults.{stopped}
use Rattle.search.proofs.Asked.{searched}
use Rattle.search.proofs.search.Goals as goal

pub returns-in-Ok : goal.returns-in-Ok
returns-in-Ok c =
    let a = c.args in
    searched _ _ c.pose.result c.pose.ensures _ a.room.now c.search.new.room c.search.result c.in-Ok.is c.search.ensures

pub returns-in-Err : goal.returns-in-Err
returns-in-Err c =
    rw (stop-says _ _ c.pose.result c.pose.ensures _ c.in-Err.is) (stopped c.into.ensures c.stopped.ensures.reply c.stopped.ensures.path)
