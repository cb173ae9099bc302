-- `paused` hands a file's question and k to the paused run over it, and tells why a file can't be read.
use Rattle.question.proofs.Asked.{stop-says}
use Rattle.reply.proofs.Faults.{stopped}
use Rattle.search.proofs.Asked.{held_paused}
use Rattle.search.proofs.paused.Goals as goal

pub returns-in-Ok : goal.returns-in-Ok
returns-in-Ok c =
    let a = c.args in
    held_paused _ _ c.pose.result c.pose.ensures _ a.room.now c.paused.new.room c.paused.result c.in-Ok.is a.k c.paused.ensures

pub returns-in-Err : goal.returns-in-Err
returns-in-Err c =
    rw (stop-says _ _ c.pose.result c.pose.ensures _ c.in-Err.is) (stopped c.into.ensures c.stopped.ensures.reply c.stopped.ensures.path)
