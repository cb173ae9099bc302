-- `savuneco_task` says in plain numbers what `read` reads.
use Rattle.std.proofs.Common.{arith}
use Rattle.card.proofs.Stops.{answered_read, answered_stopped}
use Rattle.desk.proofs.TaskAsked.{card_asks, fault_asks, host_ordered}
use Rattle.desk.proofs.tasks.savuneco_task.Goals as goal

pub overflow_sub-result : goal.overflow_sub-result
overflow_sub-result c =
    let ordered = host_ordered c.args.file.now _ (answered_read _ _ c.read.ensures _ c.in-Ok.is) in
    omega arith

pub returns-in-Ok : goal.returns-in-Ok
returns-in-Ok c = card_asks _ _ (answered_read _ _ c.read.ensures _ c.in-Ok.is)

pub returns-in-Err : goal.returns-in-Err
returns-in-Err c =
    let e = fault_asks c.args.file.now _ (answered_stopped _ _ c.read.ensures _ c.in-Err.is) in
    cc
