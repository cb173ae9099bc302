-- `begin` leads where the search of the file's question does, or to why the file can't be read.
use Rattle.std.proofs.lemmas.Result.{IfOk-weaker, IfErr-weaker}
use Rattle.question.proofs.Asked.{stop-says}
use Rattle.std.proofs.lemmas.Result.{err_from_is_err_and}
use Rattle.stack.proofs.Ran.{leads_read, unbegun_read, unbegun_unread}
use Rattle.stack.proofs.begin.begin.Goals as goal

pub returns-in_err-pose-clause-err : goal.returns-in_err-pose-clause-err
returns-in_err-pose-clause-err c =
    let why = err_from_is_err_and c.from_residual.result c.from_residual.ensures.1 in
    let unread = stop-says _ _ c.pose.result c.pose.ensures _ c.in_err-pose.was in
    rw (why.1, why.2) (unbegun_unread c.args.file.now c.args.count c.args.paused _ unread)

pub returns-clause-ok : goal.returns-clause-ok
returns-clause-ok c =
    IfOk-weaker _ _ _ (leads_read c.args.file.now c.pose.result c.pose.ensures _ c.in_ok-pose.was c.args.count c.args.paused) c.begin_over.ensures.ok

pub returns-clause-err : goal.returns-clause-err
returns-clause-err c =
    IfErr-weaker _ _ _ (unbegun_read c.args.file.now c.pose.result c.pose.ensures _ c.in_ok-pose.was c.args.count c.args.paused) c.begin_over.ensures.err
