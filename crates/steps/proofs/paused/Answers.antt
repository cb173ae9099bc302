-- `paused` replies as its contract says.
use native.Mathlib.Omega.{arith}
use mathlib.Core.Path.{sym, ◌∙◌}
use lib.ListN.{length}
use Rattle.reply.proofs.Faults.{Clear, clear, clear-runs, stopped, answered_stops, lacking_some}
use Rattle.steps.proofs.Ends.{stopped_fits, stopped_paused}
use Rattle.steps.proofs.paused.Goals as goal
use Rattle.steps.proofs.paused.Goals.{In_default}

-- nothing stands in the way
ready : (c : In_default) → Clear c.args.question.size (length c.args.room.now)
ready c = clear _ _ _ (sym c.in_default.ensures)

pub returns-in-Err : goal.returns-in-Err
returns-in-Err c =
    let e = c.in-Err.ensures in
    answered_stops _ _ _ _ _ _ _ (omega (arith, e, lacking_some c.in-Err.lack)) (stopped (c.into.ensures ∙ e) c.stopped.ensures.reply c.stopped.ensures.path)

pub run-end-requires : goal.run-end-requires
run-end-requires c = let k = ready (goal.at.run-end-requires c).In_default in (k.some, k.few)

pub leave-requires-clause-n_le_bundle_most : goal.leave-requires-clause-n_le_bundle_most
leave-requires-clause-n_le_bundle_most c = let k = ready (goal.at.leave-requires-clause-n_le_bundle_most c).In_default in ((k.few, c.run-end.ensures.few))

pub leave-requires-clause-depths_len_bound : goal.leave-requires-clause-depths_len_bound
leave-requires-clause-depths_len_bound c = let k = ready (goal.at.leave-requires-clause-depths_len_bound c).In_default in ((stopped_fits k.some k.few c.run-end.ensures, omega (arith, k.room)))

pub returns : goal.returns
returns c =
    let k = ready (goal.at.returns c).In_default in
    rw (clear-runs _ _ _ k) (stopped_paused k.some k.few c.run-end.ensures c.answer_of.ensures.reply c.answer_of.ensures.path c.leave.ensures)
