-- `search` replies as its contract says.
use native.Mathlib.Omega.{arith}
use mathlib.Core.Path.{sym, ◌∙◌}
use Prim.Native.Nat.{zero-le}
use lib.ListN.{length}
use Rattle.reply.specs.Laid.{flat}
use Rattle.reply.proofs.Faults.{Clear, clear, clear-runs, stopped, answered_stops, lacking_some}
use Rattle.steps.proofs.Ends.{stopped_searched}
use Rattle.steps.proofs.search.Goals as goal
use Rattle.steps.proofs.search.Goals.{In_default}

-- nothing stands in the way
ready : (c : In_default) → Clear c.args.question.size (length c.args.room.now)
ready c = clear _ _ _ (sym c.in_default.ensures)

pub returns-in-Err : goal.returns-in-Err
returns-in-Err c =
    let e = c.in-Err.ensures in
    answered_stops _ _ _ _ _ _ _ (omega (arith, e, lacking_some c.in-Err.lack)) (stopped (c.into.ensures ∙ e) c.stopped.ensures.reply c.stopped.ensures.path)

pub run-end-requires : goal.run-end-requires
run-end-requires c = let k = ready (goal.at.run-end-requires c).In_default in (k.some, k.few)

pub zero_bytes-requires : goal.zero_bytes-requires
zero_bytes-requires c = (zero-le, omega (arith, c.slots.ensures, (ready (goal.at.zero_bytes-requires c).In_default).room))

pub returns : goal.returns
unfolding flat
returns c =
    let k = ready (goal.at.returns c).In_default in
    rw (clear-runs _ _ _ k) (stopped_searched k.some k.few c.run-end.ensures c.answer_of.ensures.reply c.answer_of.ensures.path (rw c.slots.ensures at c.zero_bytes.ensures))
