-- `clear` has zeroed one record more.
use Rattle.stack.proofs.Held.{zeroed_more}
use Rattle.stack.proofs.records.clear.Goals as goal

pub loop-record-preserved : goal.loop-record-preserved
loop-record-preserved c =
    let l = c.loop-record in
    rw (l.invariant, c.new.ensures) (zeroed_more l.record-index _ (c.loop-record-test.true))
