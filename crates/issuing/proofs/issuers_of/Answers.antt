-- `issuers_of` takes one row after another in.
use Rattle.std.proofs.Common.{arith}
use Rattle.issuing.proofs.Issuers.{issuers_all, issuers_next, issuers_done}
use Rattle.issuing.proofs.issuers_of.Goals as goal

pub loop-row-init : goal.loop-row-init
loop-row-init c = issuers_all c.args.rows

pub loop-row-preserved : goal.loop-row-preserved
loop-row-preserved c = rw c.either-all.ensures (issuers_next c.args.rows _ _ (omega arith) c.loop-row.invariant)

pub returns : goal.returns
returns c = issuers_done c.args.rows _ _ (omega arith) c.loop-row.invariant
