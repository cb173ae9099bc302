-- `rows::highest` meets its contract.
use native.Mathlib.Omega.{arith}
use Rattle.rows.proofs.Upper.{highest_zero, zeros_less, highest-zeros}
use Rattle.rows.proofs.highest.Goals as goal

pub returns-then-row-eq0 : goal.returns-then-row-eq0
returns-then-row-eq0 c = highest_zero c.args.row c.if-row-eq0.true

pub overflow_sub-result : goal.overflow_sub-result
overflow_sub-result c = zeros_less c.args.row (omega arith) c.ranges.row.fits

pub returns : goal.returns
returns c = highest-zeros c.args.row (omega arith) c.ranges.row.fits
