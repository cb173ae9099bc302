-- `rows::below` meets its contract.
use Rattle.rows.proofs.Upper.{below-some, below_all, shifted_some}
use Rattle.rows.proofs.below.Goals as goal

pub returns-then-n-ge-PLACES : goal.returns-then-n-ge-PLACES
returns-then-n-ge-PLACES c = below_all c.args.n c.if-n-ge-PLACES.true

pub overflow_sub-result : goal.overflow_sub-result
overflow_sub-result c = shifted_some c.args.n c.if-n-ge-PLACES.false

pub returns : goal.returns
returns c = below-some c.args.n c.if-n-ge-PLACES.false
