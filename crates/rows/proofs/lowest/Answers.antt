-- `rows::lowest` meets its contract.
use Rattle.rows.proofs.Words.{zeros_fit, lowest-zeros}
use Rattle.rows.proofs.lowest.Goals as goal

pub overflow_cast-result : goal.overflow_cast-result
overflow_cast-result c = record { fits = zeros_fit _ }

pub returns : goal.returns
returns c = lowest-zeros c.args.row
