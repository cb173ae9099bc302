-- `rows::without` meets its contract.
use mathlib.Core.Path.{refl}
use Rattle.rows.specs.Rows.{left}
use Rattle.rows.proofs.without.Goals as goal

pub returns : goal.returns
unfolding left
returns c = refl
