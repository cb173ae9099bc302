-- `rows::shared` meets its contract.
use mathlib.Core.Path.{refl}
use Rattle.rows.specs.Rows.{common}
use Rattle.rows.proofs.shared.Goals as goal

pub returns : goal.returns
unfolding common
returns c = refl
