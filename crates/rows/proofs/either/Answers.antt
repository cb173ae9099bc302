-- `rows::either` meets its contract.
use mathlib.Core.Path.{refl}
use Rattle.rows.specs.Rows.{either}
use Rattle.rows.proofs.either.Goals as goal

pub returns : goal.returns
unfolding either
returns c = refl
