-- `rows::has` meets its contract.
use native.Mathlib.Omega.{arith}
use mathlib.Core.Path.{sym}
use Rattle.rows.proofs.Places.{has_past}
use Rattle.rows.proofs.Words.{has-masked}
use Rattle.rows.proofs.has.Goals as goal

pub returns-then-i-ge-PLACES : goal.returns-then-i-ge-PLACES
returns-then-i-ge-PLACES c = let a = c.args in sym (has_past a.i a.row (omega arith))

pub returns : goal.returns
returns c = let a = c.args in has-masked a.i a.row (omega arith)
