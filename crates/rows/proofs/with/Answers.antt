-- `rows::with` meets its contract.
use native.Mathlib.Omega.{arith}
use mathlib.Core.Path.{sym}
use Rattle.rows.proofs.Places.{joined_past}
use Rattle.rows.proofs.Words.{joined_shifted}
use Rattle.rows.proofs.with.Goals as goal

pub returns-then-i-ge-PLACES : goal.returns-then-i-ge-PLACES
returns-then-i-ge-PLACES c = let a = c.args in sym (joined_past a.row a.i (omega arith))

pub returns : goal.returns
returns c = let a = c.args in joined_shifted a.row a.i (omega arith)
