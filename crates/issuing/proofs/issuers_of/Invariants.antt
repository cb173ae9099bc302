-- `issuers_of` takes one row after another in. The invariant: those of all rows are those so far, and those of the rows that are left.
use Rattle.std.proofs.Common.{◌≡◌, drop}
use Rattle.rows.specs.Rows.{either}
use Rattle.issuing.specs.Records.{issuers_of}
use Rattle.issuing.proofs.issuers_of.Given as goal

abbrev pub invariant-loop-row : goal.invariant-loop-row
invariant-loop-row l = issuers_of l.fn.rows ≡ either l.all (issuers_of (drop l.row-index l.fn.rows))
