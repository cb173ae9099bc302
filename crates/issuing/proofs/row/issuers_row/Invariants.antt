-- `issuers_row` asks each issuer once. The invariant: by the verdicts that are told, the row of those below i.
use Rattle.std.proofs.Common.{ℕ, Bool}
use Rattle.certificates.specs.Certificates.{record_of}
use Rattle.issuing.specs.Records.{Tells}
use Rattle.issuing.proofs.Turns.{RowTo}
use Rattle.issuing.proofs.row.issuers_row.Given as goal

abbrev pub invariant-loop-i : goal.invariant-loop-i
invariant-loop-i g l =
    (verdict : ℕ → Bool) → Tells verdict l.subject (goal.F-post g l.signed)
    → RowTo l.file l.claim verdict (record_of l.issuers.count l.issuers.records) l.i-end l.row l.i
