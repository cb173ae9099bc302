-- `who_issued` fills both rows of a subject in a turn. The invariant: the rows of the subjects below j, and zeros past them.
use Rattle.places.specs.Limits.{roots_most, bundle_most}
use Rattle.certificates.specs.Certificates.{record_of, size_of}
use Rattle.rows.specs.Rows.{row_of}
use Rattle.issuing.specs.Records.{bundle_issued_at, root_issued_at}
use Rattle.issuing.proofs.Turns.{RowsTo}
use Rattle.issuing.proofs.who_issued.Given as goal

abbrev pub invariant-loop-j : goal.invariant-loop-j
invariant-loop-j l =
    let b = l.card.bundle in
    let r = l.card.roots in
    RowsTo bundle_most (λ k. row_of (λ i. bundle_issued_at l.file b l.verdicts i k) (size_of bundle_most b.count)) l.j-end l.bundle l.j
    × RowsTo bundle_most (λ k. row_of (λ i. root_issued_at l.file r l.verdicts (record_of b.count b.records k) i k) (size_of roots_most r.count)) l.j-end l.roots l.j
