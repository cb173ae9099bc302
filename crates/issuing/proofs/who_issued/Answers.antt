-- `who_issued` fills both rows of a subject in a turn.
use Rattle.std.proofs.Common.{ap, arith, ◌∙◌}
use Rattle.places.specs.Limits.{bundle_most}
use Rattle.certificates.proofs.Records.{size-within}
use Rattle.issuing.specs.Records.{claim_of, bundle_issued_at, root_issued_at, bundle_rows, root_rows}
use Rattle.issuing.proofs.Turns.{rows_start, rows_turn, rows_whole, row_claimed}
use Rattle.issuing.proofs.who_issued.Goals as goal

pub loop-j-init : goal.loop-j-init
loop-j-init c = (rows_start _ c.size-j-end.ensures, rows_start _ c.size-j-end.ensures)

pub bounds-bundle-j : goal.bounds-bundle-j
bounds-bundle-j c = omega (arith, c.loop-j-test.true, c.size-j-end.ensures, size-within bundle_most c.args.card.bundle.count)

pub loop-j-preserved : goal.loop-j-preserved
unfolding bundle_issued_at root_issued_at
loop-j-preserved c =
    let inv = c.loop-j.invariant in
    let claim = c.claim_of-claim.ensures ∙ ap (claim_of _) c.record.ensures in (
      rows_turn inv.0 c.loop-j-test.true (c.issuers_row.ensures _ (λ i r q. q.1) ∙ row_claimed _ _ _ _ _ _ claim),
      rows_turn inv.1 c.loop-j-test.true (c.issuers_row-in-loop-j.ensures _ (λ i r q. q.1) ∙ row_claimed _ _ _ _ _ _ claim),
    )

pub returns-clause-bundle_value : goal.returns-clause-bundle_value
unfolding bundle_rows
returns-clause-bundle_value c = rows_whole c.loop-j.invariant.0 c.loop-j-test.false c.size-j-end.ensures

pub returns-clause-roots_value : goal.returns-clause-roots_value
unfolding root_rows
returns-clause-roots_value c = rows_whole c.loop-j.invariant.1 c.loop-j-test.false c.size-j-end.ensures
