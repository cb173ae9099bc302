-- `issuers_row` asks each issuer once.
use Rattle.std.proofs.Common.{◌∙◌}
use Rattle.issuing.proofs.Turns.{row-starts, row-joined, row_unlikely, row_unsigned, row-whole}
use Rattle.issuing.proofs.row.issuers_row.Goals as goal
use Rattle.issuing.proofs.row.issuers_row.Goals.{then-signed+then-fits, then-signed+else-fits, else-signed}

pub loop-i-init : goal.loop-i-init
loop-i-init g c = λ verdict tells. row-starts

pub loop-i-preserved : goal.loop-i-preserved
loop-i-preserved g c =
    λ verdict tells.
    let inv = c.loop-i.invariant verdict tells in
    let asked = tells _ _ c.signed.ensures in
    elim c.if-signed.branch [
      | then-signed+then-fits w ↦ row-joined inv c.loop-i-test.true asked w.if-signed.true w.nth.ensures w.fits.ensures w.if-fits.true (w.row-is ∙ w.with-row.ensures)
      | then-signed+else-fits w ↦ row_unlikely inv c.loop-i-test.true asked w.if-signed.true w.nth.ensures w.fits.ensures w.if-fits.false w.row-is
      | else-signed w ↦ row_unsigned inv c.loop-i-test.true asked w.if-signed.false w.row-is
    ]

pub returns : goal.returns
returns g c = λ verdict tells. row-whole (c.loop-i.invariant verdict tells) c.loop-i-test.false c.size-i-end.ensures
