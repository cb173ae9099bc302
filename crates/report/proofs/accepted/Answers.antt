-- `accepted` writes the steps, the root and the path.
use Rattle.std.proofs.Common.{[], arith}
use Rattle.report.specs.Lines.{words}
use Rattle.report.proofs.Decimals.{decimal_u64}
use Rattle.report.proofs.accepted.Goals as goal

pub with_number-requires : goal.with_number-requires
with_number-requires c = omega (arith, decimal_u64 c.args.steps c.ranges.steps.fits)

pub with_byte-requires : goal.with_byte-requires
with_byte-requires c = omega (arith, decimal_u64 c.args.steps c.ranges.steps.fits)

pub with-line-requires : goal.with-line-requires
with-line-requires c = omega (arith, decimal_u64 c.args.steps c.ranges.steps.fits)

pub with_places-requires : goal.with_places-requires
with_places-requires c = omega (arith, decimal_u64 c.args.steps c.ranges.steps.fits)

pub with-requires : goal.with-requires
with-requires c = omega (arith, decimal_u64 c.args.steps c.ranges.steps.fits)

pub returns : goal.returns
unfolding words
returns c =
    c.with.ensures.by_index _
    (c.with_places.ensures.by_index _
    (c.with-line.ensures.by_index _
    (c.with_byte.ensures.by_index _
    (c.with_number.ensures.by_index [] c.new.ensures.0))))
