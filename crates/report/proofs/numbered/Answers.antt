-- `numbered` has room for its word and a number of 20 digits.
use native.Mathlib.Omega.{arith}
use Rattle.report.proofs.Decimals.{decimal_u64}
use Rattle.report.proofs.numbered.Goals as goal

pub with_number-requires : goal.with_number-requires
with_number-requires c = omega (arith, decimal_u64 c.args.n c.ranges.n.fits)

pub with-requires : goal.with-requires
with-requires c = omega (arith, decimal_u64 c.args.n c.ranges.n.fits)
