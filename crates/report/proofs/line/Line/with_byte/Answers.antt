-- A byte has three digits at most.
use Rattle.std.proofs.Common.{◌<◌, arith}
use Rattle.report.proofs.Decimals.{decimal_u8}
use Rattle.report.proofs.line.Line.with_byte.Goals as goal

pub with_number-requires : goal.with_number-requires
with_number-requires c =
    let small : c.into.result < 256 = omega arith in
    omega (arith, decimal_u8 c.into.result small)

pub returns-clause-length_bound : goal.returns-clause-length_bound
returns-clause-length_bound c =
    let small : c.into.result < 256 = omega arith in
    omega (arith, decimal_u8 c.into.result small)
