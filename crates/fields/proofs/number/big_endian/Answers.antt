-- Up to eight bytes make the number that is defined, and a byte more fits while there are fewer.
use Rattle.std.proofs.Common.{◌<◌, get_or, arith}
use Rattle.fields.proofs.Big.{big_step, big_less, big_fits}
use Rattle.fields.proofs.number.big_endian.Goals as goal

pub overflow_mul-value : goal.overflow_mul-value
overflow_mul-value c =
    let early : c.loop-byte.byte-index < 8 = omega arith in
    omega (arith, big_fits _ _ 0 early c.loop-byte.invariant.1 (omega arith))

pub overflow_add-value : goal.overflow_add-value
overflow_add-value c =
    let early : c.loop-byte.byte-index < 8 = omega arith in
    let byte : get_or c.args.bytes.now c.loop-byte.byte-index 0 < 256 = omega (arith, c.type_inv.bytes c.loop-byte.byte-index) in
    omega (arith, big_fits _ _ _ early c.loop-byte.invariant.1 byte)

pub loop-byte-preserved : goal.loop-byte-preserved
loop-byte-preserved c =
    let i = c.loop-byte.invariant in
    (big_step _ _ _ c.loop-byte-test.true i.0, big_less _ _ _ i.1 (omega (arith, c.type_inv.bytes c.loop-byte.byte-index)))
