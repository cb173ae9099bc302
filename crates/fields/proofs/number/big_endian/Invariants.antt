-- Up to eight bytes make the number that is defined. The loop's invariant: the value is the number of the bytes passed, and fits them.
use Rattle.std.proofs.Common.{◌≡◌, ◌*◌, ◌^◌, ◌<◌, take}
use Rattle.fields.specs.Fields.{big_endian}
use Rattle.fields.proofs.number.big_endian.Given as goal

abbrev pub invariant-loop-byte : goal.invariant-loop-byte
invariant-loop-byte l = (l.value ≡ big_endian 0 (take l.byte-index l.bytes)) × (l.value < 2 ^ (8 * l.byte-index))
