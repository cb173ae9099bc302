-- `fill` leaves so many records as the count says, in front of places that are as they were at first, or the first fault. The
-- invariant: the first i places hold the records that were read.
use Rattle.fields.proofs.Filling.{Filling}
use Rattle.record.specs.Record.{record_p}
use Rattle.record.specs.Fresh.{fresh}
use Rattle.certificates.proofs.certificates.fill.Given as goal

abbrev pub invariant-loop-i : goal.invariant-loop-i
invariant-loop-i g l = Filling record_p l.file g.row.MOST fresh l.first l.count l.list.records l.next l.i
