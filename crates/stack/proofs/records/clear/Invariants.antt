-- `clear` has zeroed the first records of those that it goes over.
use Rattle.std.proofs.Common.{◌++◌, ◌≡◌, drop, replicate}
use Rattle.stack.specs.Stacked.{blank}
use Rattle.stack.proofs.records.clear.Given as goal

abbrev pub invariant-loop-record : goal.invariant-loop-record
invariant-loop-record l = l.record-items ≡ replicate l.record-index blank ++ drop l.record-index l.initial.record-items
