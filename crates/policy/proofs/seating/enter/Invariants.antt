-- `enter` puts each of a row in the row of its limit. The invariant: those that came are in their row.
use Rattle.policy.proofs.Filling.{Entering}
use Rattle.policy.proofs.seating.enter.Given as goal

abbrev pub invariant-loop-i : goal.invariant-loop-i
invariant-loop-i g l = Entering l.last l.kind.sound l.kind.limits l.i-iterator.rest l.rows
