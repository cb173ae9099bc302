-- `hand_on` puts those of each row in the row before it. The invariant: the rows from k on were handed what is past them.
use Rattle.policy.proofs.Filling.{Handing}
use Rattle.policy.proofs.seating.hand_on.Given as goal

abbrev pub invariant-loop-k : goal.invariant-loop-k
invariant-loop-k l = Handing l.last l.initial.rows l.k l.rows
