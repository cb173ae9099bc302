-- The loop's invariant is `State`: what is written so far and what is left to write.
use Rattle.text.proofs.Form.{State}
use Rattle.text.proofs.normal.normalize_string.Given as goal

abbrev pub invariant-loop-b : goal.invariant-loop-b
invariant-loop-b l = State l.s l.initial.out l.out l.b-index l.n l.gap
