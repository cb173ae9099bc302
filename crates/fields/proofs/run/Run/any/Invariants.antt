-- A test passes one of a run's things. The invariant: it passes one of those that are left, or none of all.
use Rattle.fields.proofs.Runs.{Unasked}
use Rattle.fields.proofs.run.Run.any.Given as goal

abbrev pub invariant-loop : goal.invariant-loop
invariant-loop g l = Unasked (g.T.Test.passes l.test) g.T.Test.thing_p l.file l.fn.self.first l.fn.self.count l.counter l.at
