-- A run ends where so many things end. The invariant: what is left to pass ends where all of them do.
use Rattle.fields.proofs.Runs.{Left}
use Rattle.fields.proofs.run.Run.past.Given as goal

abbrev pub invariant-loop : goal.invariant-loop
invariant-loop g l = Left g.T.Thing.thing_p l.file l.fn.self.first l.fn.self.count l.counter l.at
