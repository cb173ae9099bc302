-- A run ends where so many things end. The invariant: what is left to pass ends where all of them do.
use mathlib.Core.Path.{sym}
use Rattle.fields.proofs.Asked.{passed_ok, passed_err, passed_asked}
use Rattle.fields.proofs.Runs.{run_next, run_stops, run_ends}
use Rattle.fields.proofs.run.Run.past.Goals as goal

pub returns-in_err-at : goal.returns-in_err-at
returns-in_err-at g c =
    passed_asked _ _ c.from_residual.ensures.1 (run_stops _ _ _ _ _ _ c.loop.invariant _ c.loop-test.true (passed_err c.past.ensures c.in_err-at.was))

pub loop-preserved : goal.loop-preserved
loop-preserved g c = run_next _ _ _ _ _ _ c.loop.invariant _ c.loop-test.true (passed_ok c.past.ensures c.in_ok-at.was)

pub returns : goal.returns
returns g c = sym (run_ends _ _ _ _ _ _ c.loop.invariant c.loop-test.false)
