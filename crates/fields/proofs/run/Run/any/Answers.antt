-- A test passes one of a run's things. Each answer of the test is what it tells of the thing at its place.
use mathlib.Core.Path.{sym}
use Rattle.fields.proofs.Runs.{any_yes, any_next, any_untold, any_ends}
use Rattle.fields.proofs.run.Run.any.Goals as goal

pub returns-in-Ok-true-default : goal.returns-in-Ok-true-default
returns-in-Ok-true-default g c =
    let arm = c.in-Ok-true-default in
    sym (any_yes _ _ _ _ _ _ _ c.loop.invariant _ c.ask.ensures c.loop-test.true _ _ arm.is arm.field-0-0-test)

pub returns-in-Err : goal.returns-in-Err
returns-in-Err g c = sym (any_untold _ _ _ _ _ _ _ c.loop.invariant _ c.ask.ensures c.loop-test.true _ c.in-Err.is)

pub loop-preserved : goal.loop-preserved
loop-preserved g c =
    let arm = c.in-Ok-false-default in
    any_next _ _ _ _ _ _ _ c.loop.invariant _ c.ask.ensures c.loop-test.true _ _ arm.is arm.field-0-0-test

pub returns : goal.returns
returns g c = sym (any_ends _ _ _ _ _ _ _ c.loop.invariant c.loop-test.false)
