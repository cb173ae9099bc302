-- `child` puts a place behind a path.
use native.Mathlib.Omega.{arith}
use Rattle.stack.specs.Stacked.{places_in}
use Rattle.stack.proofs.Shown.{child_shown, length-shown}
use Rattle.stack.proofs.child.child.Goals as goal

pub bounds-longer-path : goal.bounds-longer-path
bounds-longer-path c = omega (arith, length-shown (places_in c.args.path) c.requires.shown, c.requires.short)

pub overflow_add-longer : goal.overflow_add-longer
overflow_add-longer c = omega (arith, length-shown (places_in c.args.path) c.requires.shown, c.requires.short)

pub returns : goal.returns
returns c = child_shown (places_in c.args.path) _ c.requires.shown c.requires.short
