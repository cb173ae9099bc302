-- `drive` steps until the search is over: where it stands, and how many steps are left.
use Rattle.std.proofs.Common.{◌-◌}
use Rattle.stack.specs.Stands.{lent, Stands}
use Rattle.stack.proofs.drive.drive.Given as goal

abbrev pub invariant-loop-waiting : goal.invariant-loop-waiting
invariant-loop-waiting l = Stands (lent l.ground l.fn.records l.terms) l.steps l.waiting l.records

abbrev pub decreases-loop-waiting : goal.decreases-loop-waiting
decreases-loop-waiting l = l.terms.budget - l.steps
