-- `walk` stops as its contract says, from any state. The invariant: the state is where the steps so far lead from the stack that it began
-- with, and none of the paths that they took qualifies.
use Prim.Native.Nat.{◌+◌, ◌*◌, ◌-◌}
use Rattle.question.specs.Question.{places_by}
use Rattle.steps.specs.Parts.{roots_seated, waiting}
use Rattle.steps.proofs.Ends.{Going}
use Rattle.steps.proofs.walk.walk.Given as goal

abbrev pub invariant-loop-here : goal.invariant-loop-here
invariant-loop-here l =
    Going (places_by l.ground.rows.now l.n) (roots_seated l.ground.roots.now l.ground.seats.now) l.ground.seats.now l.budget (waiting l.n l.initial.levels l.initial.place (l.initial.d + 1)) l.levels l.place l.here l.d l.steps

abbrev pub decreases-loop-here : goal.decreases-loop-here
decreases-loop-here l =
    2 * (l.budget - l.steps) + l.d
