-- `look_through` has looked at the first places of the path.
use Rattle.std.proofs.Common.{map, take}
use Rattle.stack.specs.Looks.{Looked}
use Rattle.stack.proofs.look.look_through.Given as goal

abbrev pub invariant-loop-place : goal.invariant-loop-place
invariant-loop-place l = Looked l.n l.seats (map (λ i. i.0) (take l.place-index l.place-items)) l.last l.free l.standing
