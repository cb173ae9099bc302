-- What is left is the room from some place on. The measure is what is left.
use Rattle.std.proofs.Common.{length, drop, ℕ, ◌≤◌, ◌≡◌}
use Rattle.tray.proofs.show.paths.Given as goal

abbrev pub invariant-loop-slot : goal.invariant-loop-slot
invariant-loop-slot g l = (at : ℕ) × (at ≤ length l.room) × (l.rest ≡ drop at l.room)

abbrev pub decreases-loop-slot : goal.decreases-loop-slot
decreases-loop-slot g l = length l.rest
