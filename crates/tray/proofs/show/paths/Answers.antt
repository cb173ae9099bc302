-- What is behind the slots so far is the room from a place on, and so it is behind one slot more.
use Prim.Native.Nat.{ℕ, ◌+◌, ◌-◌, ◌≤◌}
use mathlib.Core.List.{List}
use mathlib.Core.Path.{◌≡◌, ap, ◌∙◌}
use native.Mathlib.Omega.{arith}
use lib.ListN.{length, drop, length-drop}
use lib.Seq.{drop-drop}
use Rattle.std.specs.List.{IsSplitAt}
use Rattle.tray.proofs.show.paths.Goals as goal

further : {room rest slot behind : List ℕ} {n : ℕ} → (at : ℕ) × (at ≤ length room) × (rest ≡ drop at room) → IsSplitAt rest n slot behind
    → (at : ℕ) × (at ≤ length room) × (behind ≡ drop at room)
further {room} {n = n} (at, few, is) cut =
    let long : length (drop at room) ≡ length room - at = length-drop at room in
    let more : n ≤ length (drop at room) = rw is at cut.0 in
    (at + n, omega arith, cut.2 ∙ ap (drop n) is ∙ drop-drop n at room)

pub loop-slot-preserved : goal.loop-slot-preserved
loop-slot-preserved g c = further c.loop-slot.invariant c.in-Some.ensures.cases
