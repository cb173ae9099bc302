-- `lay_row` meets its contract. After i turns the children by the row's places below i lie above slot m.
use mathlib.Core.Path.{◌≡◌}
use Prim.Native.Nat.{◌+◌}
use lib.ListN.{length}
use Rattle.steps.specs.Parts.{path_of, offered}
use Rattle.reply.specs.Laid.{flat}
use Rattle.steps.proofs.Stack.{laid_out}
use Rattle.steps.proofs.lay.lay_row.Given as goal

abbrev pub invariant-loop-i : goal.invariant-loop-i
invariant-loop-i l =
    (l.top ≡ l.m + length (offered l.i l.row (path_of l.s)))
    × (l.room ≡ laid_out l.initial.room l.m (flat (offered l.i l.row (path_of l.s))) l.top)
    × (length l.room ≡ length l.initial.room)
