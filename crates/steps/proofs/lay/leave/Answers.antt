-- `leave` lays what waits in the needed slots, and zeros above it.
use native.Mathlib.Omega.{arith}
use Rattle.steps.proofs.Laid.{lying_cleared}
use borrow.Author.Rules.{rules}
use Rattle.steps.proofs.lay.leave.Goals as goal

pub returns : goal.returns
returns c = lying_cleared c.args.n _ _ _ _ c.args.end.depths (search rules) c.requires.n_le_bundle_most.1 c.lay-waiting.ensures.count (omega (arith, c.lay-waiting.ensures.count, c.requires.depths_len_bound.0)) c.lay-waiting.ensures.room (rw c.slots.ensures at c.zero_bytes.ensures)
