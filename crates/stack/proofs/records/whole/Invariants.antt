-- `whole` has seen the first records.
use mathlib.Core.Path.{◌≡◌}
use Prim.Native.Nat.{ℕ, ◌<◌}
use lib.ListN.{length, get_or}
use Rattle.places.specs.Limits.{bundle_most}
use Rattle.stack.specs.Stacked.{blank}
use Rattle.stack.proofs.records.whole.Given as goal

abbrev pub invariant-loop-record : goal.invariant-loop-record
invariant-loop-record l = (i : ℕ) → i < l.record-index → length (get_or l.records i blank).places ≡ bundle_most
