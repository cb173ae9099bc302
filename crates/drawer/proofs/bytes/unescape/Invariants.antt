use Rattle.std.proofs.Common.{length, ◌≤◌}
use Rattle.drawer.proofs.bytes.unescape.Given as goal

abbrev pub invariant-loop-byte : goal.invariant-loop-byte
invariant-loop-byte l = l.n ≤ length l.out

abbrev pub decreases-loop-byte : goal.decreases-loop-byte
decreases-loop-byte l = length l.rest
