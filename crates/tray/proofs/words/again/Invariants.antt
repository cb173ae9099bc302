use Rattle.std.proofs.Common.{length, ◌≡◌, ◌≤◌}
use Rattle.tray.proofs.words.again.Given as goal

abbrev pub invariant-loop : goal.invariant-loop
invariant-loop l = (l.n ≤ length l.out) × (length l.out ≡ length l.fn.out)
