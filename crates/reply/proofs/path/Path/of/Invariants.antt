-- `Path::of` is the path of the first places. After j turns the first j are in it.
use mathlib.Core.Path.{◌≡◌}
use mathlib.Core.List.{◌++◌, map}
use lib.ListN.{length, take, drop, replicate}
use Rattle.places.specs.Limits.{bundle_most}
use Rattle.reply.specs.Numbers.{placed}
use Rattle.reply.proofs.path.Path.of.Given as goal

abbrev pub invariant-loop-j : goal.invariant-loop-j
invariant-loop-j l = (l.places ≡ map placed (take l.j l.numbers) ++ drop l.j (replicate bundle_most (placed 0))) × (length l.places ≡ bundle_most)
