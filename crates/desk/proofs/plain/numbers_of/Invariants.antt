-- `numbers_of` turns each place into its byte. After j turns the first j bytes are the places'.
use mathlib.Core.Path.{◌≡◌}
use mathlib.Core.List.{◌++◌}
use lib.ListN.{length, take, drop, replicate}
use Rattle.places.specs.Limits.{bundle_most}
use Rattle.desk.specs.Plain.{numbers}
use Rattle.desk.proofs.plain.numbers_of.Given as goal

abbrev pub invariant-loop-j : goal.invariant-loop-j
invariant-loop-j l = (l.bytes ≡ take l.j (numbers l.places) ++ drop l.j (replicate bundle_most 0)) × (length l.bytes ≡ bundle_most)
