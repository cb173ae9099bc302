-- `same_normal` meets its contract. The loop's invariant is `Abreast`: the forms are the same where what is left of them is. The measure is
-- what is left of the first value.
use lib.ListN.{length}
use Rattle.same.proofs.Abreast.{Abreast}
use Rattle.same.proofs.values.same_normal.Given as goal

abbrev pub invariant-words : goal.invariant-words
invariant-words l = Abreast l.a l.b l.x l.y

abbrev pub decreases-words : goal.decreases-words
decreases-words l = length l.x
