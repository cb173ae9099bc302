-- `roots_above` answers which of the roots that are asked for may stand above, and the limit of each of them, whatever the file is: the numbers are
-- in the records. The invariant: the places below i are judged where they are asked for.
use Rattle.std.proofs.Common.{cond, ◌&&◌}
use Rattle.places.specs.Limits.{roots_most}
use Rattle.rows.specs.Rows.{has}
use Rattle.rules.specs.Limits.{limit_of}
use Rattle.policy.specs.Sound.{top_sound, root_of}
use Rattle.policy.proofs.Places.{Judging}
use Rattle.policy.proofs.judged.roots_above.Given as goal

abbrev pub invariant-loop-i : goal.invariant-loop-i
invariant-loop-i l =
    Judging (λ j. has j l.asked && top_sound l.time (root_of l.file l.roots j)) (λ j. cond (has j l.asked) (limit_of (root_of l.file l.roots j)) 0) roots_most l.above.sound l.above.limits l.i
