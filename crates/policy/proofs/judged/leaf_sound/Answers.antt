-- `leaf_sound` asks the leaf's date, form, extensions and lists in this order, and stops at the first no.
use Rattle.std.proofs.Common.{arith}
use Rattle.std.proofs.lemmas.Grind.{common_steps}
use Rattle.record.proofs.Meaning.{own-head}
use Rattle.policy.specs.Sound.{leaf_sound_at}
use Rattle.policy.proofs.judged.leaf_sound.Goals as goal

pub returns-else-handled : goal.returns-else-handled
unfolding leaf_sound_at
returns-else-handled c =
    let a = c.args in
    rw (← own-head _ a.leaf a.file.now c.head-head.ensures) (grind (arith, common_steps, c.in_date.ensures a.leaf a.file.now))
