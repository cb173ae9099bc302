-- `ask` answers the first fault of the first bad argument, else what the walk of the two finds.
use Rattle.fields.proofs.Judged.{holds}
use Rattle.same.proofs.Asked.{walked}
use Rattle.same.proofs.related.ask.Goals as goal

pub returns : goal.returns
returns g c =
    let found = rw c.of.ensures at c.walk.ensures in
    rw (c.is_some.ensures, found)
    (walked _ (g.R.Relation.related c.args.normalise) _ _ _ _ (holds _ _ _ c.whole.ensures _ c.in_ok-whole.was) (holds _ _ _ c.whole-2.ensures _ c.in_ok-whole-2.was))
