-- `is_subtree_of` answers the first fault of the first bad argument, else what is found of the two names.
use Rattle.fields.proofs.Judged.{holds}
use Rattle.names.specs.Names.{name_p}
use Rattle.subtree.proofs.Found.{fine, found}
use Rattle.subtree.proofs.related.is_subtree_of.Goals as goal

pub subtree-requires : goal.subtree-requires
subtree-requires c =
    rw c.of.ensures
    (fine _ _ _ (holds name_p _ _ c.whole.ensures _ c.in_ok-whole.was), fine _ _ _ (holds name_p _ _ c.whole-2.ensures _ c.in_ok-whole-2.was))

pub returns : goal.returns
returns c =
    let under = rw c.of.ensures at c.subtree.ensures in
    found _ _ _ _ _ _ (holds name_p _ _ c.whole.ensures _ c.in_ok-whole.was) (holds name_p _ _ c.whole-2.ensures _ c.in_ok-whole-2.was) _ under
