-- `same_names` says yes where the bytes are the same, or where the walk of the two names comes through.
use mathlib.Core.Path.{ap, ◌∙◌}
use Rattle.std.specs.Prelude.{is_some}
use Rattle.names.specs.Names.{name_p}
use Rattle.same.specs.Same.{same_dn}
use Rattle.same.proofs.Compared.{parts_compared}
use Rattle.same.proofs.Spans.{bytes_same, bytes_differ}
use Rattle.same.proofs.Walks.{walk_both}
use Rattle.same.proofs.walk.same_names.Goals as goal

pub returns-then-equal : goal.returns-then-equal
returns-then-equal c =
    bytes_same _ _ _ _ (parts_compared _ _ _ _ _ c.part.ensures c.part-2.ensures c.equal.ensures ∙ c.if-equal.true)

pub returns : goal.returns
returns c =
    let walked = rw c.of.ensures at c.dn_walk.ensures in
    bytes_differ _ _ _ _ _
    (parts_compared _ _ _ _ _ c.part.ensures c.part-2.ensures c.equal.ensures ∙ c.if-equal.false)
    (c.is_some.ensures ∙ ap is_some walked ∙ walk_both (same_dn _) (name_p _ _) (name_p _ _))
