-- `same_attribute` compares the OIDs first, then the values as they stand, then as the flag says, each by its bytes in its text.
use mathlib.Core.Path.{◌∙◌}
use Rattle.same.proofs.Compared.{parts_compared, oids_differ, values_equal, forms_compared, values_differ}
use Rattle.same.proofs.pair.Pair.same_attribute.Goals as goal

pub returns-then-not-equal : goal.returns-then-not-equal
returns-then-not-equal c = oids_differ _ _ _ (parts_compared _ _ _ _ _ c.part.ensures c.part-2.ensures c.equal.ensures ∙ c.if-not-equal.true)

pub returns-then-equal : goal.returns-then-equal
returns-then-equal c =
    c.if-equal.true
    ∙ values_equal _ _ _ (parts_compared _ _ _ _ _ c.part.ensures c.part-2.ensures c.equal.ensures ∙ c.if-not-equal.false)
    (parts_compared _ _ _ _ _ c.part-x.ensures c.part-y.ensures c.equal-2.ensures ∙ c.if-equal.true)

pub returns-then-self : goal.returns-then-self
returns-then-self c =
    forms_compared _ _ _ (parts_compared _ _ _ _ _ c.part.ensures c.part-2.ensures c.equal.ensures ∙ c.if-not-equal.false) _ _ _ c.if-self.true c.part-x.ensures c.part-y.ensures c.same_normal.ensures

pub returns-else-self : goal.returns-else-self
returns-else-self c =
    c.if-self.false
    ∙ values_differ _ _ _ (parts_compared _ _ _ _ _ c.part.ensures c.part-2.ensures c.equal.ensures ∙ c.if-not-equal.false) c.if-self.false
    (parts_compared _ _ _ _ _ c.part-x.ensures c.part-y.ensures c.equal-2.ensures ∙ c.if-equal.false)
