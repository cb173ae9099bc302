-- `has_name` finds the attribute at a place among those that stand; none that can't be read.
use mathlib.Core.Path.{sym, ap, ◌∙◌}
use Rattle.names.proofs.Attributes.{attr_read, attr_stops}
use Rattle.same.specs.Rows.{has_read}
use Rattle.same.proofs.pair.Pair.has_name.Goals as goal

pub returns-in_default : goal.returns-in_default
unfolding has_read
returns-in_default c = sym (ap (has_read _ _) (attr_stops _ _ _ c.attribute_at.ensures _ c.in_default.is))

pub returns : goal.returns
unfolding has_read
returns c = c.has_attribute.ensures ∙ sym (ap (has_read _ _) (attr_read _ _ _ c.attribute_at.ensures _ c.in-Ok.is))
