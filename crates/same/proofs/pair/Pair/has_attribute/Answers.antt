-- `has_attribute` finds an attribute among those that stand.
use mathlib.Core.Path.{◌∙◌}
use Rattle.names.specs.Names.{attr_p}
use Rattle.same.proofs.Standing.{any_standing}
use Rattle.same.proofs.pair.Pair.has_attribute.Goals as goal

pub returns : goal.returns
returns c = c.any.ensures ∙ any_standing attr_p c.args.self.right.now _ c.args.rdn.count c.args.rdn.first
