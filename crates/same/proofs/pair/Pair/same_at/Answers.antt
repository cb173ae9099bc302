-- `same_at` answers with the attribute that stands there, compared, or with the fault.
use mathlib.Core.Path.{refl}
use Rattle.fields.proofs.Asked.{read_asked, after_err}
use Rattle.names.proofs.Attributes.{attr_read, attr_stops}
use Rattle.same.proofs.Upstream.{attr_turned}
use Rattle.same.proofs.pair.Pair.same_at.Goals as goal

pub returns-in_err-attribute : goal.returns-in_err-attribute
returns-in_err-attribute c =
    read_asked _ _ c.from_residual.ensures.1 (after_err _ (attr_stops _ _ _ c.attribute_at.ensures _ c.in_err-attribute.was))

pub returns : goal.returns
returns c =
    rw (attr_read _ _ _ c.attribute_at.ensures _ c.in_ok-attribute.was, c.same_attribute.ensures) (rw (attr_turned _ _ _) refl)
