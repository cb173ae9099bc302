-- `attr_walk` ends where the two attributes end, if they can be read and are the same.
use mathlib.Core.Path.{sym, ◌∙◌}
use Rattle.names.proofs.Attributes.{attr_read, attr_stops}
use Rattle.same.proofs.Dropped.{dropped, kept}
use Rattle.same.proofs.pair.Pair.attr_walk.Goals as goal

pub returns-in_err-a : goal.returns-in_err-a
returns-in_err-a c =
    let left = dropped c.ok.ensures.value c.in_err-a.was in
    c.from_residual.ensures ∙ rw (attr_stops _ _ _ c.attribute_at.ensures _ left.is)

pub returns-in_err-b : goal.returns-in_err-b
returns-in_err-b c =
    let left = kept c.ok.ensures.value c.in_ok-a.was in
    let right = dropped c.ok-2.ensures.value c.in_err-b.was in
    c.from_residual-in_err-b.ensures
    ∙ rw (attr_read _ _ _ c.attribute_at.ensures _ left, attr_stops _ _ _ c.attribute_at-2.ensures _ right.is)

pub returns-then-same_attribute : goal.returns-then-same_attribute
returns-then-same_attribute c =
    let left = kept c.ok.ensures.value c.in_ok-a.was in
    let right = kept c.ok-2.ensures.value c.in_ok-b.was in
    rw (attr_read _ _ _ c.attribute_at.ensures _ left, attr_read _ _ _ c.attribute_at-2.ensures _ right, sym c.same_attribute.ensures ∙ c.if-same_attribute.true)

pub returns : goal.returns
returns c =
    let left = kept c.ok.ensures.value c.in_ok-a.was in
    let right = kept c.ok-2.ensures.value c.in_ok-b.was in
    rw (attr_read _ _ _ c.attribute_at.ensures _ left, attr_read _ _ _ c.attribute_at-2.ensures _ right, sym c.same_attribute.ensures ∙ c.if-same_attribute.false)
