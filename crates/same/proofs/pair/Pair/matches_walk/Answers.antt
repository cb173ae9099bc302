-- `matches_walk` looks for each attribute of one RDN in the other. The invariant: the walk of what is left is the walk of all.
use Prim.Native.Nat.{◌+◌, ◌-◌}
use mathlib.Core.Path.{sym, ◌∙◌}
use mathlib.Core.Bool.{true, false}
use native.Mathlib.Omega.{arith}
use Rattle.names.proofs.Attributes.{attr_read, attr_stops}
use Rattle.same.proofs.Dropped.{dropped, kept}
use Rattle.same.proofs.Members.{sought_first, sought_stops, sought_none}
use Rattle.same.proofs.pair.Pair.matches_walk.Goals as goal

pub returns-in_err-name : goal.returns-in_err-name
returns-in_err-name c =
    let stops = attr_stops _ _ _ c.attribute_at.ensures _ (dropped c.ok.ensures.value c.in_err-name.was).is in
    c.from_residual.ensures
    ∙ sym (c.loop.invariant ∙ sought_stops _ _ _ _ _ (c.args.a.count - (c.loop.counter + 1)) _ (omega arith) _ stops)

pub returns-then-not-has_attribute : goal.returns-then-not-has_attribute
returns-then-not-has_attribute c =
    let name = attr_read _ _ _ c.attribute_at.ensures _ (kept c.ok.ensures.value c.in_ok-name.was) in
    sym (c.loop.invariant ∙ sought_first _ _ _ _ _ (c.args.a.count - (c.loop.counter + 1)) _ (omega arith) _ _ name false (sym c.has_attribute.ensures ∙ c.if-not-has_attribute.true))

pub loop-preserved : goal.loop-preserved
loop-preserved c =
    let name = attr_read _ _ _ c.attribute_at.ensures _ (kept c.ok.ensures.value c.in_ok-name.was) in
    c.loop.invariant ∙ sought_first _ _ _ _ _ _ _ (omega arith) _ _ name true (sym c.has_attribute.ensures ∙ c.if-not-has_attribute.false)

pub returns : goal.returns
returns c = sym (c.loop.invariant ∙ sought_none _ _ _ _ _ _ (omega arith))
