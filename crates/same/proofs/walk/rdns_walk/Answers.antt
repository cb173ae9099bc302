-- `rdns_walk` walks two rows of RDNs. The invariant: the walk of what is left is the walk of all.
use Prim.Native.Nat.{◌+◌, ◌-◌}
use mathlib.Core.Path.{sym, ◌∙◌}
use native.Mathlib.Omega.{arith}
use Rattle.same.proofs.Walks.{walk_none, walk_on, walk_differs}
use Rattle.same.proofs.walk.rdns_walk.Goals as goal

pub loop-preserved : goal.loop-preserved
loop-preserved g c =
    c.loop.invariant ∙ walk_on _ _ _ _ _ _ _ _ c.in_ok-ends.ends.0 c.in_ok-ends.ends.1 (omega arith) (sym c.walk.ensures ∙ c.in_ok-ends.was)

pub returns-in_err-ends : goal.returns-in_err-ends
returns-in_err-ends g c =
    c.from_residual.ensures
    ∙ sym (c.loop.invariant ∙ walk_differs _ _ _ _ _ (c.args.n - (c.loop.counter + 1)) _ _ (omega arith) (sym c.walk.ensures ∙ c.in_err-ends.was))

pub returns : goal.returns
returns g c = sym (c.loop.invariant ∙ walk_none _ _ _ _ _ _ _ (omega arith))
