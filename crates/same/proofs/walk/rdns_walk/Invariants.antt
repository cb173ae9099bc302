-- `rdns_walk` walks two rows of RDNs. The invariant: the walk of what is left is the walk of all.
use Prim.Native.Nat.{◌-◌}
use mathlib.Core.Path.{◌≡◌}
use Rattle.fields.specs.Fields.{many}
use Rattle.same.specs.Same.{places}
use Rattle.same.specs.Walks.{walk}
use Rattle.same.proofs.walk.rdns_walk.Given as goal

abbrev pub invariant-loop : goal.invariant-loop
invariant-loop g l =
    let r = g.R.Relation in
    walk (places (r.related l.pair.normalise)) (many r.thing_p l.n l.pair.left.now l.at) (many r.thing_p l.n l.pair.right.now l.bt)
    ≡ walk (places (r.related l.pair.normalise))
    (many r.thing_p (l.n - l.counter) l.pair.left.now l.ends.0)
    (many r.thing_p (l.n - l.counter) l.pair.right.now l.ends.1)
