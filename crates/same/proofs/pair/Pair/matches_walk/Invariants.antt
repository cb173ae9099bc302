-- `matches_walk` looks for each attribute of one RDN in the other. The invariant: the walk of what is left is the walk of all.
use Prim.Native.Nat.{◌-◌}
use mathlib.Core.Path.{◌≡◌}
use Rattle.fields.specs.Fields.{got, many}
use Rattle.names.specs.Names.{attr_p}
use Rattle.same.specs.Matching.{matched}
use Rattle.same.specs.Rows.{standing}
use Rattle.same.specs.Walks.{walk}
use Rattle.same.proofs.pair.Pair.matches_walk.Given as goal

abbrev pub invariant-loop : goal.invariant-loop
invariant-loop l =
    walk (matched l.self.normalise) (many attr_p l.fn.a.count l.self.left.now l.fn.a.first) (got (standing attr_p l.b.count l.self.right.now l.b.first) l.right)
    ≡ walk (matched l.self.normalise) (many attr_p (l.end - l.counter) l.self.left.now l.at) (got (standing attr_p l.b.count l.self.right.now l.b.first) l.right)
