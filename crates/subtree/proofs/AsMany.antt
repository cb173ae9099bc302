-- Of two RDNs of as many attributes the first lies under the second exactly where it is the same (`under_same`). What lies under what:
-- specs/Subtree.antt; what is the same: same/specs/Same.antt.
use mathlib.Core.Path.{◌≡◌}
use mathlib.Core.Bool.{Bool}
use mathlib.Core.List.{List}
use native.Mathlib.Omega.{arith}
use lib.ListN.{length}
use borrow.Author.Tests.{eq-eqb, le-leb}
use Rattle.names.specs.Names.{Attr}
use Rattle.same.specs.Same.{same_rdn}
use Rattle.subtree.specs.Subtree.{is_subtree_rdn}

pub under_same : (normalise : Bool) (a b : List Attr) → length a ≡ length b → is_subtree_rdn normalise a b ≡ same_rdn normalise a b
unfolding is_subtree_rdn same_rdn
under_same normalise a b h = rw (le-leb (length a) (length b) (omega (arith, h)), eq-eqb (length a) (length b) h)
