-- `spread` has laid the last of the children: those by the places that are to come come before them.
use Rattle.std.proofs.Common.{◌++◌, ◌≡◌, ℕ, ◌+◌, List, length}
use Rattle.stack.specs.Stacked.{places_in, children, laid}
use Rattle.stack.proofs.child.spread.Given as goal

abbrev pub invariant-loop-i : goal.invariant-loop-i
invariant-loop-i l = record {
  done : List (List ℕ);
  all : children l.row (places_in l.path) ≡ children l.i-iterator.rest (places_in l.path) ++ done;
  top : l.top ≡ l.at + length done;
  laid : l.records ≡ laid l.at done l.initial.records;
}
