-- `fill_from` lends the rows of a kind to `fill` and puts them back.
use native.Mathlib.Omega.{arith}
use borrow.Author.Rules.{rules}
use Prim.Native.Nat.{◌+◌, ◌-◌}
use mathlib.Core.Path.{◌≡◌}
use Rattle.places.specs.Limits.{bundle_most}
use Rattle.policy.proofs.ByKind.{kind_lent, kind_filled}
use Rattle.policy.proofs.seating.fill_from.Goals as goal

pub fill-requires : goal.fill-requires
fill-requires g c =
    let size : c.args.from + bundle_most - c.args.from ≡ bundle_most = omega arith in
    (search rules, ((rw size (kind_lent _ _ c.requires.empty.0), c.requires.empty.1), c.requires.limited))

pub returns : goal.returns
returns g c =
    let size : c.args.from + bundle_most - c.args.from ≡ bundle_most = omega arith in
    rw size (kind_filled _ _ c.requires.empty.0 _ _ _ _ c.fill.ensures)
