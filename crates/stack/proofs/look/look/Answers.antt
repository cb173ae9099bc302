-- `look` takes the roots over the path and the places by which it goes on.
use Rattle.std.proofs.Common.{ℕ, ◌<◌, get_or, ap, ◌∙◌, arith}
use Rattle.order.specs.Paths.{last}
use Rattle.order.proofs.Simple.{last_among}
use Rattle.places.specs.Limits.{bundle_most}
use Rattle.rows.specs.Rows.{common}
use Rattle.stack.specs.Stacked.{places_in}
use Rattle.stack.proofs.Seen.{look_roots, look_children, first_root}
use Rattle.stack.proofs.look.look.Goals as goal
use Rattle.stack.proofs.look.look.Goals.{After-look_through-seen}

-- its last place is one of the bundle's
low : (c : After-look_through-seen) → c.look_through-seen.result.last < bundle_most
low c =
    let S = c.requires.simple in
    let (r, e) = S.start in
    let l : last 0 (places_in c.args.path) < c.args.n = S.inside (last 0 (places_in c.args.path)) (rw e (last_among 0 r)) in
    omega (arith, l, c.look_through-seen.ensures.ends, c.requires.few)

pub bounds-ground-last : goal.bounds-ground-last
bounds-ground-last c = low (goal.at.bounds-ground-last c).After-look_through-seen

pub bounds-ground-last-2 : goal.bounds-ground-last-2
bounds-ground-last-2 c = low (goal.at.bounds-ground-last-2 c).After-look_through-seen

pub returns-clause-root : goal.returns-clause-root
returns-clause-root c =
    let a = c.args in
    let p = places_in a.path in
    let L = c.look_through-seen.ensures in
    let tops = c.shared-tops.ensures ∙ ap (λ (x : ℕ). common x (get_or a.ground.roots.now c.look_through-seen.result.last 0)) c.over.ensures in
    let roots = look_roots L c.requires.simple.start.1 a.ground.roots.now tops in
    rw (c.then_some-root.ensures, c.lowest.ensures) (first_root a.ground.roots.now a.ground.seats.now p roots c.shared-tops.type_inv)

pub returns-clause-next : goal.returns-clause-next
returns-clause-next c =
    look_children c.look_through-seen.ensures c.args.ground.rows.now c.shared-next.ensures (omega (arith, c.requires.few))
