-- `enter` puts each of a row in the row of its limit. The invariant: those that came are in their row.
use Rattle.std.proofs.Common.{◌≡◌, ◌<◌, min, get_or, ◌∙◌, arith}
use Rattle.places.specs.Limits.{bundle_most}
use Rattle.policy.proofs.Filling.{lesser, entering_starts, entering_inside, entering_turn, entering_ends}
use Rattle.policy.proofs.seating.enter.Goals as goal

pub loop-i-init : goal.loop-i-init
loop-i-init g c = rw (c.into_iter-i-iterator.ensures.into_iter_gives, c.each-i-items.ensures) (entering_starts _ _ _ _ c.requires.rows_value.0)

pub bounds-limits-i : goal.bounds-limits-i
bounds-limits-i g c =
    let came = c.in-Some.ensures.steps in
    entering_inside _ _ _ _ _ c.loop-i.invariant c.requires.limited _ came.0 came.1

pub loop-i-preserved : goal.loop-i-preserved
loop-i-preserved g c =
    let came = c.in-Some.ensures.steps in
    let row : c.min-row.result ≡ min (get_or c.args.kind.now.limits c.in-Some.i 0) c.args.last = c.min-row.ensures ∙ lesser _ _ in
    let room : min (get_or c.args.kind.now.limits c.in-Some.i 0) c.args.last < bundle_most = omega (arith, c.requires.rows_value.1) in
    rw (came.2, c.with.ensures, row) (entering_turn _ _ _ _ _ c.loop-i.invariant _ came.0 came.1 room)

pub returns : goal.returns
returns g c =
    let few = c.requires.limited.few in
    entering_ends _ _ _ _ _ c.loop-i.invariant c.requires.limited (omega (arith, c.in-None.ensures.steps))
