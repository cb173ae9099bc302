-- `look_through` looks at one place more.
use Rattle.std.proofs.Common.{ap, ◌∙◌, arith}
use Rattle.std.proofs.lemmas.List.{take_more, take_all, map-append}
use Rattle.rows.specs.Rows.{left}
use Rattle.stack.specs.Stacked.{places_in}
use Rattle.stack.proofs.Seen.{look_none, look_more}
use Rattle.stack.proofs.Shown.{places-few}
use Rattle.stack.proofs.look.look_through.Goals as goal

pub shared_ref_as_front-place-items : goal.shared_ref_as_front-place-items
shared_ref_as_front-place-items c = omega (arith, places-few c.requires.shown (omega arith))

pub loop-place-init : goal.loop-place-init
loop-place-init c = look_none (omega (arith, c.requires.few)) c.below-free.ensures c.begun-standing.ensures

pub loop-place-preserved : goal.loop-place-preserved
loop-place-preserved c =
    let l = c.loop-place in
    rw (take_more _ l.place-index (record { 0 = 0 }) c.loop-place-test.true, map-append)
    (look_more (omega (arith, c.requires.few)) l.invariant _ (c.without-free.ensures ∙ ap (left l.free) c.with.ensures) c.added-standing.ensures)

pub returns : goal.returns
unfolding places_in
returns c = rw (take_all c.loop-place.place-index _ c.loop-place-test.false) at c.loop-place.invariant
