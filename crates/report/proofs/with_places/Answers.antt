-- `with_places` writes a path's places, each after a space.
use Rattle.std.proofs.Common.{◌≡◌, ◌++◌, ◌≤◌, map, take, sym, ap, ◌∙◌, arith, rules}
use mathlib.Core.List.{append-nil}
use native.Mathlib.Nat.{sub-zero}
use lib.ListN.{length}
use lib.Seq.{take_all}
use Rattle.places.specs.Limits.{bundle_most}
use Rattle.reply.proofs.Shown.{take-few}
use Rattle.report.specs.Lines.{line_shown, spaced, number_of, places_shown}
use Rattle.report.proofs.Places.{place_behind}
use Rattle.report.proofs.with_places.Goals as goal

pub loop-place-init : goal.loop-place-init
unfolding spaced
loop-place-init c = record { room = omega arith; written = λ s h. h ∙ ap line_shown (sym (append-nil s)) }

pub loop-place-preserved : goal.loop-place-preserved
loop-place-preserved c = record {
  room = omega arith;
  written = λ s h. c.with_byte-line.ensures.by_index _ (c.loop-place.invariant.written s h) ∙ ap line_shown (place_behind s _ c.loop-place.place-index c.loop-place-test.true);
}

pub returns-clause-length_bound : goal.returns-clause-length_bound
returns-clause-length_bound c =
    let few : length (take c.within-n.result c.args.path.places) ≤ bundle_most = search rules in
    omega (arith, c.loop-place.auto.place-index-end)

pub returns-clause-by_index : goal.returns-clause-by_index
unfolding places_shown
returns-clause-by_index c s h =
    let path = c.args.path in
    let many : length path.places ≡ bundle_most = search rules in
    let first : take c.within-n.result path.places ≡ take path.length path.places = rw (c.within-n.ensures, c.into.ensures) (take-few bundle_most path.length path.places many) in
    c.loop-place.invariant.written s h
    ∙ ap (λ x. line_shown (s ++ spaced (map number_of x))) (take_all c.loop-place.place-index _ c.loop-place-test.false ∙ search (rules, sub-zero, first))
