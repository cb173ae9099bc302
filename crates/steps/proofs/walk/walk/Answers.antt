-- `walk` stops as its contract says, from any state. The invariant: the state is where the steps so far lead from the stack that it began
-- with, and none of the paths that they took qualifies.
use borrow.Author.Rules.{rules}
use native.Mathlib.Omega.{arith}
use Prim.Native.Nat.{ℕ, ◌+◌, ◌≤◌, ◌<◌, zero-le}
use mathlib.Core.Path.{◌≡◌, refl, ap, ◌∙◌}
use mathlib.Core.List.{List, [], ◌∷◌}
use lib.ListN.{take, set}
use Rattle.places.specs.Limits.{bundle_most}
use Rattle.order.specs.Paths.{Places}
use Rattle.order.specs.Walk.{snoc, pops, top}
use Rattle.policy.specs.Standing.{roots_over}
use Rattle.rows.specs.Rows.{left}
use Rattle.question.specs.Question.{places_by}
use Rattle.steps.specs.Parts.{stack_of}
use Rattle.steps.proofs.Ends.{vain-none, vain-more, stop-refused, stop-exhausted, stop-accepted}
use Rattle.steps.proofs.Levels.{same_level, Stands, stands-start, climbed, place_low, met, path-is, roots_are, stayed, sank}
use Rattle.steps.proofs.Least.{row-found, row-none}
use Rattle.steps.proofs.walk.walk.Goals as goal
use Rattle.steps.proofs.walk.walk.Goals.{After-next_place-i, After-roots_over-tops, Joined-next-ne0, then-next-ne0, else-next-ne0}

-- the place that is taken is below the bundle's limit
low : (c : After-next_place-i) → c.next_place-i.result < bundle_most
low c = let S = c.loop-here.invariant.stands in omega (arith, place_low S c.next_place-i.ensures c.if-here-eq0.false, S.few)

-- ---- when the path's roots are known: the path by the place, and what the walk goes over

abbrev path : After-roots_over-tops → List ℕ
path c = snoc (take c.loop-here.d c.loop-here.place) c.next_place-i.result

abbrev graph : After-roots_over-tops → Places
graph c = places_by c.args.ground.rows.now c.args.n

abbrev began : After-roots_over-tops → List (List ℕ)
began c = stack_of c.args.n c.args.from

time : (c : After-roots_over-tops) → c.loop-here.steps < c.args.budget
time c = omega (arith, c.if-budget-steps.false)

-- the path's roots as a row
over : (c : After-roots_over-tops) → c.roots_over-tops.result ≡ roots_over c.args.ground.roots.now c.args.ground.seats.now (path c)
over c = roots_are c.loop-here.invariant.stands c.next_place-i.ensures c.if-here-eq0.false _ c.standing_by-standing.ensures c.roots_over-tops.ensures

-- it was on top
on_top : (c : After-roots_over-tops) → top (pops (graph c) c.loop-here.steps (began c)) ≡ path c ∷ []
on_top c = met c.loop-here.invariant.stands c.next_place-i.ensures c.if-here-eq0.false

-- the state after the step, and how deep it is
moved : (c : Joined-next-ne0)
    → Stands (places_by c.args.ground.rows.now c.args.n) c.args.ground.seats.now (stack_of c.args.n c.args.from) c.if-next-ne0.levels
    (set c.loop-here.place c.loop-here.d c.next_place-i.result) c.if-next-ne0.here c.if-next-ne0.d (c.loop-here.steps + 1)
    × (c.if-next-ne0.d ≤ c.loop-here.d + 1)
moved c =
    let S = c.loop-here.invariant.stands in
    let next = c.children-next.ensures in
    let here = same_level (c.without.ensures ∙ ap (left c.loop-here.here.ahead) c.with.ensures) refl refl in
    elim c.if-next-ne0.branch [
      | then-next-ne0 w ↦
          (rw (w.levels-is, w.here-is, w.d-is) (sank S c.next_place-i.ensures c.if-here-eq0.false _ (λ j. refl) next here (w.onward-here.ensures _ c.standing_by-standing.ensures) (omega (arith, w.if-next-ne0.true)) (search rules)), omega (arith, w.d-is))
      | else-next-ne0 w ↦
          (rw (w.levels-is, w.here-is, w.d-is) (stayed S c.next_place-i.ensures c.if-here-eq0.false _ (λ j. refl) next here w.if-next-ne0.false), omega (arith, w.d-is))
    ]

pub loop-here-init : goal.loop-here-init
loop-here-init c =
    record { stands = stands-start c.requires.0 (search rules) c.requires.1; vain = vain-none; time = zero-le }

pub returns-then-d-eq0 : goal.returns-then-d-eq0
returns-then-d-eq0 c =
    let l = c.loop-here in
    rw c.stopped.ensures
    (stop-refused l.invariant.vain l.invariant.stands c.if-here-eq0.true c.if-d-eq0.true l.invariant.time)

pub loop-here-preserved-then-here-eq0 : goal.loop-here-preserved-then-here-eq0
loop-here-preserved-then-here-eq0 c =
    let l = c.loop-here in
    record {
      stands = climbed l.invariant.stands c.if-here-eq0.true (omega (arith, c.if-d-eq0.false));
      vain = l.invariant.vain;
      time = l.invariant.time;
    }

pub returns-then-budget-steps : goal.returns-then-budget-steps
returns-then-budget-steps c =
    let l = c.loop-here in
    rw c.stopped-then-budget-steps.ensures
    (stop-exhausted l.invariant.vain l.invariant.stands c.if-here-eq0.false l.invariant.time c.if-budget-steps.true)

pub bounds-ground-i : goal.bounds-ground-i
bounds-ground-i c = low (goal.at.bounds-ground-i c).After-next_place-i

pub bounds-ground-i-in-loop-here : goal.bounds-ground-i-in-loop-here
bounds-ground-i-in-loop-here c = low (goal.at.bounds-ground-i-in-loop-here c).After-next_place-i

pub offset_bounds-levels-d-then-tops-ne0 : goal.offset_bounds-levels-d-then-tops-ne0
offset_bounds-levels-d-then-tops-ne0 c = search (rules, (moved (goal.at.offset_bounds-levels-d-then-tops-ne0 c).Joined-next-ne0).0.deep)

pub bounds-levels-d-then-tops-ne0 : goal.bounds-levels-d-then-tops-ne0
bounds-levels-d-then-tops-ne0 c = (moved (goal.at.bounds-levels-d-then-tops-ne0 c).Joined-next-ne0).0.deep

pub stopped-requires-then-tops-ne0 : goal.stopped-requires-then-tops-ne0
stopped-requires-then-tops-ne0 c = (moved (goal.at.stopped-requires-then-tops-ne0 c).Joined-next-ne0).0.deep

pub returns-then-tops-ne0 : goal.returns-then-tops-ne0
returns-then-tops-ne0 c =
    let l = c.loop-here in
    let r = row-found _ _ _ (over (goal.at.returns-then-tops-ne0 c).After-roots_over-tops) (omega (arith, c.if-tops-ne0.true)) (search rules) in
    rw (c.stopped-then-tops-ne0.ensures, c.lowest.ensures)
    (stop-accepted l.invariant.vain (moved (goal.at.returns-then-tops-ne0 c).Joined-next-ne0).0 (on_top (goal.at.returns-then-tops-ne0 c).After-roots_over-tops) (time (goal.at.returns-then-tops-ne0 c).After-roots_over-tops) r (omega (arith, l.invariant.stands.deep)) (path-is l.invariant.stands c.next_place-i.ensures c.if-here-eq0.false))

pub loop-here-smaller : goal.loop-here-smaller
loop-here-smaller c = omega (arith, (moved (goal.at.loop-here-smaller c).Joined-next-ne0).1, time (goal.at.loop-here-smaller c).After-roots_over-tops)

pub loop-here-preserved : goal.loop-here-preserved
loop-here-preserved c =
    record {
      stands = (moved (goal.at.loop-here-preserved c).Joined-next-ne0).0;
      vain = vain-more c.loop-here.invariant.vain (on_top (goal.at.loop-here-preserved c).After-roots_over-tops) (row-none _ _ _ (over (goal.at.loop-here-preserved c).After-roots_over-tops) c.if-tops-ne0.false);
      time = omega (arith, time (goal.at.loop-here-preserved c).After-roots_over-tops);
    }
