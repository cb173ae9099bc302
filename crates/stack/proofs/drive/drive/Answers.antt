-- `drive` takes the path on top and lays its children in its stead.
use Rattle.std.proofs.Common.{◌≡◌, ℕ, List, [], ap, ◌∙◌, arith}
use Rattle.order.specs.Walk.{kids}
use Rattle.reply.specs.Answer.{path_shown}
use Rattle.stack.specs.Looks.{places_on}
use Rattle.stack.specs.Stacked.{places_in, children}
use Rattle.stack.specs.Stands.{lent}
use Rattle.stack.proofs.Shown.{places_are, shown-places}
use Rattle.stack.proofs.Steps.{stands-first, inside, Top, topped, over-refused, over-exhausted, top-simple, kids_fit, kids-short, stands-next, over-accepted}
use Rattle.stack.proofs.drive.drive.Goals as goal
use Rattle.stack.proofs.drive.drive.Goals.{After-take-path, After-look-found, In-Some, In_default}

-- ---- the path that is taken

taken : (c : After-take-path) → Top (lent c.args.ground c.args.records.now c.args.terms) c.loop-waiting.steps c.loop-waiting.waiting c.loop-waiting.records
taken c = topped _ c.requires c.loop-waiting.invariant c.loop-waiting-test.true

shown : (c : After-take-path) → c.take-path.result ≡ path_shown (taken c).path
shown c = c.take-path.ensures ∙ (taken c).shown

places : (c : After-take-path) → places_in c.take-path.result ≡ (taken c).path
places c = places_are (taken c).path (shown c)

-- ---- and its children

kids_are : (c : After-look-found) {p : List ℕ} → places_in c.take-path.result ≡ p
    → children c.look-found.result.next (places_in c.take-path.result) ≡ kids (places_on c.args.ground c.args.terms.size) p
kids_are c e = c.look-found.ensures.next ∙ ap (kids (places_on c.args.ground c.args.terms.size)) e

pub child-requires-clause-shown : goal.child-requires-clause-shown
child-requires-clause-shown c = shown-places [] c.new.ensures

pub child-requires-clause-short : goal.child-requires-clause-short
child-requires-clause-short c = rw (places_are [] c.new.ensures) (omega arith)

pub loop-waiting-init : goal.loop-waiting-init
loop-waiting-init c = rw (c.push.ensures, c.child.ensures, places_are [] c.new.ensures) (stands-first _ c.requires)

pub returns-then-terms-steps : goal.returns-then-terms-steps
returns-then-terms-steps c =
    over-exhausted _ c.requires c.loop-waiting.invariant c.loop-waiting-test.true c.if-terms-steps.true c.ended.ensures.answer c.ended.ensures.waiting

pub take-path-requires : goal.take-path-requires
take-path-requires c = inside _ c.requires c.loop-waiting.invariant c.loop-waiting-test.true

pub look-found-requires-clause-shown : goal.look-found-requires-clause-shown
look-found-requires-clause-shown c = let k = (goal.at.look-found-requires-clause-shown c).After-take-path in shown-places (taken k).path (shown k)

pub look-found-requires-clause-simple : goal.look-found-requires-clause-simple
look-found-requires-clause-simple c =
    let k = (goal.at.look-found-requires-clause-simple c).After-take-path in
    rw (places k) (top-simple _ c.requires c.loop-waiting.invariant (taken k))

pub spread-waiting-requires-clause-shown : goal.spread-waiting-requires-clause-shown
spread-waiting-requires-clause-shown c = let k = (goal.at.spread-waiting-requires-clause-shown c).After-take-path in shown-places (taken k).path (shown k)

pub spread-waiting-requires-clause-short : goal.spread-waiting-requires-clause-short
spread-waiting-requires-clause-short c =
    let at = goal.at.spread-waiting-requires-clause-short c in
    let k = at.After-take-path in
    rw (kids_are at.After-look-found (places k), places k) (kids-short _ c.requires c.loop-waiting.invariant (taken k))

pub spread-waiting-requires-clause-room : goal.spread-waiting-requires-clause-room
spread-waiting-requires-clause-room c =
    let at = goal.at.spread-waiting-requires-clause-room c in
    let k = at.After-take-path in
    rw (kids_are at.After-look-found (places k)) (kids_fit _ c.requires c.loop-waiting.invariant (taken k))

pub returns-in-Some : goal.returns-in-Some
returns-in-Some c =
    let at = goal.at.returns-in-Some c in
    let k = at.After-take-path in
    let e = kids_are at.After-look-found (places k) in
    let root = rw (c.in-Some.is, places k) at c.look-found.ensures.root in
    over-accepted _ c.requires c.loop-waiting.invariant (taken k) (rw e at c.spread-waiting.ensures.top) (rw e at c.spread-waiting.ensures.laid)
    c.if-terms-steps.false root (shown k)

pub loop-waiting-preserved : goal.loop-waiting-preserved
loop-waiting-preserved c =
    let at = goal.at.loop-waiting-preserved c in
    let k = at.After-take-path in
    let e = kids_are at.After-look-found (places k) in
    let none = rw (c.in_default.is, places k) at c.look-found.ensures.root in
    stands-next _ c.requires c.loop-waiting.invariant (taken k) (rw e at c.spread-waiting.ensures.top) (rw e at c.spread-waiting.ensures.laid)
    c.if-terms-steps.false none

pub returns : goal.returns
returns c = over-refused _ c.requires c.loop-waiting.invariant c.loop-waiting-test.false c.ended-2.ensures.answer c.ended-2.ensures.waiting
