-- `seats_in` fills the three kinds of rows, and puts the leaves before the places that count.
use native.Mathlib.Omega.{arith}
use Prim.Native.Nat.{◌+◌, ◌*◌, ◌<◌}
use mathlib.Core.Path.{◌≡◌, ◌∙◌}
use lib.ListN.{length, replicate}
use borrow.Author.Rules.{rules}
use Rattle.places.specs.Limits.{roots_most, bundle_most}
use Rattle.rows.specs.Rows.{common, left, below}
use Rattle.policy.specs.Filling.{FilledFrom}
use Rattle.policy.specs.Standing.{seats_most, places_between}
use Rattle.policy.proofs.ByKind.{limited, limited_common, limited_left, unfilled_starts, unfilled_empty, unfilled_next, seats-filled}
use Rattle.policy.proofs.Filling.{lesser}
use Rattle.policy.proofs.seating.seats_in.Goals as goal
use Rattle.policy.proofs.seating.seats_in.Goals.{After-outside-others, After-fill_from, After-fill_from-2}

-- ---- when the kinds are known: what they are

tops : (c : After-outside-others) → c.among-tops.result ≡ record { sound = common c.args.judged.above.sound (below roots_most); limits = c.args.judged.above.limits }
tops c = rw c.below.ensures at c.among-tops.ensures

between : (c : After-outside-others) → c.among-between.result ≡ record { sound = places_between c.args.judged; limits = c.args.judged.between.limits }
between c = rw c.below-2.ensures at c.among-between.ensures

counted : (c : After-outside-others) → c.among-counted.result ≡ record { sound = common (places_between c.args.judged) c.args.judged.counted; limits = c.args.judged.between.limits }
counted c = rw (between c) at c.among-counted.ensures

others : (c : After-outside-others) → c.outside-others.result ≡ record { sound = left (places_between c.args.judged) c.args.judged.counted; limits = c.args.judged.between.limits }
others c = rw (between c) at c.outside-others.ensures

low : (c : After-outside-others) → c.min-last.result < bundle_most
low c = omega (arith, c.min-last.ensures ∙ lesser c.args.after 23)

-- ---- the rows of each kind

pub fill_from-requires : goal.fill_from-requires
fill_from-requires c =
    let at = (goal.at.fill_from-requires c).After-outside-others in
    let long : length c.args.judged.above.limits ≡ roots_most = search rules in (
      search rules,
      (
        (unfilled_empty _ _ unfilled_starts 2 (omega arith) (omega arith), low at),
        rw (tops at) (limited _ roots_most _ long (omega arith)),
      ),
    )

one : (c : After-fill_from)
    → FilledFrom 2 c.min-last.result (common c.args.judged.above.sound (below roots_most)) c.args.judged.above.limits (replicate (3 * seats_most) 0) c.fill_from.new.rows
one c = rw (rw c.below.ensures at c.among-tops.ensures) at c.fill_from.ensures

pub fill_from-requires-2 : goal.fill_from-requires-2
fill_from-requires-2 c =
    let at = goal.at.fill_from-requires-2 c in
    let long : length c.args.judged.between.limits ≡ bundle_most = search rules in (
      search rules,
      (
        (unfilled_empty _ _ (unfilled_next _ _ unfilled_starts 2 (omega arith) _ _ _ _ (one at.After-fill_from)) (seats_most + 2) (omega arith) (omega arith), low at.After-outside-others),
        rw (counted at.After-outside-others) (limited_common _ _ _ (limited _ bundle_most _ long (omega arith))),
      ),
    )

two : (c : After-fill_from-2)
    → FilledFrom (seats_most + 2) c.min-last.result (common (places_between c.args.judged) c.args.judged.counted) c.args.judged.between.limits c.fill_from.new.rows c.fill_from-2.new.rows
two c = rw (rw (rw c.below-2.ensures at c.among-between.ensures) at c.among-counted.ensures) at c.fill_from-2.ensures

pub fill_from-requires-3 : goal.fill_from-requires-3
fill_from-requires-3 c =
    let at = goal.at.fill_from-requires-3 c in
    let long : length c.args.judged.between.limits ≡ bundle_most = search rules in
    let u = unfilled_next _ _ unfilled_starts 2 (omega arith) _ _ _ _ (one at.After-fill_from) in (
      search rules,
      (
        (unfilled_empty _ _ (unfilled_next _ _ u (seats_most + 2) (omega arith) _ _ _ _ (two at.After-fill_from-2)) (2 * seats_most + 2) (omega arith) (omega arith), low at.After-outside-others),
        rw (others at.After-outside-others) (limited_left _ _ _ (limited _ bundle_most _ long (omega arith))),
      ),
    )

pub returns : goal.returns
returns c =
    let at = goal.at.returns c in
    let three = rw (others at.After-outside-others) at c.fill_from-3.ensures in
    seats-filled c.args.judged c.args.after _ (c.min-last.ensures ∙ lesser _ _) _ _ _ _ unfilled_starts (one at.After-fill_from) (two at.After-fill_from-2) three
