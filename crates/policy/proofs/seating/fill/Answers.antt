-- `fill` puts each of a row in the row of its limit and hands the rows on.
use Rattle.policy.proofs.seating.fill.Goals as goal

pub returns : goal.returns
returns g c =
    c.hand_on.ensures _ _ c.enter.ensures
