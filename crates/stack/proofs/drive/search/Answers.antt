-- `search` zeros what is above what stays.
use Rattle.std.proofs.Common.{◌≡◌, cond, ◌∙◌}
use Rattle.stack.proofs.Steps.{stays-fit, over-room, rested}
use Rattle.stack.proofs.drive.search.Goals as goal
use Rattle.stack.proofs.drive.search.Goals.{After-slots, then-terms, else-terms}

stays : (c : After-slots) → c.if-terms.stays ≡ cond c.args.terms.leaves c.drive-end.result.waiting 0
stays c = elim c.if-terms.branch [
  | then-terms w ↦ w.stays-is ∙ rw w.if-terms.true
  | else-terms w ↦ w.stays-is ∙ rw w.if-terms.false
]

pub clear-requires : goal.clear-requires
clear-requires c =
    rw (c.slots.ensures) (stays-fit _ c.requires c.drive-end.ensures (stays (goal.at.clear-requires c).After-slots), over-room _ c.requires c.drive-end.ensures)

pub returns : goal.returns
returns c = rested _ c.requires c.drive-end.ensures (stays (goal.at.returns c).After-slots) (rw c.slots.ensures at c.clear.ensures)
