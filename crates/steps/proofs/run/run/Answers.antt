-- `run` stops where the walk from the leaf alone does, and what that settles by how paths stand is settled by what was judged.
use Rattle.steps.proofs.Judging.{settled}
use Rattle.steps.proofs.run.run.Goals as goal

pub walk-requires : goal.walk-requires
walk-requires c =
    (c.requires.1, c.first.ensures.ready c.args.judged.issuing.bundle _)

pub returns : goal.returns
returns c =
    settled c.args.judged c.args.n c.requires.0 c.requires.1 _ c.seats_of-seats.ensures (rw c.first.ensures.leaf at c.walk.ensures)
