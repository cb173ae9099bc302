-- `first` begins with the leaf alone.
use Rattle.std.proofs.Common.{refl, arith}
use Rattle.steps.proofs.Levels.{same_level, first_ready, first-stack}
use Rattle.steps.proofs.walk.first.Goals as goal

pub returns-clause-ready : goal.returns-clause-ready
returns-clause-ready c =
    let level = same_level c.with.ensures c.below.ensures c.begun.ensures in
    λ rows seats. first_ready c.args.n _ _ c.requires.0 level seats refl c.requires.1 (omega arith) rows

pub returns-clause-leaf : goal.returns-clause-leaf
returns-clause-leaf c =
    let level = same_level c.with.ensures c.below.ensures c.begun.ensures in
    first-stack c.args.n _ _ c.requires.0 level
