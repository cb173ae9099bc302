-- Where a search stands after a mark: so many of the simple paths are taken, and its stack is the one after so many steps
-- (`stack` of order/specs/Walk.antt). A reader need not believe this file: it is what the private functions above promise each other; the
-- paths after a mark are in Later.antt.
use Rattle.std.specs.Prelude.{List, [], ℕ}
use Rattle.order.specs.Paths.{Places, Simple, Rank}

-- up to the path m, r paths are taken: none where m is [], and as many as its rank where it is a simple path
pub data Began (g : Places) : List ℕ → ℕ → Type 0 where
  unbegun : Began g [] 0
  after : {m : List ℕ} {r : ℕ} → Simple g m → Rank g m r → Began g m r
