-- What waits after k steps (docs/CARD-FILE.md, "Paused"). A step takes one path: after k steps the first k of the listing are taken. A
-- reader must believe this file (docs/MAP.md).
-- Not here: that it exists and is only one (proofs/Waiting.antt); how many can wait at once (Slots.antt, `after-fits` of
-- proofs/Bound.antt); where they stand in the lent room (reply/specs/Room.antt).
use mathlib.Core.List.{List, [], ◌∷◌, drop_last}
use Rattle.std.specs.Prelude.{◌⊎◌, ◌≡◌, ℕ, take, drop}
use Rattle.order.specs.Listing.{◌among◌, Lists}
use Rattle.order.specs.Paths.{Places, Before, Listing}

-- of the listing ps: p is untaken, and all but its last place is a path that is taken; or p is [0], which has no such path
pub record Waits (ps : List (List ℕ)) (k : ℕ) (p : List ℕ) : Type 0 where
  pub untaken : p among drop k ps
  pub parent : (p ≡ 0 ∷ []) ⊎ (drop_last p among take k ps)

-- of the listing ps: ws are the paths that wait after k steps, the next one first and the rest in order
abbrev pub Waiting : List (List ℕ) → ℕ → List (List ℕ) → Type 0
Waiting ps k ws = Lists Before (Waits ps k) ws

-- ws are the paths that wait after k steps, the next one first and the rest in order
abbrev pub After : Places → ℕ → List (List ℕ) → Type 0
After g k ws = (ps : List (List ℕ)) × Listing g ps × Waiting ps k ws
