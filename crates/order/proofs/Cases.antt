-- The paper's case, n = 4 and all issue all: 16 paths, in this order (`four_listing`, `four_count`), and at most 4 wait, as 4 do after two
-- steps (`four_most`, `four_wait`). By computing the walk of specs/Walk.antt. Nothing rests on it; what holds of all numbers is in
-- Tree.antt, Rank.antt and Bound.antt.
use mathlib.Core.Bool.{true}
use mathlib.Core.List.{List, [], ◌∷◌, flat_map}
use mathlib.Core.Path.{refl}
use Prim.Native.Nat.{ℕ, ◌≤◌}
use native.Mathlib.Omega.{arith}
use lib.ListN.{length}
use Rattle.order.specs.Paths.{Places, Listing, Rank, Count}
use Rattle.order.specs.Waiting.{After}
use Rattle.order.specs.Walk.{next, kids, walk, visit}
use Rattle.order.proofs.Bound.{after-fits}
use Rattle.order.proofs.Rank.{rank-at}
use Rattle.order.proofs.Tree.{paths-listing}
use Rattle.order.proofs.Waiting.{stack-after}

-- four certificates that all issue all
abbrev pub four : Places
four = record { size = 4; issued = λ i j. true }

pub four_listing : Listing four
    ((0 ∷ [])
    ∷ (0 ∷ 3 ∷ [])
    ∷ (0 ∷ 3 ∷ 2 ∷ [])
    ∷ (0 ∷ 3 ∷ 2 ∷ 1 ∷ [])
    ∷ (0 ∷ 3 ∷ 1 ∷ [])
    ∷ (0 ∷ 3 ∷ 1 ∷ 2 ∷ [])
    ∷ (0 ∷ 2 ∷ [])
    ∷ (0 ∷ 2 ∷ 3 ∷ [])
    ∷ (0 ∷ 2 ∷ 3 ∷ 1 ∷ [])
    ∷ (0 ∷ 2 ∷ 1 ∷ [])
    ∷ (0 ∷ 2 ∷ 1 ∷ 3 ∷ [])
    ∷ (0 ∷ 1 ∷ [])
    ∷ (0 ∷ 1 ∷ 3 ∷ [])
    ∷ (0 ∷ 1 ∷ 3 ∷ 2 ∷ [])
    ∷ (0 ∷ 1 ∷ 2 ∷ [])
    ∷ (0 ∷ 1 ∷ 2 ∷ 3 ∷ [])
    ∷ [])
unfolding flat_map next kids walk visit
four_listing = paths-listing four (omega arith)

pub four_count : Count four 16
four_count = (_, four_listing, refl)

pub four_fifth : Rank four (0 ∷ 3 ∷ 1 ∷ []) 5
four_fifth = rank-at four four_listing 4 (omega arith)

-- never more than four wait, and four do after two steps
pub four_most : {k : ℕ} {ws : List (List ℕ)} → After four k ws → length ws ≤ 4
four_most a = after-fits four (omega arith) a

pub four_wait : After four 2 ((0 ∷ 3 ∷ 2 ∷ []) ∷ (0 ∷ 3 ∷ 1 ∷ []) ∷ (0 ∷ 2 ∷ []) ∷ (0 ∷ 1 ∷ []) ∷ [])
unfolding next kids
four_wait = stack-after four (omega arith) 2
