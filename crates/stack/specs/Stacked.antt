-- Paths in records, as the code lays them. A reader need not believe this file: what is left in the records is said of their bytes
-- (reply/specs/Records.antt).
use Rattle.std.specs.Prelude.{List, [], ◌∷◌, ◌++◌, map, ◌≡◌, ℕ, ◌+◌, ◌-◌, ◌<◌, length, take, drop, get_or, replicate}
use Rattle.places.specs.Limits.{bundle_most}
use Rattle.order.specs.Slots.{slots_of}
use Rattle.reply.specs.Answer.{path_shown}
use Rattle.reply.specs.declared.path.Path.{Path}
use Rattle.steps.specs.Parts.{offered}

-- the places of a path
unfoldable pub places_in : Path → List ℕ
places_in p = map (λ i. i.0) (take p.length p.places)

-- p extended by each place of a row, the largest first
abbrev pub children : ℕ → List ℕ → List (List ℕ)
children row p = offered 64 row p

-- a record of zeros
abbrev pub blank : Path
blank = path_shown []

-- each record has as many places as a path can have
abbrev pub Whole : List Path → Type 0
Whole l = (i : ℕ) → i < length l → length (get_or l i blank).places ≡ bundle_most

-- the records of a list of paths, the last one first
unfoldable pub stacked : List (List ℕ) → List Path
stacked [] = []
stacked (p ∷ st) = stacked st ++ (path_shown p ∷ [])

-- the records l with the paths vs from `at` on, the last one first
abbrev pub laid : ℕ → List (List ℕ) → List Path → List Path
laid at vs l = take at l ++ (stacked vs ++ drop (at + length vs) l)

-- the needed records of `before` with the paths ws, the last one in the first record, and then zeros; the rest is as it was
abbrev pub held_in : ℕ → List (List ℕ) → List Path → List Path
held_in n ws before = stacked ws ++ (replicate (slots_of n - length ws) blank ++ drop (slots_of n) before)
