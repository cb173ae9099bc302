-- A path in its slot (docs/CARD-FILE.md, "Room"): its length, its places, zeros. A reader must believe this file (docs/MAP.md).
-- Not here: how many slots are needed (order/specs/Slots.antt), and which path stands in which (Room.antt).
use Rattle.std.specs.Prelude.{ℕ, ◌+◌, ◌-◌, List, ◌∷◌, ◌++◌, length, replicate}
use Rattle.places.specs.Limits.{bundle_most}

abbrev pub slot_bytes : ℕ
slot_bytes = bundle_most + 1

-- a path's places, and zeros past its length
unfoldable pub padded : List ℕ → List ℕ
padded p = p ++ replicate (bundle_most - length p) 0

-- a path as the bytes of its slot: its length, its places, zeros
unfoldable pub slot_of : List ℕ → List ℕ
slot_of p = length p ∷ padded p
