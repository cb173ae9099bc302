-- The lent room (docs/CARD-FILE.md, "Room" and "Paused"): when it is enough, a slot of it, and what it holds after the search. A reader
-- must believe this file (docs/MAP.md).
-- Not here: a path in its slot (Slots.antt); how many slots n certificates need (order/specs/Slots.antt); which paths wait
-- (order/specs/Waiting.antt); the room as the code lays it (Laid.antt).
use Rattle.std.specs.Prelude.{Bool, ◌&&◌, List, [], ◌≡◌, ℕ, ◌-◌, ◌*◌, ◌/◌, ◌≤◌, ◌<◌, leb, length, take, drop, get_or, replicate}
use Rattle.places.specs.Limits.{bundle_most}
use Rattle.order.specs.Paths.{Places}
use Rattle.order.specs.Slots.{slots_of}
use Rattle.order.specs.Waiting.{After}
use Rattle.reply.specs.Slots.{slot_bytes, slot_of}

-- so many bytes have the whole slots that n certificates need; a part slot doesn't count
unfoldable pub has_room : ℕ → ℕ → Bool
has_room n bytes = leb n bundle_most && leb (slots_of n) (bytes / slot_bytes)

-- slot i of a room
abbrev pub slot_at : ℕ → List ℕ → List ℕ
slot_at i room = take slot_bytes (drop (slot_bytes * i) room)

-- of the slots that n certificates need the first hold the paths ws, slot i the i-th from the end, and the others zeros; the rest of the
-- room is as it was
pub record Holding (n : ℕ) (ws : List (List ℕ)) (before after : List ℕ) : Type 0 where
  pub paths : (i : ℕ) → i < length ws → slot_at i after ≡ slot_of (get_or ws (length ws - 1 - i) [])
  pub zeros : (i : ℕ) → length ws ≤ i → i < slots_of n → slot_at i after ≡ replicate slot_bytes 0
  pub rest : drop (slot_bytes * slots_of n) after ≡ drop (slot_bytes * slots_of n) before

-- `after` holds what waits after s steps, the next one on top
pub record Holds (g : Places) (s : ℕ) (before after : List ℕ) : Type 0 where
  pub waiting : List (List ℕ)
  pub order : After g s waiting
  pub fits : length waiting ≤ slots_of g.size
  pub room : Holding g.size waiting before after
