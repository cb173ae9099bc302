-- A room as the code lays it, slot behind slot. A reader need not believe this file: proofs/Laid.antt says that a room is so laid exactly
-- where it holds the paths as Room.antt says. A path in its slot: Slots.antt.
use Rattle.std.specs.Prelude.{List, [], ◌∷◌, ◌++◌, ℕ, ◌-◌, ◌*◌, length, drop, replicate}
use Rattle.order.specs.Slots.{slots_of}
use Rattle.reply.specs.Slots.{slot_bytes, slot_of}

-- the slots of a list of paths, the last one first
unfoldable pub flat : List (List ℕ) → List ℕ
flat [] = []
flat (p ∷ st) = flat st ++ slot_of p

-- the needed slots of `before` with the paths ws, the last one in slot 0, and then zeros; the rest is as it was
abbrev pub holding : ℕ → List (List ℕ) → List ℕ → List ℕ
holding n ws before = flat ws ++ (replicate (slot_bytes * slots_of n - slot_bytes * length ws) 0 ++ drop (slot_bytes * slots_of n) before)
