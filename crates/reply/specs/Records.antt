-- The lent room as records (docs/CARD-FILE.md, "Room"): records are the room that has their bytes. A reader must believe this file
-- (docs/MAP.md).
-- Not here: a path in its slot (Slots.antt), and so in its record; what the room holds (Room.antt); that no other records have these
-- bytes (stack/proofs/Agree.antt).
use Rattle.std.specs.Prelude.{List, [], ◌∷◌, ◌++◌, map, ℕ}
use Rattle.reply.specs.declared.path.Path.{Path}

-- the bytes of a record: its length, its places
abbrev pub record_bytes : Path → List ℕ
record_bytes r = r.length ∷ map (λ i. i.0) r.places

-- the bytes of records, one behind another
abbrev pub bytes_of : List Path → List ℕ
bytes_of [] = []
bytes_of (r ∷ rs) = record_bytes r ++ bytes_of rs
