-- A place mark (docs/unfinished/TAKEN-UP-AGAIN.txt): its path, the mark at a path, and when a mark can be used.
-- Not here: which paths come after it (Later.antt), what is answered and where the mark is then (Marked.antt).
use Rattle.std.specs.Prelude.{List, map, ◌≡◌, ℕ, ◌≤◌, take}
use Rattle.places.specs.Limits.{bundle_most}
use Rattle.order.specs.Paths.{Places, Simple}
use Rattle.reply.specs.Answer.{path_shown}
use Rattle.reply.specs.declared.path.Path.{Path}
use Rattle.marks.specs.declared.Mark.{Mark}

-- a mark's path: its places up to its length, and none where it is fresh
abbrev pub path_in : Mark → List ℕ
path_in m = take m.length (map (λ i. i.0) m.places)

-- the mark of a path as it is handed out
abbrev pub marking : Path → Mark
marking p = record { length = p.length; places = p.places }

-- the mark at a path: its length and its places, 0 past them; at [] it is fresh
abbrev pub mark_at : List ℕ → Mark
mark_at p = marking (path_shown p)

-- a mark can be used: it is fresh, or its path is a simple path
pub data Usable (g : Places) (m : Mark) : Type 0 where
  fresh : m.length ≡ 0 → Usable g m
  simple : m.length ≤ bundle_most → Simple g (path_in m) → Usable g m
