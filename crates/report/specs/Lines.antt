-- The line that is written for an answer (docs/CARD-FILE.md, "The program's line"): its words, then a line as it is handed out, and how
-- long it can be. Words and numbers as bytes: Text.antt; which answer a card file gets: Replying.antt.
use Rattle.std.specs.Prelude.{List, [], ◌∷◌, ◌++◌, map, ℕ, ◌+◌, ◌-◌, ◌*◌, length, take, replicate}
use Rattle.places.specs.Limits.{bundle_most}
use Rattle.places.specs.declared.BundlePlace.{BundlePlace}
use Rattle.reply.specs.declared.Answer.{Answer}
use Rattle.reply.specs.declared.path.Path.{Path}
use Rattle.reply.specs.declared.Reply.{Reply}
use Rattle.reply.specs.declared.Reply.TheVariants as reply
use Rattle.report.specs.Text.{ascii, decimal}
use Rattle.report.specs.declared.line.Line.{Line}

-- places, each after one space
unfoldable pub spaced : List ℕ → List ℕ
spaced [] = []
spaced (p ∷ l) = (ascii " " ++ decimal p) ++ spaced l

-- the words for a reply and a path
unfoldable pub words : Reply → List ℕ → List ℕ
words (reply.Accepted r s) path = (((ascii "ACCEPT steps " ++ decimal s) ++ (ascii " root " ++ decimal r.0)) ++ ascii " path") ++ spaced path
words (reply.Refused s) path = ascii "REFUSE steps " ++ decimal s
words (reply.Exhausted s) path = ascii "EXHAUSTED steps " ++ decimal s
words (reply.Error e) path = ascii "ERROR " ++ decimal e

abbrev pub newline : List ℕ
newline = 10 ∷ []

-- a place's number
abbrev pub number_of : BundlePlace → ℕ
number_of p = p.0

-- a path's places
unfoldable pub places_shown : Path → List ℕ
places_shown p = map number_of (take p.length p.places)

-- the line for an answer
abbrev pub line_of : Answer → List ℕ
line_of a = words a.reply (places_shown a.path) ++ newline

-- an acceptance with steps of 20 digits, and a root and a full path of three digits each
abbrev pub line_most : ℕ
line_most = 48 + 4 * bundle_most

-- bytes as a line is handed out: zeros past them, and how many they are
unfoldable pub line_shown : List ℕ → Line
line_shown l = record { bytes = l ++ replicate (line_most - length l) 0; length = length l }
