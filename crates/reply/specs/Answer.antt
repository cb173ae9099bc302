-- What is answered, and what is left in the room (docs/CARD-FILE.md, "Replies"): an outcome's answer; what the paused run, the search and
-- an error promise; then the cases of a search and the answer in each. A reader must believe this file (docs/MAP.md).
-- Not here: when an outcome settles a search (Settles.antt); what the room holds (Room.antt); where 4 to 9 are given
-- (fields/specs/Fields.antt, and the readers over it); that there is one answer (proofs/Unique.antt, proofs/Total.antt).
use Rattle.std.specs.Prelude.{cond, List, [], map, ◌≡◌, ℕ, ltb, length}
use Rattle.order.specs.Paths.{Places}
use Rattle.reply.specs.Slots.{padded}
use Rattle.reply.specs.Settles.{Reach, Outcome, accepted, refused, exhausted, Settles, steps}
use Rattle.reply.specs.Room.{has_room, Holding, Holds}
use Rattle.reply.specs.declared.Reply.TheVariants as reply
use Rattle.reply.specs.declared.path.Path.{Path}
use Rattle.reply.specs.declared.Answer.{Answer}

-- a path as it is handed out: its length and its places, 0 past them
unfoldable pub path_shown : List ℕ → Path
path_shown p = record { length = length p; places = map (λ i. record { 0 = i }) (padded p) }

-- what is answered for an outcome: the reply, and the path beside it
abbrev pub answering : Outcome → Answer
answering (accepted p r s) = record { reply = reply.Accepted (record { 0 = r }) s; path = path_shown p }
answering (refused s) = record { reply = reply.Refused s; path = path_shown [] }
answering (exhausted s) = record { reply = reply.Exhausted s; path = path_shown [] }

-- the answer tells the outcome o, which settles the search
pub record Tells (g : Places) (w : Reach) (k : ℕ) (a : Answer) (o : Outcome) : Type 0 where
  pub settled : Settles g w k o
  pub says : a ≡ answering o

-- the paused run leaves what waits in the room
pub record Paused (g : Places) (w : Reach) (k : ℕ) (before after : List ℕ) (a : Answer) : Type 0 where
  pub outcome : Outcome
  pub tells : Tells g w k a outcome
  pub holds : Holds g (steps outcome) before after

-- the search leaves zeros
pub record Searched (g : Places) (w : Reach) (k : ℕ) (before after : List ℕ) (a : Answer) : Type 0 where
  pub outcome : Outcome
  pub tells : Tells g w k a outcome
  pub clear : Holding g.size [] before after

-- there is no search: the reply is the error e, and nothing is written
pub record Stops (e : ℕ) (before after : List ℕ) (a : Answer) : Type 0 where
  pub says : a ≡ record { reply = reply.Error e; path = path_shown [] }
  pub kept : after ≡ before

-- what a search comes to before it begins: the file can't be read, and the number of its fault; there is no certificate; there is too
-- little room; it runs, and what over
pub data Case (A : Type 0) : Type 0 where
  unread : ℕ → Case A
  empty : Case A
  cramped : Case A
  runs : A → Case A

-- the case of x, which has n certificates, in a room of so many bytes
unfoldable pub case_of : {A : Type 0} → A → ℕ → ℕ → Case A
case_of x n bytes = cond (ltb 0 n) (cond (has_room n bytes) (runs x) cramped) empty

-- what is answered in each case, where P x is what a search over x answers
abbrev pub Answered : {A : Type 0} → (A → Type 0) → Case A → List ℕ → List ℕ → Answer → Type 0
Answered P (unread r) before after a = Stops r before after a
Answered P empty before after a = Stops 3 before after a
Answered P cramped before after a = Stops 10 before after a
Answered P (runs x) before after a = P x
