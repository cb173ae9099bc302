-- What is answered where a search is taken up again at a mark, where the mark is then, and what is left in the room (docs/unfinished/
-- TAKEN-UP-AGAIN.txt).
-- Not here: a mark and its path (Marks.antt); the paths after it, and when an outcome settles a search through them (Later.antt); the
-- cases and the answers (reply/specs/Answer.antt).
use Rattle.std.specs.Prelude.{List, [], ◌⊎◌, ◌≡◌, ℕ}
use Rattle.order.specs.Paths.{Places}
use Rattle.reply.specs.Answer.{answering, Stops, Case, Answered}
use Rattle.reply.specs.Room.{Holding}
use Rattle.reply.specs.Settles.{Reach, Outcome, accepted, refused, exhausted}
use Rattle.reply.specs.declared.Answer.{Answer}
use Rattle.reply.specs.declared.Reply.TheVariants.{Error}
use Rattle.marks.specs.Later.{Later, RankIn, SettlesIn}
use Rattle.marks.specs.Marks.{path_in, mark_at, Usable}
use Rattle.marks.specs.declared.Mark.{Mark}

-- the mark goes from m to n: to the path shown; to a fresh one; to the path taken last, if one was taken
abbrev pub Sets : Places → Mark → Mark → Outcome → Type 0
Sets g m n (accepted p r s) = n ≡ mark_at p
Sets g m n (refused s) = n ≡ mark_at []
Sets g m n (exhausted s) = ((s ≡ 0) × (n ≡ m)) ⊎ ((p : List ℕ) × Later g (path_in m) p × RankIn (Later g (path_in m)) p s × (n ≡ mark_at p))

-- a search through the paths after the mark m, with budget k: it sets the mark to n, and leaves zeros in the room
pub record TakenUp (g : Places) (w : Reach) (k : ℕ) (m n : Mark) (before after : List ℕ) (a : Answer) : Type 0 where
  pub outcome : Outcome
  pub settled : SettlesIn (Later g (path_in m)) w k outcome
  pub says : a ≡ answering outcome
  pub sets : Sets g m n outcome
  pub clear : Holding g.size [] before after

-- where nothing else stands in the way: the reply is 11 exactly if the mark can't be used
pub data Marked (g : Places) (w : Reach) (k : ℕ) (m n : Mark) (before after : List ℕ) (a : Answer) : Type 0 where
  goes : Usable g m → TakenUp g w k m n before after a → Marked g w k m n before after a
  astray : ¬ Usable g m → Stops 11 before after a → Marked g w k m n before after a

-- in every case: what is answered, and that an error leaves the mark alone
pub record AnsweredAt {A : Type 0} (P : A → Type 0) (c : Case A) (m n : Mark) (before after : List ℕ) (a : Answer) : Type 0 where
  pub answered : Answered P c before after a
  pub kept : (e : ℕ) → a.reply ≡ Error e → n ≡ m
