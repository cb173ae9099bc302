-- A search in several calls, each from the mark that the one before has set (docs/unfinished/TAKEN-UP-AGAIN.txt). A reader need not
-- believe this file: it is for the theorem that a budget can be cut into calls (proofs/Cut.antt).
-- What one call answers: Marked.antt.
use Rattle.std.specs.Prelude.{List, [], ◌∷◌, ◌≡◌, ℕ, ◌+◌}
use Rattle.reply.specs.declared.Answer.{Answer}
use Rattle.reply.specs.declared.Reply.{Reply}
use Rattle.reply.specs.declared.Reply.TheVariants as reply
use Rattle.marks.specs.declared.Mark.{Mark}

-- the reply with s steps more; an error has no steps
abbrev pub reply_plus : ℕ → Reply → Reply
reply_plus s (reply.Accepted r t) = reply.Accepted r (s + t)
reply_plus s (reply.Refused t) = reply.Refused (s + t)
reply_plus s (reply.Exhausted t) = reply.Exhausted (s + t)
reply_plus s (reply.Error e) = reply.Error e

-- the answer with s steps more
abbrev pub plus : ℕ → Answer → Answer
plus s a = record { reply = reply_plus s a.reply; path = a.path }

abbrev pub total : List ℕ → ℕ
total [] = 0
total (b ∷ bs) = b + total bs

-- calls with these budgets, where `One k m n before after a` says what a call with budget k answers: each but the last is exhausted, and each
-- goes on from the mark that the one before has set. They take the mark from m to n; the room is that of the last call, and the answer is
-- the last one with the steps of all of them
pub data Calls (One : ℕ → Mark → Mark → List ℕ → List ℕ → Answer → Type 0) : List ℕ → Mark → Mark → List ℕ → List ℕ → Answer → Type 0 where
  once : {b : ℕ} {m n : Mark} {before after : List ℕ} {a : Answer} → One b m n before after a → Calls One (b ∷ []) m n before after a
  more : {b s : ℕ} {bs : List ℕ} {m o n : Mark} {room left before after : List ℕ} {e a : Answer}
      → One b m o room left e → e.reply ≡ reply.Exhausted s → Calls One bs o n before after a → Calls One (b ∷ bs) m n before after (plus s a)
