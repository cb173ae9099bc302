-- Where a search over a stack of records stands between two steps, where it is over, and what is then left. A reader need not believe this
-- file: what `search_records` and `paused_records` promise is search/specs/Search.antt. What waits: order/specs/Walk.antt; how a search
-- ends: steps/specs/Parts.antt; paths in records: Stacked.antt.
use Rattle.std.specs.Prelude.{cond, List, [], ◌∷◌, ◌≡◌, ℕ, ◌≤◌, length, take, drop}
use Rattle.places.specs.Limits.{bundle_most}
use Rattle.order.specs.Paths.{Places}
use Rattle.order.specs.Slots.{slots_of}
use Rattle.order.specs.Walk.{stack}
use Rattle.policy.specs.declared.ground.Ground.{Ground}
use Rattle.question.specs.Question.{places_by}
use Rattle.reply.specs.Answer.{path_shown, answering}
use Rattle.reply.specs.Settles.{Reach, Outcome, steps}
use Rattle.reply.specs.declared.Answer.{Answer}
use Rattle.reply.specs.declared.Reply.{Reply}
use Rattle.reply.specs.declared.path.Path.{Path}
use Rattle.steps.specs.Parts.{roots_seated, Vain, Ends}
use Rattle.stack.specs.Stacked.{stacked, held_in}
use Rattle.stack.specs.declared.begin.Terms.{Terms}
use Rattle.stack.specs.declared.drive.End.{End}

-- what a search goes by, the records that were lent, and what is asked
pub record Lent : Type 0 where
  pub rows : List ℕ
  pub roots : List ℕ
  pub seats : List ℕ
  pub before : List Path
  pub terms : Terms

abbrev pub lent : Ground → List Path → Terms → Lent
lent g before terms = record { rows = g.rows.now; roots = g.roots.now; seats = g.seats.now; before = before; terms = terms }

abbrev pub places_at : Lent → Places
places_at t = places_by t.rows t.terms.size

abbrev pub reach_at : Lent → Reach
reach_at t = roots_seated t.roots t.seats

-- what waits after k steps
abbrev pub waits : Lent → ℕ → List (List ℕ)
waits t k = stack (places_at t) k

-- there is a certificate, there are no more than a bundle can have, and so many records are enough
pub record Fair (terms : Terms) (records : ℕ) : Type 0 where
  pub some : 1 ≤ terms.size
  pub few : terms.size ≤ bundle_most
  pub room : slots_of terms.size ≤ records

-- the first m records hold the paths vs, and those past the needed ones are as they were
pub record Holds (t : Lent) (vs : List (List ℕ)) (m : ℕ) (l : List Path) : Type 0 where
  pub many : m ≡ length vs
  pub long : length l ≡ length t.before
  pub paths : take m l ≡ stacked vs
  pub rest : drop (slots_of t.terms.size) l ≡ drop (slots_of t.terms.size) t.before

-- k steps were in vain, and the first m records hold what waits
pub record Stands (t : Lent) (k m : ℕ) (l : List Path) : Type 0 where
  pub vain : Vain (places_at t) (reach_at t) ((0 ∷ []) ∷ []) k
  pub time : k ≤ t.terms.budget
  pub holds : Holds t (waits t k) m l

-- the search is over: its answer is known, and the records hold what waits
pub record Over (t : Lent) (e : End) (l : List Path) : Type 0 where
  pub outcome : Outcome
  pub ends : Ends (places_at t) (reach_at t) t.terms.budget ((0 ∷ []) ∷ []) outcome
  pub says : e.answer ≡ answering outcome
  pub holds : Holds t (waits t (steps outcome)) e.waiting l

-- the same, and what stays lies in the needed records
pub record Rested (t : Lent) (a : Answer) (l : List Path) : Type 0 where
  pub outcome : Outcome
  pub ends : Ends (places_at t) (reach_at t) t.terms.budget ((0 ∷ []) ∷ []) outcome
  pub says : a ≡ answering outcome
  pub held : l ≡ held_in t.terms.size (cond t.terms.leaves (waits t (steps outcome)) []) t.before

-- an answer with no path
abbrev pub pathless : Reply → Answer
pathless reply = record { reply = reply; path = path_shown [] }
