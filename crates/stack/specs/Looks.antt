-- A path looked at: the contracts of src/look.rt. A reader need not believe this file: what `search_records` and `paused_records` promise is
-- search/specs/Search.antt.
use Rattle.std.specs.Prelude.{Option, None, Some, not, ◌&&◌, List, ◌≡◌, ℕ, ◌≤◌, ltb}
use Rattle.order.specs.Paths.{Places, last}
use Rattle.order.specs.Walk.{used}
use Rattle.places.specs.declared.RootPlace.{RootPlace}
use Rattle.policy.specs.Standing.{standing}
use Rattle.policy.specs.declared.ground.Ground.{Ground}
use Rattle.policy.specs.declared.standing.Standing.{Standing}
use Rattle.question.specs.Question.{places_by}
use Rattle.reply.specs.Settles.{Reach, QualifiesBy, Qualifies}
use Rattle.rows.specs.Rows.{has}
use Rattle.steps.specs.Parts.{roots_seated}

-- what a search among n certificates goes by: who issued whom, and which roots a path reaches
abbrev pub places_on : Ground → ℕ → Places
places_on g n = places_by g.rows.now n

abbrev pub reach_on : Ground → Reach
reach_on g = roots_seated g.roots.now g.seats.now

-- the last place of p, the places below n that it does not use, and how it stands
pub record Looked (n : ℕ) (seats p : List ℕ) (end free : ℕ) (stood : Standing) : Type 0 where
  pub ends : end ≡ last 0 p
  pub unused : (j : ℕ) → has j free ≡ ltb j n && not (used j p)
  pub stands : stood ≡ standing seats p

-- the lowest root that p reaches, where it reaches one
abbrev pub FirstRoot : Reach → List ℕ → Option RootPlace → Type 0
FirstRoot w p None = ¬ Qualifies w p
FirstRoot w p (Some r) = QualifiesBy w p r.0 × ((i : ℕ) → QualifiesBy w p i → r.0 ≤ i)
