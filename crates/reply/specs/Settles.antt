-- What the search replies (docs/CARD-FILE.md, "The search"): when a path qualifies by a root; when a search is accepted, refused or
-- exhausted; then the outcomes and their steps. A reader must believe this file (docs/MAP.md).
-- Not here: paths, their order and rank (order/specs/Paths.antt); which roots a file's paths reach (question/specs/Asked.antt); that one
-- outcome settles each search (`settles` of proofs/Exists.antt, `settles_unique` of proofs/Unique.antt).
use Rattle.std.specs.Prelude.{Bool, true, List, ◌≡◌, ℕ, ◌≤◌, ◌<◌}
use Rattle.order.specs.Paths.{Places, Simple, Before, Rank, Count}

-- how many roots there are, and which of them a path reaches under the policy: `good p r` says that the path p reaches root r
pub record Reach : Type 0 where
  pub count : ℕ
  pub good : List ℕ → ℕ → Bool

abbrev pub QualifiesBy : Reach → List ℕ → ℕ → Type 0
QualifiesBy w p r = (r < w.count) × (w.good p r ≡ true)

abbrev pub Qualifies : Reach → List ℕ → Type 0
Qualifies w p = (r : ℕ) × QualifiesBy w p r

-- p is the first path that qualifies, r its lowest root, and s its rank, which the budget k covers
pub record Accepted (g : Places) (w : Reach) (k : ℕ) (p : List ℕ) (r s : ℕ) : Type 0 where
  pub simple : Simple g p
  pub qualifies : QualifiesBy w p r
  pub lowest : (i : ℕ) → QualifiesBy w p i → r ≤ i
  pub first : (q : List ℕ) → Simple g q → Before q p → ¬ Qualifies w q
  pub rank : Rank g p s
  pub covered : s ≤ k

-- no path qualifies, and the budget k covers all s of them
pub record Refused (g : Places) (w : Reach) (k s : ℕ) : Type 0 where
  pub none : (q : List ℕ) → Simple g q → ¬ Qualifies w q
  pub all : Count g s
  pub covered : s ≤ k

-- the budget k does not cover all paths, and none that it covers qualifies
pub record Exhausted (g : Places) (w : Reach) (k s : ℕ) : Type 0 where
  pub spent : s ≡ k
  pub more : (c : ℕ) × Count g c × (k < c)
  pub none : (q : List ℕ) (i : ℕ) → Simple g q → Rank g q i → i ≤ k → ¬ Qualifies w q

pub data Outcome : Type 0 where
  accepted : List ℕ → ℕ → ℕ → Outcome
  refused : ℕ → Outcome
  exhausted : ℕ → Outcome

-- the outcome of a search with budget k
abbrev pub Settles : Places → Reach → ℕ → Outcome → Type 0
Settles g w k (accepted p r s) = Accepted g w k p r s
Settles g w k (refused s) = Refused g w k s
Settles g w k (exhausted s) = Exhausted g w k s

abbrev pub steps : Outcome → ℕ
steps (accepted p r s) = s
steps (refused s) = s
steps (exhausted s) = s
