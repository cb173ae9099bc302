-- A search through some of the simple paths, those after a mark (docs/unfinished/TAKEN-UP-AGAIN.txt): which they are, a path's rank among
-- them and their number; then when a search through them is accepted, refused or exhausted, as reply/specs/Settles.antt has it of all
-- simple paths.
-- Not here: that through all simple paths it is the same, and that one outcome settles each (proofs/).
use Rattle.std.specs.Prelude.{List, ◌≡◌, ℕ, suc, ◌≤◌, ◌<◌, length}
use Rattle.order.specs.Listing.{Lists}
use Rattle.order.specs.Paths.{Places, Simple, Before}
use Rattle.reply.specs.Settles.{Reach, QualifiesBy, Qualifies, Outcome, accepted, refused, exhausted}

-- p is a simple path after m; after [], where a fresh mark is, come all of them
abbrev pub Later : Places → List ℕ → List ℕ → Type 0
Later g m p = Simple g p × Before m p

-- ---- among the paths of which P holds

-- r is p's rank, from 1
abbrev pub RankIn : (List ℕ → Type 0) → List ℕ → ℕ → Type 0
RankIn P p r = (qs : List (List ℕ)) × Lists Before (λ q. P q × Before q p) qs × (r ≡ suc (length qs))

-- c is their number
abbrev pub CountIn : (List ℕ → Type 0) → ℕ → Type 0
CountIn P c = (ps : List (List ℕ)) × Lists Before P ps × (c ≡ length ps)

-- p is the first that qualifies, r its lowest root, and s its rank, which the budget k covers
pub record AcceptedIn (P : List ℕ → Type 0) (w : Reach) (k : ℕ) (p : List ℕ) (r s : ℕ) : Type 0 where
  pub there : P p
  pub qualifies : QualifiesBy w p r
  pub lowest : (i : ℕ) → QualifiesBy w p i → r ≤ i
  pub first : (q : List ℕ) → P q → Before q p → ¬ Qualifies w q
  pub rank : RankIn P p s
  pub covered : s ≤ k

-- none qualifies, and the budget k covers all s of them
pub record RefusedIn (P : List ℕ → Type 0) (w : Reach) (k s : ℕ) : Type 0 where
  pub none : (q : List ℕ) → P q → ¬ Qualifies w q
  pub all : CountIn P s
  pub covered : s ≤ k

-- the budget k does not cover all of them, and none that it covers qualifies
pub record ExhaustedIn (P : List ℕ → Type 0) (w : Reach) (k s : ℕ) : Type 0 where
  pub spent : s ≡ k
  pub more : (c : ℕ) × CountIn P c × (k < c)
  pub none : (q : List ℕ) (i : ℕ) → P q → RankIn P q i → i ≤ k → ¬ Qualifies w q

-- the outcome of a search through them with budget k
abbrev pub SettlesIn : (List ℕ → Type 0) → Reach → ℕ → Outcome → Type 0
SettlesIn P w k (accepted p r s) = AcceptedIn P w k p r s
SettlesIn P w k (refused s) = RefusedIn P w k s
SettlesIn P w k (exhausted s) = ExhaustedIn P w k s
