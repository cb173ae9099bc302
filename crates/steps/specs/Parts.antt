-- What the private functions promise each other: the path of a slot; what is asked of the walk; what waits, by depths; a walk from any
-- stack, and how it ends. A reader need not believe this file: what `search` and `paused` promise is reply/specs/Answer.antt, of the
-- question's places and roots (question/specs/Question.antt).
use Rattle.std.specs.Prelude.{false, not, ◌&&◌, List, [], ◌∷◌, ◌++◌, map, ◌≡◌, ℕ, zero, suc, ◌+◌, ◌^◌, ◌≤◌, ◌<◌, ltb, length, get_or, take, drop}
use Rattle.places.specs.Limits.{bundle_most}
use Rattle.order.specs.Listing.{◌among◌}
use Rattle.order.specs.Paths.{Places, Simple}
use Rattle.order.specs.Walk.{keep, down, used, snoc, pops, top, tops}
use Rattle.policy.specs.Standing.{fresh-standing, added, standing, roots_over}
use Rattle.rows.specs.Rows.{has, joined, left}
use Rattle.steps.specs.declared.walk.Depths.{Depths}
use Rattle.steps.specs.declared.walk.End.{End}
use Rattle.steps.specs.declared.walk.Level.{Level}
use Rattle.reply.specs.Numbers.{saying, shown}
use Rattle.reply.specs.Settles.{Reach, QualifiesBy, Qualifies, Outcome, accepted, refused, exhausted, steps}

-- the path that a slot holds
unfoldable pub path_of : List ℕ → List ℕ
path_of s = take (get_or s 0 0) (drop 1 s)

-- ---- what is asked of the walk

-- a path qualifies by root r: as it stands r may stand above it, and r issued its last place
abbrev pub roots_seated : List ℕ → List ℕ → Reach
roots_seated issued seats = record { count = 64; good = λ p r. has r (roots_over issued seats p) }

-- ---- what waits, by depths

-- p extended by each place below n of a row, the largest first
unfoldable pub offered : ℕ → ℕ → List ℕ → List (List ℕ)
offered n row p = map (snoc p) (keep (λ i. has i row) (down n))

-- the level at depth k
abbrev pub level_at : List Level → ℕ → Level
level_at levels k = get_or levels k (record { ahead = 0; free = 0; standing = fresh-standing })

-- what waits at the first d depths, the deepest first: at depth k the first k places, extended by those ahead there
unfoldable pub waiting : ℕ → List Level → List ℕ → ℕ → List (List ℕ)
waiting n levels place zero = []
waiting n levels place (suc d) = offered n (level_at levels d).ahead (take d place) ++ waiting n levels place d

-- at the depth after p: no place from n on is ahead, and what is ahead fits its 64 bits, so that it has a highest place where it is not 0;
-- those below n that p does not use are free, and the level has how p stands
pub record LevelAfter (n : ℕ) (seats p : List ℕ) (l : Level) : Type 0 where
  pub within : (j : ℕ) → n ≤ j → has j l.ahead ≡ false
  pub fits : l.ahead < 2 ^ 64
  pub unused : (j : ℕ) → has j l.free ≡ ltb j n && not (used j p)
  pub stands : l.standing ≡ standing seats p

-- the stack that a walk's state stands for
abbrev pub stack_of : ℕ → Depths → List (List ℕ)
stack_of n s = waiting n s.levels s.place (s.depth + 1)

-- a state from which a walk can go on
pub record Ready (g : Places) (seats : List ℕ) (s : Depths) : Type 0 where
  pub long : length s.levels ≡ bundle_most
  pub deep : s.depth < bundle_most
  pub each : (k : ℕ) → k ≤ s.depth → LevelAfter g.size seats (take k s.place) (level_at s.levels k)
  pub simple : (p : List ℕ) → p among stack_of g.size s → Simple g p

-- the level after one, where the path goes on by place i, and may then go on by the next places
unfoldable pub onward : List ℕ → Level → ℕ → ℕ → Level
onward seats l i next = record { ahead = next; free = left l.free (joined 0 i); standing = added seats l.standing i }

-- ---- a walk from any stack

-- k steps from the stack st take k paths, none of which qualifies
pub record Vain (g : Places) (w : Reach) (st : List (List ℕ)) (k : ℕ) : Type 0 where
  pub all : length (tops g k st) ≡ k
  pub none : (q : List ℕ) → q among tops g k st → ¬ Qualifies w q

-- how a walk from the stack st with a budget of k ends: the steps before the last are in vain, and what the last one meets
abbrev pub Ends : Places → Reach → ℕ → List (List ℕ) → Outcome → Type 0
Ends g w k st (accepted p r s) = (j : ℕ) × (s ≡ suc j) × (s ≤ k) × Vain g w st j × (top (pops g j st) ≡ p ∷ []) × QualifiesBy w p r × ((i : ℕ) → QualifiesBy w p i → r ≤ i)
Ends g w k st (refused s) = (s ≤ k) × Vain g w st s × (pops g s st ≡ [])
Ends g w k st (exhausted s) = (s ≡ k) × Vain g w st s × ((p : List ℕ) × (top (pops g s st) ≡ p ∷ []))

-- where a walk from the stack st stopped, with an outcome as P says: what it tells, the path beside it, and what waits
pub record Stopped (g : Places) (P : Outcome → Type 0) (st : List (List ℕ)) (e : End) : Type 0 where
  pub outcome : Outcome
  pub ends : P outcome
  pub says : e.reply ≡ saying outcome
  pub short : e.len ≤ bundle_most
  pub long : length e.place ≡ bundle_most
  pub shows : take e.len e.place ≡ shown outcome
  pub few : e.depths ≤ bundle_most
  pub left : waiting g.size e.levels e.place e.depths ≡ pops g (steps outcome) st
