-- How a path stands under the policy, by the seats: begun before the leaf, and one place added at a time; then the roots over a path. Those
-- are the roots by which it qualifies (`roots_qualify` of proofs/Qualifying.antt), so that a search needs to know no rule. How the seats
-- are filled: Filling.antt; what was judged: Sound.antt.
use Rattle.std.specs.Prelude.{ℕ, ◌+◌, ◌*◌, ◌<◌, cond, ◌&&◌, List, [], ◌∷◌, ◌≡◌, leb, ltb, get_or}
use Rattle.places.specs.Limits.{roots_most, bundle_most}
use Rattle.rows.specs.Rows.{has, common, left, below}
use Rattle.order.specs.Paths.{last}
use Rattle.policy.specs.Judging.{stands}
use Rattle.policy.specs.declared.judged.Judged.{Judged}
use Rattle.policy.specs.declared.standing.Standing.{Standing}

-- ---- the seats: seat 0 is none, seat 1 is before the leaf, and seat n + 2 is above the leaf and n certificates that count

abbrev pub seats_most : ℕ
seats_most = bundle_most + 2

-- the roots that may stand above
abbrev pub roots_at : List ℕ → ℕ → ℕ
roots_at seats k = get_or seats k 0

-- the places that may come next and count; before the leaf those that may be the leaf
abbrev pub counted_at : List ℕ → ℕ → ℕ
counted_at seats k = get_or seats (seats_most + k) 0

-- the places that may come next and don't count
abbrev pub others_at : List ℕ → ℕ → ℕ
others_at seats k = get_or seats (2 * seats_most + k) 0

-- the places between leaf and root
abbrev pub places_between : Judged → ℕ
places_between j = common j.between.sound (below bundle_most)

-- at seat k no root may stand above, and no place may come next that does not count
pub record Bare (seats : List ℕ) (k : ℕ) : Type 0 where
  pub roots : roots_at seats k ≡ 0
  pub others : others_at seats k ≡ 0

-- the seats are those of what was judged, for paths of no more than so many places after the leaf
pub record Seated (j : Judged) (after : ℕ) (seats : List ℕ) : Type 0 where
  pub none : counted_at seats 0 ≡ 0
  pub leaves : counted_at seats 1 ≡ j.leaves
  pub bare : (k : ℕ) → k < 2 → Bare seats k
  pub places : (n i : ℕ) → n < bundle_most → has i (counted_at seats (n + 2)) ≡ leb n after && stands (common (places_between j) j.counted) j.between.limits n i
  pub others : (n i : ℕ) → n < bundle_most → has i (others_at seats (n + 2)) ≡ leb n after && stands (left (places_between j) j.counted) j.between.limits n i
  pub roots : (n r : ℕ) → n < bundle_most → has r (roots_at seats (n + 2)) ≡ leb n after && stands (common j.above.sound (below roots_most)) j.above.limits n r

-- ---- how a path stands: its seat

-- the standing of no path: nothing may come next, and no root may stand above
abbrev pub fresh-standing : Standing
fresh-standing = record { seat = 0 }

-- before the leaf
abbrev pub begun : Standing
begun = record { seat = 1 }

-- a path that stood so and goes on by place i: that of no path if i may not stand there
unfoldable pub added : List ℕ → Standing → ℕ → Standing
added seats s i =
    cond (ltb s.seat seats_most)
    (cond (has i (counted_at seats s.seat)) (record { seat = s.seat + 1 })
    (cond (has i (others_at seats s.seat)) s fresh-standing))
    fresh-standing

-- a path that stood so and goes on by these places
unfoldable pub added_all : List ℕ → Standing → List ℕ → Standing
added_all seats s [] = s
added_all seats s (i ∷ l) = added_all seats (added seats s i) l

-- a path, from the leaf on
abbrev pub standing : List ℕ → List ℕ → Standing
standing seats p = added_all seats begun p

-- ---- the roots over a path

-- those that may stand above a path that stands so
unfoldable pub over : List ℕ → Standing → ℕ
over seats s = cond (ltb s.seat seats_most) (roots_at seats s.seat) 0

-- those that may stand above a path and issued its last place
unfoldable pub roots_over : List ℕ → List ℕ → List ℕ → ℕ
roots_over issued seats [] = 0
roots_over issued seats (p ∷ l) = common (over seats (standing seats (p ∷ l))) (get_or issued (last p l) 0)
