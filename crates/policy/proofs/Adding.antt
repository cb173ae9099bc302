-- One place more, by cases (`added-counts`, `added_keeps`, `added_stops`), and the roots over a path (`over-there`). How a path stands is
-- how it stood before its last place, and that place added (`standing-more`); its roots are those over it then (`over-more`): these two are
-- for steps/proofs/Levels.antt. Definitions: specs/Standing.antt; that these roots are the policy's: Qualifying.antt.
use Prim.Native.Nat.{ℕ, ◌+◌, ◌<◌}
use mathlib.Core.Bool.{true, false}
use mathlib.Core.List.{List, [], ◌∷◌, ◌++◌}
use mathlib.Core.Path.{◌≡◌, refl}
use borrow.Author.Tests.{lt-ltb}
use lib.ListN.{get_or}
use Rattle.rows.specs.Rows.{has, common}
use Rattle.order.proofs.Simple.{last_snoc}
use Rattle.policy.specs.Standing.{seats_most, counted_at, others_at, roots_at, fresh-standing, begun, over, added, added_all, standing, roots_over}
use Rattle.policy.specs.declared.standing.Standing.{Standing}

module _ (seats : List ℕ) where
  module _ (s : Standing) (i : ℕ) where
    module _ (seat : s.seat < seats_most) where
      pub added-counts : has i (counted_at seats s.seat) ≡ true → record { seat = s.seat + 1 } ≡ added seats s i
      unfolding added
      added-counts c = rw (lt-ltb s.seat seats_most seat, c)

      pub added_keeps : has i (counted_at seats s.seat) ≡ false → has i (others_at seats s.seat) ≡ true → record { seat = s.seat } ≡ added seats s i
      unfolding added
      added_keeps c o = rw (lt-ltb s.seat seats_most seat, c, o)

      pub added_stops : has i (counted_at seats s.seat) ≡ false → has i (others_at seats s.seat) ≡ false → fresh-standing ≡ added seats s i
      unfolding added
      added_stops c o = rw (lt-ltb s.seat seats_most seat, c, o)

  module _ (s : Standing) where
    pub over-there : s.seat < seats_most → roots_at seats s.seat ≡ over seats s
    unfolding over
    over-there h = rw (lt-ltb s.seat seats_most h)

  added-last : (s : Standing) (l : List ℕ) (i : ℕ) → added_all seats s (l ++ i ∷ []) ≡ added seats (added_all seats s l) i
  unfolding added_all
  added-last s [] i = refl
  added-last s (x ∷ l) i = added-last (added seats s x) l i

  pub standing-more : (p : List ℕ) (i : ℕ) → standing seats (p ++ i ∷ []) ≡ added seats (standing seats p) i
  standing-more p i = added-last begun p i

  pub over-more : (issued p : List ℕ) (i : ℕ) → roots_over issued seats (p ++ i ∷ []) ≡ common (over seats (added seats (standing seats p) i)) (get_or issued i 0)
  unfolding roots_over added_all
  over-more issued [] i = refl
  over-more issued (x ∷ l) i = rw (added-last (added seats begun x) l i, last_snoc x l i)
