-- The places that a path and one more use (`used-snoc`), for Levels.antt. `used` is in order/specs/Walk.antt.
use mathlib.Core.Path.{◌≡◌, refl}
use mathlib.Core.Bool.{Bool, true, false, ◌||◌}
use mathlib.Core.List.{List, [], ◌∷◌, ◌++◌}
use Prim.Native.Nat.{ℕ}
use lib.Dec.{eqb}
use Rattle.order.specs.Walk.{used}

or_assoc : (a b c : Bool) → ◌||◌ a (◌||◌ b c) ≡ ◌||◌ (◌||◌ a b) c
or_assoc true b c = refl
or_assoc false b c = refl

or-false : (a : Bool) → ◌||◌ a false ≡ a
or-false true = refl
or-false false = refl

pub used-snoc : (i : ℕ) (p : List ℕ) (x : ℕ) → used i (p ++ (x ∷ [])) ≡ ◌||◌ (used i p) (eqb i x)
used-snoc i [] x = or-false (eqb i x)
used-snoc i (y ∷ p) x = rw (used-snoc i p x) (or_assoc (eqb i y) (used i p) (eqb i x))
