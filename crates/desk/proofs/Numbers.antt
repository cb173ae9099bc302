-- A path's places turned into bytes, one after the other: a turn of the loop of `numbers_of` (`number_more`). Definition: specs/Plain.antt.
use mathlib.Core.Path.{◌≡◌, refl, ap}
use mathlib.Core.List.{List, [], ◌∷◌, ◌++◌}
use Prim.Native.Nat.{ℕ, zero, suc, ◌+◌, ◌<◌}
use native.Mathlib.Nat.{le_of_suc-le-suc, not-suc-le-zero}
use native.Mathlib.Numerals.{add-one}
use lib.ListN.{length, take, drop, get_or, set}
use Rattle.places.specs.declared.BundlePlace.{BundlePlace}
use Rattle.desk.specs.Plain.{numbers}

number_suc : (ps : List BundlePlace) (d : List ℕ) (i : ℕ) (z : BundlePlace) → i < length ps → i < length d
    → set (take i (numbers ps) ++ drop i d) i (get_or ps i z).0 ≡ take (suc i) (numbers ps) ++ drop (suc i) d
number_suc [] d i z h k = absurd (not-suc-le-zero h)
number_suc (p ∷ ps) [] i z h k = absurd (not-suc-le-zero k)
number_suc (p ∷ ps) (y ∷ ys) zero z h k = refl
number_suc (p ∷ ps) (y ∷ ys) (suc i) z h k = ap (λ (l : List ℕ). p.0 ∷ l) (number_suc ps ys i z (le_of_suc-le-suc h) (le_of_suc-le-suc k))

-- one place more is turned
pub number_more : (ps : List BundlePlace) (d : List ℕ) (j : ℕ) (z : BundlePlace) → j < length ps → j < length d
    → set (take j (numbers ps) ++ drop j d) j (get_or ps j z).0 ≡ take (j + 1) (numbers ps) ++ drop (j + 1) d
number_more ps d j z h k = rw add-one (number_suc ps d j z h k)
