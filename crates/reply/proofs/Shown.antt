-- A path as it is handed out, place by place: `place-more`, `path_shown_lem` for the loop of `Path::of`; `take-few` for the line of report.
-- What is handed out: `path_shown` of specs/Answer.antt.
use mathlib.Core.Bool.{Bool, true, false}
use mathlib.Core.Path.{◌≡◌, refl, sym, ap, ◌∙◌}
use mathlib.Core.List.{List, [], ◌∷◌, ◌++◌, map}
use Prim.Native.Nat.{ℕ, zero, suc, ◌+◌, ◌-◌, ◌≤◌, ◌<◌, min}
use native.Mathlib.Nat.{le_of_suc-le-suc, not-suc-le-zero, sub-zero, suc-sub-suc, min-eq_left, min-eq_right}
use native.Mathlib.Numerals.{add-one}
use native.Mathlib.Omega.{arith}
use borrow.Author.Tests.{ltb-true, ltb-false}
use lib.Dec.{ltb}
use lib.ListN.{length, take, drop, get_or, set, replicate}
use lib.Seq.{length-take-le, take_all}
use Rattle.places.specs.Limits.{bundle_most}
use Rattle.places.specs.declared.BundlePlace.{BundlePlace}
use Rattle.reply.specs.Answer.{path_shown}
use Rattle.reply.specs.Numbers.{placed}
use Rattle.reply.specs.Slots.{padded}

place_suc : (src : List ℕ) (dst : List BundlePlace) (i : ℕ) → i < length src → i < length dst
    → set (map placed (take i src) ++ drop i dst) i (placed (get_or src i 0)) ≡ map placed (take (suc i) src) ++ drop (suc i) dst
place_suc [] dst i h k = absurd (not-suc-le-zero h)
place_suc (x ∷ xs) [] i h k = absurd (not-suc-le-zero k)
place_suc (x ∷ xs) (y ∷ ys) zero h k = refl
place_suc (x ∷ xs) (y ∷ ys) (suc i) h k = ap (λ (l : List BundlePlace). placed x ∷ l) (place_suc xs ys i (le_of_suc-le-suc h) (le_of_suc-le-suc k))

-- one place more is handed out
pub place-more : (src : List ℕ) (dst : List BundlePlace) (j : ℕ) → j < length src → j < length dst
    → set (map placed (take j src) ++ drop j dst) j (placed (get_or src j 0)) ≡ map placed (take (j + 1) src) ++ drop (j + 1) dst
place-more src dst j h k = rw (add-one j) (place_suc src dst j h k)

zeros-after : (j n : ℕ) → drop j (replicate n (placed 0)) ≡ map placed (replicate (n - j) 0)
zeros-after zero zero = refl
zeros-after zero (suc n) = rw sub-zero (ap (λ (l : List BundlePlace). placed 0 ∷ l) (rw sub-zero at (zeros-after zero n)))
zeros-after (suc j) zero = let z : 0 - suc j ≡ 0 = omega arith in rw z
zeros-after (suc j) (suc n) = rw suc-sub-suc (zeros-after j n)

map_both : (a b : List ℕ) → map placed a ++ map placed b ≡ map placed (a ++ b)
map_both [] b = refl
map_both (x ∷ a) b = ap (λ (l : List BundlePlace). placed x ∷ l) (map_both a b)

-- all are handed out
pub path_shown_lem : (src : List ℕ) (len : ℕ) (places : List BundlePlace) → len ≤ length src
    → places ≡ map placed (take len src) ++ drop len (replicate bundle_most (placed 0)) → record { length = len; places = places } ≡ path_shown (take len src)
unfolding path_shown padded
path_shown_lem src len places h e =
    let l : length (take len src) ≡ len = length-take-le len src h in
    rw l (ap (λ (ps : List BundlePlace). record { length = len; places = ps })
    (e ∙ ap (λ (z : List BundlePlace). map placed (take len src) ++ z) (zeros-after len bundle_most) ∙ map_both (take len src) (replicate (bundle_most - len) 0)))

-- of n things no more than n can be taken
pub take-few : {A : Type 0} (n : ℕ) (k : ℕ) (l : List A) → length l ≡ n → take (min k n) l ≡ take k l
take-few n k l h = by_size (ltb k n) refl
  where
    by_size : (b : Bool) → ltb k n ≡ b → take (min k n) l ≡ take k l
    by_size true e = let i : k < n = ltb-true k n e in rw (min-eq_left {n = k} {m = n} (omega arith))
    by_size false e =
        let i : n ≤ k = ltb-false k n e in
        rw (min-eq_right {n = n} {m = k} i) (take_all n l (omega arith) ∙ sym (take_all k l (omega arith)))
