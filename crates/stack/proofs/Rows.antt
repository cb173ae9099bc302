-- The children that a row offers: the lowest is the last of them (`children-lowest`), a row without one has none (`children-none`), and
-- there are none past the row's places (`offered_wide`). For `spread` and `look`; the children: `offered` of steps/specs/Parts.antt, with
-- its laws in steps/proofs/Levels.antt.
use mathlib.Core.Bool.{Bool, true, false, not, ◌&&◌}
use mathlib.Core.List.{List, [], ◌∷◌, ◌++◌, map}
use mathlib.Core.Path.{◌≡◌, refl, ap, ◌∙◌}
use Prim.Native.Nat.{ℕ, zero, suc, ◌≤◌, ◌<◌}
use native.Mathlib.Omega.{arith}
use borrow.Author.Tests.{eqb-true, eqb-false, ltb-true, ltb-false}
use lib.Dec.{eqb, ltb}
use Rattle.order.specs.Walk.{put, keep, down, snoc}
use Rattle.rows.specs.Rows.{has, joined, left, lowest}
use Rattle.rows.proofs.Places.{has_dropped, lowest_least}
use Rattle.rows.proofs.Taking.{lowest-there}
use Rattle.steps.specs.Parts.{offered}
use Rattle.steps.proofs.Levels.{and_yes, and_no}
use Rattle.stack.specs.Stacked.{children}

keep-none : (f : ℕ → Bool) (n : ℕ) → ((j : ℕ) → j < n → f j ≡ false) → keep f (down n) ≡ []
keep-none f zero h = refl
keep-none f (suc n) h = rw (h n (omega arith)) (keep-none f n (λ j l. h j (omega arith)))

offered_low : (n row i : ℕ) (p : List ℕ) → has i row ≡ true → ((j : ℕ) → j < i → has j row ≡ false) → i < 64 → i < n
    → offered n row p ≡ offered n (left row (joined 0 i)) p ++ (snoc p i ∷ [])
unfolding offered
offered_low zero row i p y under w l = absurd (omega arith)
offered_low (suc n) row i p y under w l = go (eqb n i) refl (λ k. offered_low n row i p y under w k)
  where
    dropped : (j : ℕ) → has j (left row (joined 0 i)) ≡ has j row && not (eqb j i)
    dropped = has_dropped row i w

    more : (b : Bool) (xs ys : List ℕ) → map (snoc p) xs ≡ map (snoc p) ys ++ (snoc p i ∷ [])
        → map (snoc p) (put b n xs) ≡ map (snoc p) (put b n ys) ++ (snoc p i ∷ [])
    more true xs ys e = ap (λ (r : List (List ℕ)). snoc p n ∷ r) e
    more false xs ys e = e

    go : (t : Bool) → eqb n i ≡ t → (i < n → offered n row p ≡ offered n (left row (joined 0 i)) p ++ (snoc p i ∷ []))
        → map (snoc p) (put (has n row) n (keep (λ j. has j row) (down n)))
        ≡ map (snoc p) (put (has n (left row (joined 0 i))) n (keep (λ j. has j (left row (joined 0 i))) (down n))) ++ (snoc p i ∷ [])
    go true q ih =
        let e : n ≡ i = eqb-true n i q in
        let yes : has n row ≡ true = rw e y in
        let off : has n (left row (joined 0 i)) ≡ false = dropped n ∙ rw q (and_no (has n row)) in
        let none : (j : ℕ) → j < n → has j row ≡ false = λ j h. under j (omega arith) in
        let gone : (j : ℕ) → j < n → has j (left row (joined 0 i)) ≡ false = λ j h. dropped j ∙ rw (none j h) in
        rw (yes, off, keep-none (λ j. has j row) n none, keep-none (λ j. has j (left row (joined 0 i))) n gone, e)
    go false q ih =
        let ne : n ≡ i → ⊥ = eqb-false n i q in
        let same : has n (left row (joined 0 i)) ≡ has n row = dropped n ∙ rw q (and_yes (has n row)) in
        rw same (more (has n row) (keep (λ j. has j row) (down n)) (keep (λ j. has j (left row (joined 0 i))) (down n)) (ih (omega (arith, ne))))

module _ (row : ℕ) (p : List ℕ) where
  pub children-lowest : (i : ℕ) → i ≡ lowest row → i < 64 → children row p ≡ children (left row (joined 0 i)) p ++ (snoc p i ∷ [])
  children-lowest i first place =
      offered_low 64 row i p (lowest-there row i first place) (λ j h. (lowest_least row).below j (omega arith) (omega arith)) place place

  -- a row with no lowest place has no children
  pub children-none : 64 ≤ lowest row → children row p ≡ []
  unfolding offered
  children-none h = ap (map (snoc p)) (keep-none (λ j. has j row) 64 (λ j k. (lowest_least row).below j (omega arith) (omega arith)))

-- a row with no place from n on has no children from n on
pub offered_wide : (m n row : ℕ) (p : List ℕ) → n ≤ m → ((j : ℕ) → n ≤ j → has j row ≡ false) → offered m row p ≡ offered n row p
unfolding offered
offered_wide zero n row p h none = let z : n ≡ 0 = omega arith in rw z refl
offered_wide (suc m) n row p h none = go (ltb m n) refl (λ le. offered_wide m n row p le none)
  where
    go : (t : Bool) → ltb m n ≡ t → (n ≤ m → offered m row p ≡ offered n row p) → offered (suc m) row p ≡ offered n row p
    go true e ih = let z : n ≡ suc m = omega (arith, ltb-true m n e) in rw z refl
    go false e ih = let le : n ≤ m = ltb-false m n e in rw (none m le) (ih le)
