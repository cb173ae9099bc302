-- The lowest place that passes a test, in words: `seek_least`. For the lowest place of a row (rows/proofs/Places.antt) and the lowest root
-- of a path (reply/proofs/Least.antt). `seek` stands in specs/Lowest.antt.
use Prim.Native.Nat.{ℕ, zero, suc, ◌+◌, ◌≤◌, ◌<◌}
use mathlib.Core.Bool.{Bool, true, false, cond}
use mathlib.Core.Logic.{⊎_elim}
use mathlib.Core.Path.{◌≡◌, refl, sym, ap, ◌∙◌}
use native.Mathlib.Nat.{eq-or-lt_of_le}
use native.Mathlib.Omega.{arith}
use Rattle.places.specs.Lowest.{seek}

-- r is the first number from a on, of n, that passes a test, or the one past them where none does
pub record Least (test : ℕ → Bool) (a n r : ℕ) : Type 0 where
  pub from : a ≤ r
  pub within : r ≤ a + n
  pub below : (i : ℕ) → a ≤ i → i < r → test i ≡ false
  pub passes : r < a + n → test r ≡ true

module _ (test : ℕ → Bool) where
  pub seek_least : (a n : ℕ) → Least test a n (seek test a n)
  unfolding seek
  seek_least a zero = record { from = omega arith; within = omega arith; below = λ i h k. absurd (omega arith); passes = λ h. absurd (omega arith) }
  seek_least a (suc n) = go (test a) refl (seek test (a + 1) n) (seek_least (a + 1) n)
    where
      go : (b : Bool) → test a ≡ b → (r : ℕ) → Least test (a + 1) n r → Least test a (suc n) (cond b a r)
      go true e r l = record { from = omega arith; within = omega arith; below = λ i h k. absurd (omega arith); passes = λ h. e }
      go false e r l = record { from = omega arith; within = omega arith; below = below; passes = λ h. l.passes (omega arith) }
        where
          below : (i : ℕ) → a ≤ i → i < r → test i ≡ false
          below i h k = ⊎_elim (λ q. ap test (sym q) ∙ e) (λ p. l.below i (omega arith) k) (eq-or-lt_of_le h)
