-- Verdict's quantifiers over the places of a row, given by our definitions (text/specs/Each.antt): `exists` (`any_at`) and `forall`
-- (`all-each`). Its `forall` over two rows is in same/proofs/Upstream.antt.
use Prim.Native.Nat.{ℕ, zero, suc, ◌<◌}
use mathlib.Core.Path.{◌≡◌, refl}
use mathlib.Core.Bool.{Bool, true, false, ◌||◌, false≢true, or-true}
use mathlib.Core.List.{List, [], ◌∷◌}
use mathlib.Core.Logic.Iff
use mathlib.Core.Logic.{◌↔◌}
use native.Mathlib.Omega.{arith}
use lib.ListN.{length, get_or}
use borrow.Author.Count.{below_none}
use Rattle.text.specs.Each.{any, all}
use Rattle.text.proofs.Each.{both_true, each_more}

-- what stands past a row's end is d
module _ {A : Type 0} (d : A) where
  pub all-each : (q : A → Bool) (l : List A) → (all q l ≡ true) ↔ ((i : ℕ) → i < length l → q (get_or l i d) ≡ true)
  all-each q [] = (λ _. below_none (λ i. q (get_or [] i d) ≡ true), λ _. refl)
  all-each q (x ∷ l) =
      Iff.trans (both_true (q x) (all q l))
      (Iff.trans (Iff.and Iff.rfl (all-each q l)) (each_more (λ i. q (get_or (x ∷ l) i d) ≡ true) (length l)))

  -- a place where q holds
  pub record At (q : A → Bool) (l : List A) : Type 0 where
    pub place : ℕ
    pub within : place < length l
    pub holds : q (get_or l place d) ≡ true

  pub any_at : (q : A → Bool) (l : List A) → (any q l ≡ true) ↔ At q l
  any_at q [] = (λ e. absurd (false≢true e), λ h. absurd (omega (arith, h.within)))
  any_at q (x ∷ l) = (found (any_at q l).0 (q x) refl, λ h. back (any_at q l).1 h.place h.within h.holds) where
    found : (any q l ≡ true → At q l) → (t : Bool) → q x ≡ t → t || any q l ≡ true → At q (x ∷ l)
    found rest true e h = record { place = 0; within = omega arith; holds = e }
    found rest false e h = let r = rest h in record { place = suc r.place; within = omega (arith, r.within); holds = r.holds }

    back : (At q l → any q l ≡ true) → (i : ℕ) → i < suc (length l) → q (get_or (x ∷ l) i d) ≡ true → q x || any q l ≡ true
    back rest zero h e = rw e
    back rest (suc i) h e = rw (rest (record { place = i; within = omega arith; holds = e })) (or-true (q x))
