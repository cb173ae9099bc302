-- `Before` is what the paper says in words (`before-is`), and a strict total order (`irrefl`, `trans`, `total`). It is defined in
-- specs/Paths.antt; that the simple paths have one listing in it: Tree.antt.
use mathlib.Core.List.{List, [], ◌∷◌, ◌++◌}
use mathlib.Core.Logic.{◌↔◌, ◌≢◌, ◌⊎◌, inl, inr, ⊎_elim}
use mathlib.Core.Path.{◌≡◌, refl, sym, ap, ◌∙◌}
use Prim.Native.Nat.{ℕ, zero, suc, ◌<◌}
use native.Mathlib.Nat.{lt_irrefl}
use native.Mathlib.Omega.{arith}
use Rattle.order.specs.Paths.{Before}

-- ---- in words

-- a path is before what goes on from it
pub longer : (p : List ℕ) (i : ℕ) (s : List ℕ) → Before p (p ++ i ∷ s)
longer [] i s = tt
longer (x ∷ p) i s = inr (refl, longer p i s)

-- where two go on from p by different places, the larger place is first
pub fork : (p : List ℕ) (i j : ℕ) (s t : List ℕ) → j < i → Before (p ++ i ∷ s) (p ++ j ∷ t)
fork [] i j s t h = inl h
fork (x ∷ p) i j s t h = inr (refl, fork p i j s t h)

-- p is a proper beginning of q
abbrev pub Begins : List ℕ → List ℕ → Type 0
Begins p q = (i : ℕ) × (s : List ℕ) × (q ≡ p ++ i ∷ s)

-- p and q first differ behind c, where p has the larger place
abbrev pub Larger : List ℕ → List ℕ → Type 0
Larger p q = (c s t : List ℕ) × (x y : ℕ) × (y < x) × (p ≡ c ++ x ∷ s) × (q ≡ c ++ y ∷ t)

pub before-is : (p q : List ℕ) → Before p q ↔ (Begins p q ⊎ Larger p q)
before-is p q = (to p q, ⊎_elim (λ (i, s, e). rw e (longer p i s)) (λ (c, s, t, x, y, h, e, e'). rw (e, e') (fork c x y s t h)))
  where
    to : (p q : List ℕ) → Before p q → Begins p q ⊎ Larger p q
    to p [] b = absurd b
    to [] (y ∷ q) b = inl (y, q, refl)
    to (x ∷ p) (y ∷ q) (inl h) = inr ([], p, q, x, y, h, refl, refl)
    to (x ∷ p) (y ∷ q) (inr (e, b)) = ⊎_elim
        (λ (i, s, k). inl (i, s, rw (e, k)))
        (λ (c, s, t, a, b, h, k, k'). inr (x ∷ c, s, t, a, b, h, ap (λ r. x ∷ r) k, rw (e, k')))
        (to p q b)

-- ---- a strict total order

pub irrefl : (p : List ℕ) → Before p p → ⊥
irrefl [] b = b
irrefl (x ∷ p) (inl h) = lt_irrefl x h
irrefl (x ∷ p) (inr h) = irrefl p h.1

pub trans : (p q r : List ℕ) → Before p q → Before q r → Before p r
trans p q [] b c = c
trans p [] (z ∷ r) b c = absurd b
trans [] (y ∷ q) (z ∷ r) b c = tt
trans (x ∷ p) (y ∷ q) (z ∷ r) (inl h) (inl k) = inl (omega arith)
trans (x ∷ p) (y ∷ q) (z ∷ r) (inl h) (inr k) = inl (rw k.0 at h)
trans (x ∷ p) (y ∷ q) (z ∷ r) (inr h) (inl k) = inl (rw h.0 k)
trans (x ∷ p) (y ∷ q) (z ∷ r) (inr h) (inr k) = inr (h.0 ∙ k.0, trans p q r h.1 k.1)

-- two places are one, or one of them is larger
two_places : (x y : ℕ) → (y < x) ⊎ ((x ≡ y) ⊎ (x < y))
two_places zero zero = inr (inl refl)
two_places zero (suc y) = inr (inr (omega arith))
two_places (suc x) zero = inl (omega arith)
two_places (suc x) (suc y) = ⊎_elim (λ h. inl (omega arith)) (⊎_elim (λ e. inr (inl (ap suc e))) (λ h. inr (inr (omega arith)))) (two_places x y)

pub same_or_before : (p q : List ℕ) → (p ≡ q) ⊎ (Before p q ⊎ Before q p)
same_or_before [] [] = inl refl
same_or_before [] (y ∷ q) = inr (inl tt)
same_or_before (x ∷ p) [] = inr (inr tt)
same_or_before (x ∷ p) (y ∷ q) = go (two_places x y) (same_or_before p q)
  where
    go : (y < x) ⊎ ((x ≡ y) ⊎ (x < y)) → (p ≡ q) ⊎ (Before p q ⊎ Before q p)
        → (x ∷ p ≡ y ∷ q) ⊎ (Before (x ∷ p) (y ∷ q) ⊎ Before (y ∷ q) (x ∷ p))
    go (inl h) r = inr (inl (inl h))
    go (inr (inr h)) r = inr (inr (inl h))
    go (inr (inl e)) (inl k) = inl (rw (e, k))
    go (inr (inl e)) (inr (inl b)) = inr (inl (inr (e, b)))
    go (inr (inl e)) (inr (inr b)) = inr (inr (inr (sym e, b)))

-- of two different paths one comes before the other
pub total : (p q : List ℕ) → p ≢ q → Before p q ⊎ Before q p
total p q h = ⊎_elim (λ e. absurd (h e)) (λ b. b) (same_or_before p q)
