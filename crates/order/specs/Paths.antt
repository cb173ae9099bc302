-- Simple paths (upstream's `is_simple_path`), their order, a path's rank and their number (docs/CARD-FILE.md, "Paths and their order"). A
-- path is the list of its places. No search is spoken of here. A reader must believe this file (docs/MAP.md).
-- Not here: what waits (Waiting.antt); how a program goes through them (Walk.antt); that the order is total (proofs/Order.antt) and that
-- there is one listing (proofs/Tree.antt); upstream's words for a simple path (search/specs/Valid.antt).
use Rattle.std.specs.Prelude.{Bool, true, List, [], ◌∷◌, ◌≢◌, ◌⊎◌, ◌≡◌, ℕ, suc, ◌<◌, length}
use Rattle.order.specs.Listing.{◌among◌, Sorted, Lists}

-- the places 0 .. size - 1, and who issued whom: `issued i j` says that the certificate at place i issued the one at place j
pub record Places : Type 0 where
  pub size : ℕ
  pub issued : ℕ → ℕ → Bool

-- the last place of a path, d for the empty one
abbrev pub last : ℕ → List ℕ → ℕ
last d [] = d
last d (x ∷ p) = last x p

-- each next certificate issued the one before
abbrev pub Linked : Places → List ℕ → Type 0
Linked g [] = Unit {0}
Linked g (x ∷ []) = Unit {0}
Linked g (x ∷ y ∷ p) = (g.issued y x ≡ true) × Linked g (y ∷ p)

-- a simple path starts at place 0, has no place twice, and each next certificate issued the one before
pub record Simple (g : Places) (p : List ℕ) : Type 0 where
  pub start : (r : List ℕ) × (p ≡ 0 ∷ r)
  pub inside : (x : ℕ) → x among p → x < g.size
  pub once : Sorted ◌≢◌ p
  pub linked : Linked g p

-- p comes before q: it is a proper beginning of q, or has the larger place at the first difference
abbrev pub Before : List ℕ → List ℕ → Type 0
Before p [] = ⊥
Before [] (y ∷ q) = Unit {0}
Before (x ∷ p) (y ∷ q) = (y < x) ⊎ ((x ≡ y) × Before p q)

-- ps are the simple paths, in that order
abbrev pub Listing : Places → List (List ℕ) → Type 0
Listing g ps = Lists Before (Simple g) ps

-- r is p's rank, from 1: there are r - 1 simple paths before p
abbrev pub Rank : Places → List ℕ → ℕ → Type 0
Rank g p r = (qs : List (List ℕ)) × Lists Before (λ q. Simple g q × Before q p) qs × (r ≡ suc (length qs))

-- c is the number of simple paths
abbrev pub Count : Places → ℕ → Type 0
Count g c = (ps : List (List ℕ)) × Listing g ps × (c ≡ length ps)
