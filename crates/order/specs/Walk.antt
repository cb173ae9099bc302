-- The simple paths as a program can follow them: the places by which a path goes on, a walk of the tree, and upstream's stack. A reader
-- need not believe this file: its walk is the listing of Paths.antt (`paths-listing` of proofs/Tree.antt), and its stack hands that out and
-- holds what waits by Waiting.antt (`stack-taken`, `stack-after` of proofs/Waiting.antt).
use Rattle.std.specs.Prelude.{Bool, true, false, not, ◌&&◌, ◌||◌, ℕ, zero, suc, ◌-◌, eqb, length}
use mathlib.Core.List.{List, [], ◌∷◌, ◌++◌, map, flat_map}
use Rattle.order.specs.Paths.{Places, last}

abbrev pub put : {A : Type 0} → Bool → A → List A → List A
put true x xs = x ∷ xs
put false x xs = xs

-- the elements that pass a test
abbrev pub keep : {A : Type 0} → (A → Bool) → List A → List A
keep f [] = []
keep f (x ∷ xs) = put (f x) x (keep f xs)

-- n - 1, .., 0
abbrev pub down : ℕ → List ℕ
down zero = []
down (suc n) = n ∷ down n

-- place i is used by a path
abbrev pub used : ℕ → List ℕ → Bool
used i [] = false
used i (x ∷ p) = eqb i x || used i p

-- p and then place i
abbrev pub snoc : List ℕ → ℕ → List ℕ
snoc p i = p ++ i ∷ []

-- the places by which p can go on, the largest first
unfoldable pub next : Places → List ℕ → List ℕ
next g p = keep (λ i. not (used i p) && g.issued i (last 0 p)) (down g.size)

-- p so extended
unfoldable pub kids : Places → List ℕ → List (List ℕ)
kids g p = map (snoc p) (next g p)

-- p and all that goes on from it, down to f more places
unfoldable pub walk : Places → ℕ → List ℕ → List (List ℕ)
walk g zero p = p ∷ []
walk g (suc f) p = p ∷ flat_map (walk g f) (kids g p)

-- p and all that goes on from it
unfoldable pub visit : Places → List ℕ → List (List ℕ)
visit g p = walk g (g.size - length p) p

-- all that goes on from [0]
abbrev pub paths : Places → List (List ℕ)
paths g = visit g (0 ∷ [])

-- a step on the stack: its top is taken off, and the top's children are put on
abbrev pub pop : Places → List (List ℕ) → List (List ℕ)
pop g [] = []
pop g (p ∷ s) = kids g p ++ s

-- the stack s after k steps
abbrev pub pops : Places → ℕ → List (List ℕ) → List (List ℕ)
pops g zero s = s
pops g (suc k) s = pop g (pops g k s)

-- the top, where there is one
abbrev pub top : List (List ℕ) → List (List ℕ)
top [] = []
top (p ∷ s) = p ∷ []

-- what the stack s hands out in k steps, the first one first
abbrev pub tops : Places → ℕ → List (List ℕ) → List (List ℕ)
tops g zero s = []
tops g (suc k) s = tops g k s ++ top (pops g k s)

-- the stack of a search after k steps, and what it handed out
abbrev pub stack : Places → ℕ → List (List ℕ)
stack g k = pops g k ((0 ∷ []) ∷ [])

abbrev pub taken : Places → ℕ → List (List ℕ)
taken g k = tops g k ((0 ∷ []) ∷ [])
