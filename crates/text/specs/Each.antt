-- A test asked of each element of a list: of some, then of every one. A reader must believe this file (docs/MAP.md). Two lists compared
-- place by place: `places` of same/specs/Same.antt; the same by places, as upstream's quantifiers have it: subtree/proofs/Upstream.antt.
use Rattle.std.specs.Prelude.{Bool, true, false, ◌&&◌, ◌||◌, List, [], ◌∷◌}

-- some element passes
abbrev pub any : {A : Type 0} → (A → Bool) → List A → Bool
any test [] = false
any test (x ∷ l) = test x || any test l

-- every element passes
abbrev pub all : {A : Type 0} → (A → Bool) → List A → Bool
all test [] = true
all test (x ∷ l) = test x && all test l
