-- A byte lowered (docs/CARD-FILE.md, "Text"), and byte strings compared: the same bytes, and the beginning of a string. A reader must
-- believe this file (docs/MAP.md).
-- Not here: the normal form (Normal.antt), a star (Wildcard.antt); that `same` is equality (proofs/Same.antt).
use Rattle.std.specs.Prelude.{ℕ, ◌+◌, Bool, true, false, cond, ◌&&◌, List, [], ◌∷◌, length, take, leb, eqb}

-- A to Z gain 32, all other bytes stay
unfoldable pub lowered : ℕ → ℕ
lowered b = cond (leb 65 b && leb b 90) (b + 32) b

-- the same bytes
unfoldable pub same : List ℕ → List ℕ → Bool
same [] [] = true
same [] (y ∷ b) = false
same (x ∷ a) [] = false
same (x ∷ a) (y ∷ b) = eqb x y && same a b

-- s begins with r
unfoldable pub starts_with : List ℕ → List ℕ → Bool
starts_with s r = leb (length r) (length s) && same (take (length r) s) r
